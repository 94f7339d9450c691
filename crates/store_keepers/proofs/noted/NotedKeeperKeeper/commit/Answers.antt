use Rattle.store_keepers.proofs.noted.NotedKeeperKeeper.commit.Goals as goal

pub returns-clause-tables : goal.returns-clause-tables
returns-clause-tables g c = rw (← c.self.view_is) c.commit-answer.ensures.tables

pub returns-clause-stop : goal.returns-clause-stop
returns-clause-stop g c = rw (← c.self.view_is) c.commit-answer.ensures.stop
