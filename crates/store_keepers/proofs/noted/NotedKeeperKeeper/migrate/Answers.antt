use Rattle.store_keepers.proofs.noted.NotedKeeperKeeper.migrate.Goals as goal

pub returns-clause-stop : goal.returns-clause-stop
returns-clause-stop g c = rw (← c.self.view_is) c.migrate-answer.ensures.stop
