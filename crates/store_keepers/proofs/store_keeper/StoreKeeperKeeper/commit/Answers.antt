use Rattle.store_keepers.proofs.store_keeper.StoreKeeperKeeper.commit.Goals as goal

pub returns-in-Memory-clause-tables : goal.returns-in-Memory-clause-tables
returns-in-Memory-clause-tables g c = rw c.in-Memory.is c.commit.ensures.tables

pub returns-in-Memory-clause-stop : goal.returns-in-Memory-clause-stop
returns-in-Memory-clause-stop g c = rw c.in-Memory.is c.commit.ensures.stop

pub returns-in-File-clause-tables : goal.returns-in-File-clause-tables
returns-in-File-clause-tables g c = rw c.in-File.is c.commit-in-File.ensures.tables

pub returns-in-File-clause-stop : goal.returns-in-File-clause-stop
returns-in-File-clause-stop g c = rw c.in-File.is c.commit-in-File.ensures.stop
