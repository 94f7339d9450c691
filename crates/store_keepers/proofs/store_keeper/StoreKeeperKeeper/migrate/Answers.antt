use Rattle.store_keepers.proofs.store_keeper.StoreKeeperKeeper.migrate.Goals as goal

pub returns-in-Memory-clause-stop : goal.returns-in-Memory-clause-stop
returns-in-Memory-clause-stop g c = rw c.in-Memory.is c.migrate.ensures.stop

pub returns-in-File-clause-stop : goal.returns-in-File-clause-stop
returns-in-File-clause-stop g c = rw c.in-File.is c.migrate-in-File.ensures.stop
