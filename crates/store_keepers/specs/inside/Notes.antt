-- Which answers are faults.
use Rattle.std.specs.Prelude.{Bool, true, false, Result, Ok, Err}
use Rattle.keeper_core.specs.declared.keeper.KeepFault.{KeepFault}
use Rattle.keeper_core.specs.declared.keeper.KeepFault.TheVariants as keep
use Rattle.keeper_core.specs.declared.keeper.MigrateFault.{MigrateFault}
use Rattle.keeper_core.specs.declared.keeper.MigrateFault.TheVariants as migrate
use Rattle.keeper_core.specs.declared.keeper.Migrated.{Migrated}

-- a keeper's call failed
abbrev pub is_fault : {T : Type 0} → Result T KeepFault → Bool
is_fault (Err keep.Fault) = true
is_fault (Err keep.NoMemory) = false
is_fault (Ok x) = false

-- a migration failed
abbrev pub is_migrate_fault : Result Migrated MigrateFault → Bool
is_migrate_fault (Err migrate.Fault) = true
is_migrate_fault (Err (migrate.BadRow table n)) = false
is_migrate_fault (Err migrate.NoMemory) = false
is_migrate_fault (Ok done) = false
