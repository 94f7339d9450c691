-- What a keeper's connection keeps between calls.
use Rattle.std.specs.Prelude.{◌≡◌, ℕ, false, IsTrue}
use Rattle.sqlite.specs.Held.{state}
use Rattle.sqlite.specs.State.{HasCleanDisk}
use Rattle.sqlite.specs.Store.{Ghosts}
use Rattle.sqlite.specs.Tree.{Trees}
use Rattle.io_ends.specs.Causes.{raised}
use Rattle.keeper_core.specs.declared.keeper.KeepFault.{KeepFault}
use Rattle.keeper_core.specs.declared.keeper.KeepFault.TheVariants as keep
use Rattle.keeper_core.specs.declared.keeper.MigrateFault.{MigrateFault}
use Rattle.keeper_core.specs.declared.keeper.MigrateFault.TheVariants as migrate
use Rattle.sql_keeper.specs.Kept.{Kept, MayLeave}
use Rattle.sql_keeper.specs.Rows.{stored}
use Rattle.sql_keeper.specs.inside.Databases.{IsStoreDatabase}

-- no transaction is open, the database has the tables, and a stop leaves what the last commit may leave
pub record IsKept {S : Type 0} (g : Ghosts S) (k : Kept S) : Type 0 where
  pub idle : k.conn.in_transaction ≡ false
  pub database : HasCleanDisk (state g k.conn) → IsTrue (state g k.conn).is_open → IsStoreDatabase k.is_old (state g k.conn).now
  pub settled : HasCleanDisk (state g k.conn) → IsTrue (state g k.conn).is_open → (state g k.conn).now ≡ (state g k.conn).committed
  pub last : IsTrue (state g k.conn).is_open → IsTrue (state g k.last).is_open × ((state g k.last).committed ≡ (state g k.conn).committed)
  pub covered : HasCleanDisk (state g k.conn) → (db : Trees) → (state g k.conn).may_leave db → MayLeave (state g k.last) (stored db)

-- a fault is counted, and running out of memory isn't
abbrev pub Refuses : ℕ → ℕ → KeepFault → Type 0
Refuses before now keep.Fault = now ≡ raised before
Refuses before now keep.NoMemory = now ≡ before

-- the same fault, of a migration
abbrev pub unmigrated : KeepFault → MigrateFault
unmigrated keep.Fault = migrate.Fault
unmigrated keep.NoMemory = migrate.NoMemory
