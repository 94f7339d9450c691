-- Why a store is refused.
use Rattle.std.specs.Prelude.{◌≡◌, ◌≢◌, ◌⊎◌, false, Result, Ok, Err, ⊤}
use Rattle.sqlite.specs.Held.{Held, state}
use Rattle.sqlite.specs.Schema.{Schema}
use Rattle.sqlite.specs.Store.{Ghosts}
use Rattle.sqlite.specs.Tree.{Trees}
use Rattle.sqlite.specs.View.{IsClean}
use Rattle.sqlite.specs.declared.error.Error.{Error}
use Rattle.sqlite.specs.declared.error.Error.TheVariants.{SqliteFailure}
use Rattle.sqlite.specs.declared.error.ErrorCode.TheVariants as code
use Rattle.sqlite_catalog.specs.Listing.{IsSound}
use Rattle.sqlite.specs.Disk.{MoreFaults}
use Rattle.keeper_core.specs.declared.keeper.KeepFault.{KeepFault}
use Rattle.keeper_core.specs.declared.keeper.KeepFault.TheVariants as keep
use Rattle.sql_keeper.specs.Kept.{ListsNoTable}
use Rattle.sql_keeper.specs.inside.Schemas.{keeper_schema, no_schema, old_schema}

-- the trees are a database whose tables are those of no keeper
pub record HasOtherTables (trees : Trees) : Type 0 where
  pub schema : Schema
  pub sound : IsSound schema trees
  pub is_not_blank : schema ≢ no_schema
  pub is_not_first : schema ≢ old_schema
  pub is_not_current : schema ≢ keeper_schema

-- no schema is that of the trees
abbrev pub IsNoDatabase : Trees → Type 0
IsNoDatabase trees = (schema : Schema) → ¬ IsSound schema trees

-- the last commit left no store of a keeper
abbrev pub IsNoStore : Trees → Type 0
IsNoStore trees = IsNoDatabase trees ⊎ HasOtherTables trees

-- out of memory stays, and each other error is a fault
abbrev pub fault_of : Error → KeepFault
fault_of (SqliteFailure code.OutOfMemory) = keep.NoMemory
fault_of _ = keep.Fault

module _ {S : Type 0} (g : Ghosts S) (before : Held S) where
  -- the connection was shut, its disk has failed since, there is no store, or its tables were to be made
  abbrev pub HasReason : S → Type 0
  HasReason left =
      ((state g before).is_open ≡ false)
      ⊎ (MoreFaults (g.faults before.store) (g.faults left)
      ⊎ (IsNoStore (state g before).committed.trees ⊎ ListsNoTable (state g before).committed.trees))

  -- a store that the call left has a reason, if its disk returned what was written
  abbrev pub IsRefused : Type 0
  IsRefused = (left : S) × (IsClean (g.view left) → HasReason left)

  -- the same, unless memory ran out
  abbrev pub FailsToAdopt : Error → Type 0
  FailsToAdopt e = (left : S) × (IsClean (g.view left) → (e ≡ SqliteFailure code.OutOfMemory) ⊎ HasReason left)

  -- a fault of an adoption is a refusal
  abbrev pub FaultsIfRefused : {T : Type 0} → Result T KeepFault → Type 0
  FaultsIfRefused (Err keep.Fault) = IsRefused
  FaultsIfRefused (Err keep.NoMemory) = ⊤
  FaultsIfRefused (Ok x) = ⊤
