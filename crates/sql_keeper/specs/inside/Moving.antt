-- What a migration makes of the tables.
use Rattle.std.specs.Prelude.{◌≡◌, ◌⊎◌, ℕ, List, codes, fold, length, map, Some, None, IsTrue}
use Rattle.std.specs.FinMap.{entries}
use Rattle.sqlite.specs.Change.{without_table}
use Rattle.sqlite.specs.Effect.{IsDatabase}
use Rattle.sqlite.specs.Schema.{Schema}
use Rattle.sqlite.specs.State.{State}
use Rattle.sqlite.specs.Tree.{Trees}
use Rattle.keeper_core.specs.declared.stored.Stored.TheVariants.{Current}
use Rattle.keeper_core.specs.Migrations.{moved}
use Rattle.sql_keeper.specs.declared.moving.Moved.{Moved}
use Rattle.sql_keeper.specs.declared.moving.Moved.TheVariants.{BadRow, Rows}
use Rattle.sql_keeper.specs.inside.Databases.{IsKeeperDatabase}
use Rattle.keeper_core.specs.declared.tables.InputRow.{InputRow}
use Rattle.keeper_core.specs.declared.tables.OldCacheRow.{OldCacheRow}
use Rattle.keeper_core.specs.Commits.{cache_key}
use Rattle.keeper_core.specs.Contents.{Contents, OldContents, old_rows, with_literal, with_output, with_result}
use Rattle.keeper_core.specs.WellFormed.{next_of, old_first_bad, old_value_in}
use Rattle.sql_keeper.specs.declared.columns.LogRow.{LogRow}
use Rattle.sql_keeper.specs.declared.first.OldStore.{OldStore}
use Rattle.sql_keeper.specs.inside.Schemas.{old_schema}
use Rattle.sql_keeper.specs.inside.ShownRows.{log_row}
use Rattle.sql_keeper.specs.inside.Steps.{IsReady, with_next_job}
use Rattle.sql_keeper.specs.Rows.{contents, old_contents, stored}

-- ---- the texts

-- without outputs
abbrev pub drop_logs : List ℕ
drop_logs = codes "DROP TABLE logs"

-- without results
abbrev pub drop_cache : List ℕ
drop_cache = codes "DROP TABLE cache"

-- without inputs
abbrev pub drop_inputs : List ℕ
drop_inputs = codes "DROP TABLE inputs"

-- without numbers
abbrev pub drop_meta : List ℕ
drop_meta = codes "DROP TABLE meta"

-- ---- the schemas after them

-- meta, inputs and results are left
abbrev pub after_logs : Schema
after_logs = without_table old_schema 5

-- meta and inputs are left
abbrev pub after_cache : Schema
after_cache = without_table after_logs 3

-- meta is left
abbrev pub after_inputs : Schema
after_inputs = without_table after_cache 1

-- nothing is left
abbrev pub after_meta : Schema
after_meta = without_table after_inputs 0

-- ---- steps

-- an open connection in a transaction over a sound database of this schema
pub record IsDropping (tables : Schema) (s : State) : Type 0 where
  pub is_open : IsTrue s.is_open
  pub schema : s.now.schema ≡ tables
  pub sound : IsDatabase s.now
  pub inside : IsTrue s.in_transaction

-- a step drops a table, so that this schema is left
pub record DropsTable (tables : Schema) (old new : State) : Type 0 where
  pub dropping : IsDropping tables new
  pub kept : new.committed ≡ old.committed

-- ---- what is put in

-- with each of these inputs in turn
abbrev pub with_inputs : List InputRow → Contents → Contents
with_inputs rows t = fold (λ now r. with_literal r.name r.literal now) t rows

-- with a result of the first schema, with its hash
abbrev pub with_old_result : OldCacheRow → Contents → Contents
with_old_result r t = with_result (cache_key r.op r.ckey) (old_value_in r) t

-- with each of these results in turn
abbrev pub with_old_results : List OldCacheRow → Contents → Contents
with_old_results rows t = fold (λ now r. with_old_result r now) t rows

-- with each of these outputs in turn
abbrev pub with_logs : List LogRow → Contents → Contents
with_logs rows t = fold (λ now r. with_output r.job r.output now) t rows

-- with all rows of a store of the first schema
abbrev pub with_store : OldStore → Contents → Contents
with_store s t = with_logs s.logs (with_old_results s.tables.cache (with_inputs s.tables.inputs (with_next_job (next_of s.tables.meta) t)))

-- a step on the way to a change, of which this is left
pub record Reaches (rest whole : Contents → Contents) (old now : State) : Type 0 where
  pub ready : IsReady now
  pub contents : rest (contents now.now.trees) ≡ whole (contents old.now.trees)
  pub kept : now.committed ≡ old.committed

-- all rows of the contents
abbrev pub store_of : OldContents → OldStore
store_of t = record { tables = old_rows t; logs = map log_row (entries t.logs) }

-- ---- a migration

-- all rows were moved inside a transaction
pub record MovesAll (n : ℕ) (old new : State) : Type 0 where
  pub sound : old_first_bad (old_rows (old_contents old.now.trees)) ≡ None
  pub is_open : IsTrue new.is_open
  pub database : IsKeeperDatabase new.now
  pub shown : stored new.now.trees ≡ Current (moved (old_contents old.now.trees))
  pub results : n ≡ length (entries (old_contents old.now.trees).cache)
  pub inside : IsTrue new.in_transaction
  pub kept : new.committed ≡ old.committed

-- all rows were moved, or the first bad one is named
abbrev pub MovesAs : State → State → Moved → Type 0
MovesAs old new (Rows n) = MovesAll n old new
MovesAs old new (BadRow table n) = old_first_bad (old_rows (old_contents old.now.trees)) ≡ Some (table, n)

-- all rows were moved, and that is committed
pub record HasMovedAll (n : ℕ) (old new : State) : Type 0 where
  pub sound : old_first_bad (old_rows (old_contents old.now.trees)) ≡ None
  pub was_open : IsTrue old.is_open
  pub is_open : IsTrue new.is_open
  pub database : IsKeeperDatabase new.now
  pub shown : stored new.now.trees ≡ Current (moved (old_contents old.now.trees))
  pub results : n ≡ length (entries (old_contents old.now.trees).cache)
  pub committed : new.committed ≡ new.now

-- the last commit from before is shown still
abbrev pub ShowsStill : State → State → Type 0
ShowsStill old new = IsTrue new.is_open → IsTrue old.is_open × (new.now ≡ old.committed) × (new.committed ≡ old.committed)

-- all rows were moved and committed, or the first bad one is named
abbrev pub HasMovedAs : State → State → Moved → Type 0
HasMovedAs old new (Rows n) = HasMovedAll n old new
HasMovedAs old new (BadRow table n) = (old_first_bad (old_rows (old_contents old.now.trees)) ≡ Some (table, n)) × ShowsStill old new

-- a stop leaves what it could leave before, or the moved tables
abbrev pub LeavesMoved : State → State → Type 0
LeavesMoved old new = (db : Trees) → new.may_leave db → old.may_leave db ⊎ (IsTrue old.is_open × (stored db ≡ Current (moved (old_contents old.now.trees))))

-- if a bad row is named, a stop leaves nothing that it couldn't leave before
abbrev pub SparesIfBad : State → State → Moved → Type 0
SparesIfBad old new (Rows n) = Unit {0}
SparesIfBad old new (BadRow table n) = (db : Trees) → new.may_leave db → old.may_leave db
