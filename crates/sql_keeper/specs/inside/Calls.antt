-- What a call says of the connection that it was given. Each says nothing if the disk didn't return what was written.
use Rattle.std.specs.Prelude.{◌≡◌, ℕ, ℤ, pos, Bool, false, List, map, Option, Some, Result, Err, IsTrue, IfOk, OnOk, OnErr}
use Rattle.std.specs.FinMap.{entries, get, keys}
use Rattle.sqlite.specs.Held.{Held, state}
use Rattle.sqlite.specs.Order.{Row}
use Rattle.sqlite.specs.Schema.{Schema}
use Rattle.sqlite.specs.State.{HasCleanDisk, IsLive, KeepsCommit, Opens, Survives}
use Rattle.sqlite.specs.Store.{Ghosts}
use Rattle.sqlite.specs.declared.error.Error.{Error}
use Rattle.sqlite.specs.declared.error.Error.TheVariants.{SqliteFailure}
use Rattle.sqlite.specs.declared.error.ErrorCode.TheVariants as code
use Rattle.core_rules.specs.declared.done.Delta.{Delta}
use Rattle.keeper_core.specs.declared.tables.CacheRow.{CacheRow}
use Rattle.keeper_core.specs.declared.tables.InputRow.{InputRow}
use Rattle.keeper_core.specs.declared.tables.MetaRow.{MetaRow}
use Rattle.keeper_core.specs.declared.tables.OldCacheRow.{OldCacheRow}
use Rattle.keeper_core.specs.declared.tables.Tables.{Tables}
use Rattle.keeper_core.specs.declared.stored.Stored.TheVariants.{Current}
use Rattle.keeper_core.specs.Commits.{with_delta}
use Rattle.keeper_core.specs.EitherSchema.{loaded_of}
use Rattle.keeper_core.specs.Contents.{Bytes, Contents, OldContents, cache_row, has_format, input_row, log_in, old_cache_row}
use Rattle.sql_keeper.specs.Rows.{contents, old_contents, stored, stored_as}
use Rattle.sql_keeper.specs.inside.Adopting.{IsAdopted}
use Rattle.sql_keeper.specs.inside.Databases.{AreKeyed, IsStoreDatabase}
use Rattle.sql_keeper.specs.declared.columns.LogRow.{LogRow}
use Rattle.sql_keeper.specs.declared.moving.Moved.{Moved}
use Rattle.sql_keeper.specs.inside.ShownRows.{log_row}
use Rattle.sql_keeper.specs.inside.Moving.{DropsTable, HasMovedAs, IsDropping, LeavesMoved, MovesAs, SparesIfBad}
use Rattle.sql_keeper.specs.inside.Fresh.{HasMade, IsBlank, IsMaking, MakesFresh, MakesTable}
use Rattle.sql_keeper.specs.inside.Steps.{HasCommitted, IsReadyFor, IsUndone, LeavesEither, LeavesNoMore, Makes, Says, Stays}

-- ---- parts of the contents

-- the rows of meta
abbrev pub meta_of : Contents → List MetaRow
meta_of t = t.meta

-- the inputs by name
abbrev pub input_rows : Contents → List InputRow
input_rows t = map input_row (entries t.inputs)

-- the results by operation and key
abbrev pub result_rows : Contents → List CacheRow
result_rows t = map cache_row (entries t.cache)

-- the numbers of the jobs that have a log
abbrev pub job_numbers : Contents → List ℤ
job_numbers t = keys t.logs

-- all rows, after these of meta
abbrev pub rest_of : List MetaRow → Contents → Tables
rest_of meta t = record { meta = meta; inputs = input_rows t; cache = result_rows t; logs = job_numbers t }

-- the output under a number
abbrev pub output_at : ℤ → Contents → Option Bytes
output_at job t = get t.logs job

-- the log of a job
abbrev pub log_at : ℕ → Contents → Option Bytes
log_at job t = log_in t.logs job

-- the results of the first schema by operation and key
abbrev pub old_result_rows : OldContents → List OldCacheRow
old_result_rows t = map old_cache_row (entries t.cache)

-- the outputs by job, as rows
abbrev pub log_rows : OldContents → List LogRow
log_rows t = map log_row (entries t.logs)

-- whether there is one row of meta, of the second schema
abbrev pub says_second : Contents → Bool
says_second t = has_format (pos 2) t.meta

module _ {S : Type 0} (g : Ghosts S) where
  -- ---- before a call

  -- it is in a transaction
  abbrev pub IsInside : Held S → Type 0
  IsInside h = HasCleanDisk (state g h) → IsTrue (state g h).in_transaction

  -- it is ready for a step on the tables of a schema
  abbrev pub IsReadyForIn : Bool → Held S → Type 0
  IsReadyForIn is_old h = HasCleanDisk (state g h) → IsReadyFor is_old (state g h)

  -- on those of the second
  abbrev pub IsReadyIn : Held S → Type 0
  IsReadyIn = IsReadyForIn false

  -- it has these tables, all empty
  abbrev pub IsMakingIn : Schema → Held S → Type 0
  IsMakingIn made h = HasCleanDisk (state g h) → IsMaking made (state g h)

  -- it has the tables of this schema
  abbrev pub IsDroppingIn : Schema → Held S → Type 0
  IsDroppingIn tables h = HasCleanDisk (state g h) → IsDropping tables (state g h)

  -- it has no table
  abbrev pub IsBlankIn : Held S → Type 0
  IsBlankIn h = HasCleanDisk (state g h) → IsBlank (state g h)

  -- it has the tables of a schema, if it is open
  abbrev pub HasStore : Bool → Held S → Type 0
  HasStore is_old h = HasCleanDisk (state g h) → IsTrue (state g h).is_open → IsStoreDatabase is_old (state g h).now

  -- those of the second
  abbrev pub HasDatabase : Held S → Type 0
  HasDatabase = HasStore false

  -- all is committed, if it is open
  abbrev pub IsSettled : Held S → Type 0
  IsSettled h = HasCleanDisk (state g h) → IsTrue (state g h).is_open → (state g h).now ≡ (state g h).committed

  -- ---- inside a transaction

  -- it was open, is ready for a step, and is otherwise the same
  abbrev pub Touches : {T : Type 0} → Bool → Held S → Held S → Result T Error → Type 0
  Touches is_old old new result = HasCleanDisk (state g new) → OnOk result (IsTrue (state g old).is_open × Stays is_old (state g old) (state g new))

  -- Ok changed nothing
  abbrev pub StaysIn : {T : Type 0} → Bool → Held S → Held S → Result T Error → Type 0
  StaysIn is_old old new result = HasCleanDisk (state g new) → OnOk result (Stays is_old (state g old) (state g new))

  -- Ok made a change
  abbrev pub Steps : {T : Type 0} → (Contents → Contents) → Held S → Held S → Result T Error → Type 0
  Steps change old new result = HasCleanDisk (state g new) → OnOk result (Makes change (state g old) (state g new))

  -- it was open, and Ok made a change
  abbrev pub MakesIn : {T : Type 0} → (Contents → Contents) → Held S → Held S → Result T Error → Type 0
  MakesIn change old new result = HasCleanDisk (state g new) → OnOk result (IsTrue (state g old).is_open × Makes change (state g old) (state g new))

  -- the same, with what the trees show then
  abbrev pub MakesShown : {T : Type 0} → (Contents → Contents) → Held S → Held S → Result T Error → Type 0
  MakesShown change old new result = HasCleanDisk (state g new) → OnOk result (IsTrue (state g old).is_open × Makes change (state g old) (state g new) × (stored (state g new).now.trees ≡ Current (change (contents (state g old).now.trees))))

  -- Ok made a table
  abbrev pub AddsTable : {T : Type 0} → Schema → Held S → Held S → Result T Error → Type 0
  AddsTable made old new result = HasCleanDisk (state g new) → OnOk result (MakesTable made (state g old) (state g new))

  -- Ok dropped a table, so that this schema is left
  abbrev pub DropsTableIn : {T : Type 0} → Schema → Held S → Held S → Result T Error → Type 0
  DropsTableIn left old new result = HasCleanDisk (state g new) → OnOk result (DropsTable left (state g old) (state g new))

  -- Ok made the contents fresh
  abbrev pub Fills : {T : Type 0} → Held S → Held S → Result T Error → Type 0
  Fills old new result = HasCleanDisk (state g new) → OnOk result (MakesFresh (state g old) (state g new))

  -- Err did nothing, or ended the transaction
  abbrev pub Undoes : {T : Type 0} → Held S → Held S → Result T Error → Type 0
  Undoes old new result = HasCleanDisk (state g new) → OnErr result (IsUndone (state g old) (state g new))

  -- the items are what the rows say that a query shows
  abbrev pub SaysIn : {T : Type 0} → (Row → T) → List ℕ → Held S → Held S → Result (List T) Error → Type 0
  SaysIn says query old new result = HasCleanDisk (state g new) → IfOk result (Says says query (state g old) (state g new))

  -- what was read is this part of the contents
  abbrev pub ReadsAs : {T : Type 0} → (Contents → T) → Held S → Held S → Result T Error → Type 0
  ReadsAs part old new result = HasCleanDisk (state g new) → IfOk result (λ x. x ≡ part (contents (state g old).now.trees))

  -- what was read is this part of the contents of the first schema
  abbrev pub ReadsOld : {T : Type 0} → (OldContents → T) → Held S → Held S → Result T Error → Type 0
  ReadsOld part old new result = HasCleanDisk (state g new) → IfOk result (λ x. x ≡ part (old_contents (state g old).now.trees))

  -- what was loaded is what the tables of a schema show
  abbrev pub LoadsStored : Bool → Held S → Held S → Result Tables Error → Type 0
  LoadsStored is_old old new result = HasCleanDisk (state g new) → IfOk result (λ tables. loaded_of (stored_as is_old (state g old).now.trees) ≡ Some tables)

  -- Ok moved all rows, or names the first bad one
  abbrev pub MovesIn : Held S → Held S → Result Moved Error → Type 0
  MovesIn old new result = HasCleanDisk (state g new) → IfOk result (MovesAs (state g old) (state g new))

  -- Ok moved all rows and committed that, or names the first bad one
  abbrev pub OnceMoved : Held S → Held S → Result Moved Error → Type 0
  OnceMoved old new result = HasCleanDisk (state g new) → IfOk result (HasMovedAs (state g old) (state g new))

  -- a stop leaves what it could leave before, or the moved tables
  abbrev pub LeavesMovedIn : Held S → Held S → Type 0
  LeavesMovedIn old new = HasCleanDisk (state g new) → LeavesMoved (state g old) (state g new)

  -- if a bad row is named, a stop leaves nothing that it couldn't leave before
  abbrev pub SparesBadRow : Held S → Held S → Result Moved Error → Type 0
  SparesBadRow old new result = HasCleanDisk (state g new) → IfOk result (SparesIfBad (state g old) (state g new))

  -- nothing was committed
  abbrev pub KeepsCommitIn : Held S → Held S → Type 0
  KeepsCommitIn old new = HasCleanDisk (state g new) → KeepsCommit (state g old) (state g new)

  -- a crash leaves nothing that it couldn't leave before
  abbrev pub CommitsNothing : Held S → Held S → Type 0
  CommitsNothing old new = Survives (state g old) (state g new) (λ _. ⊥)

  -- ---- after a transaction

  -- it shows the last commit from before the call
  abbrev pub ShowsCommitted : Held S → Held S → Type 0
  ShowsCommitted old new = HasCleanDisk (state g new) → IsTrue (state g new).is_open → IsTrue (state g old).is_open × ((state g new).now ≡ (state g old).committed) × ((state g new).committed ≡ (state g old).committed)

  -- after Err it shows the last commit from before the call
  abbrev pub FailsToCommit : {T : Type 0} → Held S → Held S → Result T Error → Type 0
  FailsToCommit old new result = HasCleanDisk (state g new) → IsTrue (state g new).is_open → OnErr result (IsTrue (state g old).is_open × ((state g new).now ≡ (state g old).committed) × ((state g new).committed ≡ (state g old).committed))

  -- Ok committed the delta
  abbrev pub OnceCommitted : {T : Type 0} → Delta → Held S → Held S → Result T Error → Type 0
  OnceCommitted d old new result = HasCleanDisk (state g new) → OnOk result (HasCommitted (with_delta d) (state g old) (state g new))

  -- a stop leaves what it could leave before, or the contents with the delta
  abbrev pub LeavesEitherIn : Delta → Held S → Held S → Type 0
  LeavesEitherIn d old new = HasCleanDisk (state g new) → LeavesEither (with_delta d) (state g old) (state g new)

  -- out of memory, a stop leaves nothing that it couldn't leave before
  abbrev pub SparesIn : {T : Type 0} → Held S → Held S → Result T Error → Type 0
  SparesIn old new result = HasCleanDisk (state g new) → result ≡ Err (SqliteFailure code.OutOfMemory) → LeavesNoMore (state g old) (state g new)

  -- the disk had returned what was written
  abbrev pub WasClean : Held S → Held S → Type 0
  WasClean old new = HasCleanDisk (state g new) → HasCleanDisk (state g old)

  -- it was open, if so answered
  abbrev pub WasOpen : Held S → Held S → Bool → Type 0
  WasOpen old new answer = HasCleanDisk (state g new) → IsTrue answer → IsTrue (state g old).is_open

  -- Ok made fresh tables
  abbrev pub OnceMade : {T : Type 0} → Held S → Result T Error → Type 0
  OnceMade new result = HasCleanDisk (state g new) → OnOk result (HasMade (state g new))

  -- ---- a connection over the same store

  -- it has just been opened
  abbrev pub IsOpened : Held S → Type 0
  IsOpened h = HasCleanDisk (state g h) → Opens (state g h) × IsLive (state g h)

  -- the rowids of each table rise
  abbrev pub IsKeyedIn : Held S → Type 0
  IsKeyedIn h = HasCleanDisk (state g h) → AreKeyed (state g h).now

  -- it shows what the other committed last
  abbrev pub ShowsLastOf : Held S → Held S → Type 0
  ShowsLastOf before h = HasCleanDisk (state g h) → (state g h).now.trees ≡ (state g before).committed.trees

  -- it was adopted, with the tables of a schema
  abbrev pub AdoptedFrom : Held S → Held S → Bool → Type 0
  AdoptedFrom before h is_old = HasCleanDisk (state g h) → IsAdopted is_old (state g before) (state g h)
