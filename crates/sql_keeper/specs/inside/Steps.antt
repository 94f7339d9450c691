-- What a statement inside a transaction, and a whole transaction, makes of the contents.
use Rattle.std.specs.Prelude.{◌≡◌, ◌⊎◌, ℕ, ℤ, Bool, false, List, [], map, Option, IsTrue}
use Rattle.std.specs.FinMap.{remove}
use Rattle.sqlite.specs.Tree.{Trees}
use Rattle.sqlite.specs.Order.{Row}
use Rattle.sqlite.specs.State.{State, IsUnchanged, IsRolledBack, Shown}
use Rattle.sched_rows.specs.declared.row.Row.{Row as Result}
use Rattle.keeper_core.specs.declared.tables.CacheKey.{CacheKey}
use Rattle.keeper_core.specs.Commits.{with_input, with_log, with_next, with_put, with_void}
use Rattle.keeper_core.specs.declared.stored.Stored.TheVariants.{Current}
use Rattle.keeper_core.specs.Contents.{Bytes, Contents}
use Rattle.sql_keeper.specs.Rows.{contents, stored}
use Rattle.sql_keeper.specs.inside.Databases.{IsKeeperDatabase, IsStoreDatabase}

-- ---- changes

-- without the result of a key
abbrev pub without_result : CacheKey → Contents → Contents
without_result k t = record t { cache = remove t.cache k }

-- with the next number
abbrev pub with_next_job : ℤ → Contents → Contents
with_next_job next t = record t { meta = map (with_next next) t.meta }

-- with an input's literal, if there is one
abbrev pub with_input_in : Option (Bytes × Bytes) → Contents → Contents
with_input_in o t = record t { inputs = with_input o t.inputs }

-- without the result of an operation and a key, if there are such
abbrev pub with_void_in : Option (Bytes × Bytes) → Contents → Contents
with_void_in o t = record t { cache = with_void o t.cache }

-- with a result, if there is one
abbrev pub with_put_in : Option Result → Contents → Contents
with_put_in o t = record t { cache = with_put o t.cache }

-- with a job's log, if there is one
abbrev pub with_log_in : Option (ℕ × Bytes) → Contents → Contents
with_log_in o t = record t { logs = with_log o t.logs }

-- ---- steps

-- the connection is open, in a transaction over the tables of a schema
pub record IsReadyFor (is_old : Bool) (s : State) : Type 0 where
  pub is_open : IsTrue s.is_open
  pub database : IsStoreDatabase is_old s.now
  pub inside : IsTrue s.in_transaction

-- over those of the second
abbrev pub IsReady : State → Type 0
IsReady = IsReadyFor false

-- a step changes nothing, and stays in the transaction
pub record Stays (is_old : Bool) (old new : State) : Type 0 where
  pub ready : IsReadyFor is_old new
  pub same : new.now ≡ old.now
  pub kept : new.committed ≡ old.committed

-- a step makes a change, and stays in the transaction
pub record Makes (change : Contents → Contents) (old new : State) : Type 0 where
  pub is_open : IsTrue new.is_open
  pub database : IsKeeperDatabase new.now
  pub contents : contents new.now.trees ≡ change (contents old.now.trees)
  pub inside : IsTrue new.in_transaction
  pub kept : new.committed ≡ old.committed

-- a step that failed did nothing, or ended the transaction
abbrev pub IsUndone : State → State → Type 0
IsUndone old new = IsUnchanged old new ⊎ IsRolledBack old new

-- ---- transactions

-- the change was committed
pub record HasCommitted (change : Contents → Contents) (old new : State) : Type 0 where
  pub was_open : IsTrue old.is_open
  pub is_open : IsTrue new.is_open
  pub database : IsKeeperDatabase new.now
  pub contents : contents new.now.trees ≡ change (contents old.now.trees)
  pub committed : new.committed ≡ new.now

-- a stop leaves what it could leave before, or the contents after the change
abbrev pub LeavesEither : (Contents → Contents) → State → State → Type 0
LeavesEither change old new = (db : Trees) → new.may_leave db → old.may_leave db ⊎ (IsTrue old.is_open × (stored db ≡ Current (change (contents old.now.trees))))

-- a stop leaves nothing that it couldn't leave before
abbrev pub LeavesNoMore : State → State → Type 0
LeavesNoMore old new = (db : Trees) → new.may_leave db → old.may_leave db

-- the items are what the rows say that a query shows
abbrev pub Says : {T : Type 0} → (Row → T) → List ℕ → State → State → List T → Type 0
Says says query old new items = (rows : List Row) × Shown query [] old new rows × (items ≡ map says rows)
