-- What an opening makes of what is stored.
use Rattle.std.specs.Prelude.{◌≡◌, ◌⊎◌, ◌<◌, ◌≤◌, ◌^◌, ℕ, List, [], length, Option, Some, None, if◌then◌else◌, is_some}
use Rattle.std.specs.List.{AllByRecursion}
use Rattle.value_core.specs.declared.state.Triple.{Triple}
use Rattle.term_core.specs.Counts.{in_order}
use Rattle.std.specs.FinMap.{get}
use Rattle.op_keys.specs.declared.level.Level.{Level}
use Rattle.term_core.specs.declared.program.Program.{Program}
use Rattle.sched_rows.specs.declared.row.Row.{Row}
use Rattle.sched_rows.specs.RowKeys.{RowKey, key_of}
use Rattle.sched_rows.specs.Rows.{Kept, Rows, with_row}
use Rattle.sched_rows.specs.Validity.{IsTime}
use Rattle.fair_pool.specs.Pools.{opened as pools_opened}
use Rattle.core_rules.specs.Core.{CoreState, layout_of}
use Rattle.core_rules.specs.Openings.{Durable, opened}
use Rattle.core_rules.specs.Parts.{core_of, dressed}
use Rattle.core_rules.specs.Settling.{settle_for}
use Rattle.core_rules.specs.declared.events.Refusal.{Refusal}
use Rattle.core_rules.specs.declared.events.Refusal.TheVariants as refusal
use Rattle.core_rules.specs.Replies.{changed_from, new_conflicts, next_alone}
use Rattle.core_rules.specs.declared.done.Done.{Done}
use Rattle.core_rules.specs.declared.notes.Note.TheVariants as note
use Rattle.job_core.specs.State.{JobsState}
use Rattle.engine_rules.specs.Openings.{first_work}
use Rattle.engine_rules.specs.Touched.{KeptFor, expiry_named}
use Rattle.visit_rules.specs.Visits.{all_wants, states}
use Rattle.visit_rules.specs.declared.visit.Visit.{Visit}
use Rattle.engine_core.specs.declared.engine.opening.FirstReply.{FirstReply}
use Rattle.engine_core.specs.declared.stored.OpenedParts.{OpenedParts}

-- each row finished within the times
abbrev pub IsInTime : Rows → Type 0
IsInTime rows = (k : RowKey) (r : Row) → get rows k ≡ Some r → IsTime r.finished

-- a row with the expiry of its operation, unless one with its key is there
abbrev pub with_first : Program → Row → Kept → Kept
with_first p r k = if is_some (get k.rows (key_of r)) then k else with_row r (expiry_named p r.op) k

-- these rows are kept with the expiries of their operations
pub record AreRowsFor (p : Program) (all : Rows) (k : Kept) : Type 0 where
  pub rows : k.rows ≡ all
  pub expiries : KeptFor p k

-- no job, and no room for one
abbrev pub AreNoJobs : Program → Option Level → ℕ → JobsState → Type 0
AreNoJobs program threshold next j =
    j ≡ record { work = record { program = program; threshold = threshold; next = next; jobs = []; fair = (pools_opened (layout_of program)).fair }; spare = 0 }

-- the parts of the state that is opened, before it is settled
pub record AreOpened (program : Program) (durable : Durable) (threshold : Option Level) (reading : ℕ) (o : OpenedParts) : Type 0 where
  pub inputs : o.inputs.items ≡ (opened program durable threshold reading).inputs
  pub rows : AreRowsFor program durable.rows o.rows
  pub jobs : o.jobs ≡ record { work = first_work program durable threshold; spare = 0 }
  pub moment : o.moment ≡ (opened program durable threshold reading).now

-- the state of opened parts, without its inputs
abbrev pub bare_of : OpenedParts → CoreState
bare_of o = core_of o.jobs.work o.rows.rows o.moment

-- their whole state, which is of version 1
abbrev pub state_of_parts : OpenedParts → CoreState
state_of_parts o = dressed o.inputs.items 1 (bare_of o)

-- opened parts may be settled for what the trees want
pub record CanSettleFirst (trees : List Visit) (o : OpenedParts) : Type 0 where
  pub time : o.moment ≤ 2 ^ 60
  pub declared : AllByRecursion (λ (t : Triple). t.op < length o.jobs.work.program.ops) (in_order (all_wants trees))

-- parts are the opened ones, settled for what the trees want
pub record IsFirstSettled (trees : List Visit) (o r : OpenedParts) : Type 0 where
  pub inputs : r.inputs.items ≡ o.inputs.items
  pub rows : r.rows ≡ o.rows
  pub moment : r.moment ≡ o.moment
  pub settled : settle_for (in_order (all_wants trees)) (bare_of o) ≡ Some (core_of r.jobs.work o.rows.rows o.moment)

-- the numbers of jobs don't suffice, or memory is out
abbrev pub IsFirstUnsettled : List Visit → OpenedParts → Refusal → Type 0
IsFirstUnsettled trees o r = (r ≡ refusal.NoMemory) ⊎ ((r ≡ refusal.NumbersUsed) × (settle_for (in_order (all_wants trees)) (bare_of o) ≡ None))

-- every node is changed, and every conflict is new
pub record IsFirstReply (trees : List Visit) (f : FirstReply) : Type 0 where
  pub changed : f.changed ≡ changed_from 0 [] (states trees)
  pub conflicts : f.conflicts ≡ new_conflicts [] (all_wants trees)

-- the reply of an opening, by the next number
abbrev pub first_done : FirstReply → ℕ → Done
first_done f next = record { version = 1; note = note.Plain; changed = f.changed; conflicts = f.conflicts; signals = []; delta = next_alone next }

-- an engine of settled parts, with its first reply
pub record IsFirst (parts : OpenedParts) (f : FirstReply) (s : CoreState) (d : Done) : Type 0 where
  pub core : s ≡ state_of_parts parts
  pub done : d ≡ first_done f parts.jobs.work.next
