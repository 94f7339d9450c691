-- The laws, as statements.
use Rattle.std.specs.Prelude.{◌≡◌, ℕ, ◌+◌, ◌<◌, ◌≤◌, true, false, ◌||◌, List, [], ◌∷◌, Option, Some, None, is_some, length, slice_get, slice_set, map, filter}
use Rattle.std.specs.List.{AllByRecursion}
use Rattle.std.specs.FinMap.{get}
use Rattle.value_core.specs.declared.state.State.{State}
use Rattle.value_core.specs.declared.state.Stage.TheVariants.{Ready}
use Rattle.value_core.specs.declared.state.Triple.{Triple}
use Rattle.op_keys.specs.declared.level.Level.{Level}
use Rattle.op_keys.specs.declared.order.Order.{Order}
use Rattle.term_core.specs.declared.program.Program.{Program}
use Rattle.term_core.specs.Limits.{IsWithinLimits}
use Rattle.term_core.specs.World.{entry_of}
use Rattle.sched_rows.specs.declared.row.Row.{Row}
use Rattle.sched_rows.specs.RowKeys.{RowKey}
use Rattle.sched_rows.specs.Rows.{Rows}
use Rattle.fair_pool.specs.Layouts.{capacity_of}
use Rattle.core_rules.specs.declared.jobs.Job.{Job}
use Rattle.core_rules.specs.declared.events.Event.{Event}
use Rattle.core_rules.specs.declared.log.Logged.{Logged}
use Rattle.core_rules.specs.declared.notes.Note.TheVariants as note
use Rattle.core_rules.specs.Bounds.{AreTicketsOwn, IsBounded}
use Rattle.core_rules.specs.Core.{CoreState, op_of, goes_on, may_start, stage, is_queued, job_numbered}
use Rattle.core_rules.specs.Entries.{entry_in, world, states, wants, refs}
use Rattle.core_rules.specs.Openings.{Durable, IsDurable, IsOpenable, start}
use Rattle.core_rules.specs.Orders.{load, order_for, picked}
use Rattle.core_rules.specs.Replays.{Leads, Replays}
use Rattle.core_rules.specs.declared.done.Done.{Done}
use Rattle.core_rules.specs.Settling.{is_unmarked, live_on, settle, settle_for}
use Rattle.term_core.specs.Counts.{is_wanted}
use Rattle.core_rules.specs.Steps.{Accepted, at_time, step}
use Rattle.core_rules.specs.Stored.{durable, stored, with_delta}

-- ---- evaluation

-- the world of a state has the state's entry for each triple
abbrev pub WorldIsEntries : Type 0
WorldIsEntries = (s : CoreState) (t : Triple) → entry_of (world s) t ≡ entry_in s t

-- settling changes no wanted triple's entry, and so neither states nor wants
abbrev pub SettlingKeepsStates : Type 0
SettlingKeepsStates = (s s' : CoreState) → settle s ≡ Some s' →
    ((t : Triple) → 0 < refs s t → entry_in s' t ≡ entry_in s t) × (states s' ≡ states s) × (wants s' ≡ wants s)

-- ---- what holds in each state that is reached

-- an operation and key have at most one live job
abbrev pub OneEach : List Job → Type 0
OneEach [] = Unit {0}
OneEach (j ∷ js) = (live_on js j.triple.op j.triple.key ≡ None) × OneEach js

-- each worker runs at most its capacity
abbrev pub WithinCapacity : Program → List Job → Type 0
WithinCapacity program js = (w : ℕ) → load js w ≤ capacity_of (slice_get program.workers w)

-- each row finished at a moment at the latest, and its job is below a number
abbrev pub RowsWithin : ℕ → ℕ → Rows → Type 0
RowsWithin now next rows = (k : RowKey) (r : Row) → get rows k ≡ Some r → (r.finished ≤ now) × (r.job < next)

-- each job is below a number
abbrev pub JobsBelow : ℕ → List Job → Type 0
JobsBelow n js = AllByRecursion (λ j. j.number < n) js

-- each job is above a number
abbrev pub JobsAbove : ℕ → List Job → Type 0
JobsAbove n js = AllByRecursion (λ j. n < j.number) js

-- the jobs' numbers strictly rise
abbrev pub Rising : List Job → Type 0
Rising [] = Unit {0}
Rising (j ∷ js) = JobsAbove j.number js × Rising js

-- no row finished after `now`, the next number is above each row's and each live job's, and these rise
pub record Numbered (now next : ℕ) (rows : Rows) (jobs : List Job) : Type 0 where
  pub rows_within : RowsWithin now next rows
  pub jobs_below : JobsBelow next jobs
  pub rising : Rising jobs

-- a ticket for each queued job, in order
abbrev pub Ticketed : CoreState → Type 0
Ticketed s = map (λ k. k.job) s.fair.tickets ≡ map (λ j. j.number) (filter is_queued s.jobs)

-- a queued job has a reference; a running one without has a mark, if its operation doesn't let it go on
pub record IsReferred (s : CoreState) (j : Job) : Type 0 where
  pub queued : is_some j.worker ≡ false → 0 < refs s j.triple
  pub running : is_some j.worker ≡ true → refs s j.triple ≡ 0 → goes_on (op_of s j.triple.op) ≡ false → is_unmarked j.mark ≡ false

-- all of these, and each ticket is that of its job
pub record IsLawful (s : CoreState) : Type 0 where
  pub one_each : OneEach s.jobs
  pub within : WithinCapacity s.program s.jobs
  pub numbered : Numbered s.now s.next s.rows s.jobs
  pub ticketed : Ticketed s
  pub tickets_own : AreTicketsOwn s.program s.jobs s.fair.tickets
  pub referred : AllByRecursion (IsReferred s) s.jobs

-- that, and the bounds of numbers and lists
pub record Invariant (s : CoreState) : Type 0 where
  pub lawful : IsLawful s
  pub bounded : IsBounded s

-- an opening gives a lawful state for any program, where each stored row's job is below the next number
abbrev pub LawfulAtOpening : Type 0
LawfulAtOpening = (program : Program) (durable : Durable) (threshold : Option Level) (reading : ℕ) (s : CoreState) →
    IsDurable durable → start program durable threshold reading ≡ Some s → IsLawful s

-- an accepted event keeps a state lawful
abbrev pub LawfulThroughSteps : Type 0
LawfulThroughSteps = (s : CoreState) (e : Event) (s' : CoreState) (r : Done) → step s e ≡ Accepted s' r → IsLawful s → IsLawful s'

-- each state that is reached from such an opening is lawful
abbrev pub LawfulAfterReplays : Type 0
LawfulAfterReplays = (program : Program) (durable : Durable) (threshold : Option Level) (reading : ℕ) (s : CoreState) (es : List Logged) (t : CoreState) →
    IsDurable durable → start program durable threshold reading ≡ Some s → Replays s es t → IsLawful t

-- an opening gives a state that is within its bounds too, for a program within the limits and what may be opened
abbrev pub InvariantAtOpening : Type 0
InvariantAtOpening = (program : Program) (durable : Durable) (threshold : Option Level) (reading : ℕ) (s : CoreState) →
    IsWithinLimits program → IsOpenable durable → start program durable threshold reading ≡ Some s → Invariant s

-- an accepted event keeps all of it, the moment doesn't fall, and the version rises by one
abbrev pub InvariantThroughSteps : Type 0
InvariantThroughSteps = (s : CoreState) (e : Event) (s' : CoreState) (r : Done) →
    step s e ≡ Accepted s' r → Invariant s → Invariant s' × (s.now ≤ s'.now) × (s'.version ≡ s.version + 1)

-- each state that is reached from such an opening keeps all of it
abbrev pub InvariantAfterReplays : Type 0
InvariantAfterReplays = (program : Program) (durable : Durable) (threshold : Option Level) (reading : ℕ) (s : CoreState) (es : List Logged) (t : CoreState) →
    IsWithinLimits program → IsOpenable durable → start program durable threshold reading ≡ Some s → Replays s es t → Invariant t

-- accepted events keep all of it, and each raises the version by one
abbrev pub InvariantAlongEvents : Type 0
InvariantAlongEvents = (s : CoreState) (es : List Event) (t : CoreState) → Leads s es t → Invariant s → Invariant t × (t.version ≡ s.version + length es)

-- ---- references

-- a queued job is among the wanted triples; a running one that isn't has a mark, if its operation doesn't let it go on
pub record IsReferredBy (ws : List Triple) (p : Program) (j : Job) : Type 0 where
  pub queued : is_some j.worker ≡ false → is_wanted ws j.triple ≡ true
  pub running : is_some j.worker ≡ true → is_wanted ws j.triple ≡ false → goes_on (slice_get p.ops j.triple.op) ≡ false → is_unmarked j.mark ≡ false

-- each job is so after settling for the wanted triples that are handed in
abbrev pub SettlingRefers : Type 0
SettlingRefers = (ws : List Triple) (s s' : CoreState) → settle_for ws s ≡ Some s' → AllByRecursion (IsReferredBy ws s'.program) s'.jobs

-- ---- what is stored

-- the stored part of the state after an accepted event is the one before with the delta of the reply
abbrev pub StepsStoreDeltas : Type 0
StepsStoreDeltas = (s : CoreState) (e : Event) (s' : CoreState) (r : Done) → Invariant s → step s e ≡ Accepted s' r → stored (durable s') ≡ with_delta r.delta (stored (durable s))

-- ---- starts

-- what is ordered is the pick: a job that is ready, that nobody has taken, and that is permitted or confirmed
pub record IsStart (s : CoreState) (o : Order) : Type 0 where
  pub is_pick : picked s o.worker ≡ Some o.job
  pub job : Job
  pub found : job_numbered s.jobs o.job ≡ Some job
  pub order : o ≡ order_for s o.worker job
  pub was_ready : stage s job ≡ Ready
  pub free : is_some job.worker ≡ false
  pub allowed : (may_start s.threshold (op_of s job.triple.op) || job.confirmed) ≡ true

-- each start is one, judged at the new moment
abbrev pub StartsArePicks : Type 0
StartsArePicks = (s : CoreState) (e : Event) (s' : CoreState) (r : Done) (o : Order) →
    step s e ≡ Accepted s' r → r.note ≡ note.Started o → IsStart (at_time s e.at) o

-- ---- replies

-- the states of the nodes with these changes
abbrev pub with_changes : List State → List (ℕ × State) → List State
with_changes states [] = states
with_changes states (c ∷ cs) = with_changes (slice_set states c.0 c.1) cs

-- the changed nodes of a reply, put over the old states, give the new ones
abbrev pub ChangesMakeStates : Type 0
ChangesMakeStates = (s : CoreState) (e : Event) (s' : CoreState) (r : Done) → step s e ≡ Accepted s' r → with_changes (states s) r.changed ≡ states s'

-- a replay has one end
abbrev pub ReplaysAreOne : Type 0
ReplaysAreOne = (s t u : CoreState) (es : List Logged) → Replays s es t → Replays s es u → t ≡ u
