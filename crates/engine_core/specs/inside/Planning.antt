-- What the pieces of a plan are.
use Rattle.std.specs.Prelude.{◌≡◌, ◌⊎◌, ℕ, ◌+◌, ◌^◌, ◌<◌, ◌≤◌, List, [], length, Some, None, slice_get}
use Rattle.std.specs.List.{AllByRecursion}
use Rattle.value_core.specs.declared.state.Triple.{Triple}
use Rattle.value_core.specs.declared.value.Value.{Value}
use Rattle.term_core.specs.Counts.{in_order}
use Rattle.term_core.specs.Evaluation.{value_or_unit}
use Rattle.core_rules.specs.Core.{CoreState}
use Rattle.core_rules.specs.Entries.{world}
use Rattle.core_rules.specs.Own.{IsMade, PutsInTime, own_change, rows_made, tried_marks}
use Rattle.core_rules.specs.Parts.{core_of, work_of}
use Rattle.core_rules.specs.Replies.{new_conflicts, with_numbers}
use Rattle.core_rules.specs.Settling.{newly_marked, settle_for, wanted}
use Rattle.core_rules.specs.Steps.{at_time, step}
use Rattle.core_rules.specs.declared.events.Event.{Event}
use Rattle.core_rules.specs.declared.events.Refusal.{Refusal}
use Rattle.core_rules.specs.declared.events.Refusal.TheVariants as refusal
use Rattle.core_rules.specs.declared.done.Done.{Done}
use Rattle.job_core.specs.declared.answers.SettleFault.{SettleFault}
use Rattle.job_core.specs.declared.answers.SettleFault.TheVariants as fault
use Rattle.job_core.specs.Plans.{IsPlanFor, plan_next, plan_signals, planned}
use Rattle.job_core.specs.Rowing.{changed_core}
use Rattle.job_core.specs.State.{core_at}
use Rattle.engine_rules.specs.Conflicts.{triples_of}
use Rattle.engine_rules.specs.Edits.{MayOwn, edited}
use Rattle.engine_rules.specs.Tests.{test_of}
use Rattle.engine_rules.specs.Touched.{due_in, set_inputs, touched_by}
use Rattle.engine_rules.specs.declared.edits.Edit.{Edit}
use Rattle.engine_rules.specs.declared.edits.InputChange.{InputChange}
use Rattle.engine_rules.specs.declared.edits.InputChange.TheVariants as input
use Rattle.engine_rules.specs.declared.tests.Tested.TheVariants.{Passes}
use Rattle.incr_eval.specs.Plans.{PlanView}
use Rattle.visit_rules.specs.Differences.{CoversChanges}
use Rattle.visit_rules.specs.Traces.{traces}
use Rattle.visit_rules.specs.Visits.{all_wants}
use Rattle.visit_rules.specs.declared.changes.Changes.{Changes}
use Rattle.visit_rules.specs.declared.visit.Visit.{Visit}
use Rattle.engine_core.specs.Evaluated.{dirty_in, trees_of}
use Rattle.engine_core.specs.Answers.{IsStep, stored_by}
use Rattle.engine_core.specs.Plans.{HasInput, IsPlannedFor, IsPlannedOver, delta_planned, reply_planned, state_planned}
use Rattle.engine_core.specs.State.{EngineState, IsEngineLawful}
use Rattle.engine_core.specs.declared.planned.Planned.{Planned}
use Rattle.engine_core.specs.declared.planned.StepChange.{StepChange}
use Rattle.engine_core.specs.declared.storing.Draft.{Draft}
use Rattle.engine_core.specs.declared.planned.Settled.{Settled}
use Rattle.engine_core.specs.inside.Bare.{bare_at}
use Rattle.engine_core.specs.inside.Drafts.{IsDraftOf}

-- the sources that an edit at a moment may change, by the wanted triples with their counts
pub record AreChangesOf (s : CoreState) (moment : ℕ) (wants : List (Triple × ℕ)) (d : Edit) (c : Changes) : Type 0 where
  pub inputs : c.inputs ≡ set_inputs d.input
  pub triples : c.triples ≡ touched_by wants (due_in s moment) d (bare_at s moment)

-- a draft in a lawful state is that of an event that passes its test, at the event's moment
pub record IsDrafted (s : CoreState) (moment : ℕ) (d : Draft) : Type 0 where
  pub lawful : IsEngineLawful s
  pub event : Event
  pub timed : moment ≡ (at_time s event.at).now
  pub passes : test_of (at_time s event.at) event.what ≡ Passes
  pub draft : IsDraftOf (at_time s event.at) event.what d

-- the state that an edit makes at a moment, before it is settled
abbrev pub edited_at : CoreState → ℕ → Edit → CoreState
edited_at s moment d = edited d (record s { now = moment })

-- how many terms an edit makes dirty
abbrev pub dirty_at : CoreState → ℕ → Edit → ℕ
dirty_at s moment d = dirty_in s (edited_at s moment d)

-- an edit may be evaluated: its input is there, and the changes name all that it changes
pub record CanEvaluate (s : CoreState) (moment : ℕ) (d : Edit) (c : Changes) : Type 0 where
  pub own : MayOwn (bare_at s moment) d.own
  pub row : PutsInTime d.row
  pub input : HasInput d.input (length s.inputs)
  pub covered : CoversChanges s.program (trees_of s) c (edited_at s moment d).inputs (world (edited_at s moment d))

-- the evaluation of the state that an edit makes
pub record IsEvaluated (s : CoreState) (moment : ℕ) (d : Edit) (p : PlanView) : Type 0 where
  pub trees : p.trees ≡ traces s.program (edited_at s moment d).inputs (world (edited_at s moment d))
  pub over : IsPlannedOver (trees_of s) p

-- an edit may be settled for what the trees want
pub record CanSettle (s : CoreState) (moment : ℕ) (d : Edit) (p : PlanView) : Type 0 where
  pub own : IsMade (own_change (core_at (work_of s) moment) d.own)
  pub row : PutsInTime d.row
  pub time : moment ≤ 2 ^ 60
  pub declared : AllByRecursion (λ (t : Triple). t.op < length s.program.ops) (in_order (all_wants p.trees))

-- the core before it is settled, without its inputs
abbrev pub unsettled : CoreState → ℕ → Edit → CoreState
unsettled s moment d = changed_core d.own d.row (work_of s) s.rows moment

-- what settles is planned
pub record IsSettled (e : EngineState) (moment : ℕ) (d : Edit) (before : List (Triple × ℕ)) (p : PlanView) (r : Settled) : Type 0 where
  pub settled : settle_for (in_order (all_wants p.trees)) (unsettled e.core moment d) ≡ Some (core_of (planned r.jobs (work_of e.core)) (rows_made d.row e.core.rows) moment)
  pub signals : plan_signals r.jobs ≡ with_numbers (tried_marks (own_change (core_at (work_of e.core) moment) d.own)) (newly_marked (in_order (all_wants p.trees)) (unsettled e.core moment d))
  pub next : plan_next r.jobs ≡ (planned r.jobs (work_of e.core)).next
  pub fits : IsPlanFor r.jobs (record { work = work_of e.core; spare = e.job_room })
  pub changed : r.changed ≡ p.changed
  pub conflicts : (ws : List Triple) → triples_of before ≡ in_order ws → r.conflicts ≡ new_conflicts ws (all_wants p.trees)

-- the numbers of jobs don't suffice, or memory is out
abbrev pub IsUnsettled : CoreState → ℕ → Edit → PlanView → Refusal → Type 0
IsUnsettled s moment d p r = (r ≡ refusal.NoMemory) ⊎ ((r ≡ refusal.NumbersUsed) × (settle_for (in_order (all_wants p.trees)) (unsettled s moment d) ≡ None))

-- why jobs aren't settled, as a refusal
abbrev pub reason : SettleFault → Refusal
reason fault.NumbersUsed = refusal.NumbersUsed
reason fault.NoMemory = refusal.NoMemory

-- what a plan changes
abbrev pub change_of : ℕ → Draft → PlanView → Settled → StepChange
change_of moment draft p r = record { moment = moment; row = draft.edit.row; input = draft.edit.input; jobs = r.jobs; evaluation = p }

-- its reply, but for the jobs that it marks
abbrev pub done_of : ℕ → Draft → Settled → Done
done_of version draft r = record { version = version; note = draft.note; changed = r.changed; conflicts = r.conflicts; signals = []; delta = record draft.delta { next = plan_next r.jobs } }

-- the plan of what was drafted, evaluated and settled
abbrev pub planned_of : ℕ → ℕ → Draft → PlanView → Settled → Planned
planned_of version moment draft p r = record { done = done_of version draft r; change = Some (change_of moment draft p r) }

-- an input's change with the value that the input has now
abbrev pub exchanged : List Value → InputChange → InputChange
exchanged values input.None = input.None
exchanged values (input.Set index v) = input.Set index (value_or_unit (slice_get values index))

-- ---- plans

-- a plan is that of a draft with an evaluation, settled
pub record IsSettledPlan (e : EngineState) (moment : ℕ) (draft : Draft) (before : List (Triple × ℕ)) (p : PlanView) (plan : Planned) : Type 0 where
  pub settled : Settled
  pub is : IsSettled e moment draft.edit before p settled
  pub planned : plan ≡ planned_of (e.core.version + 1) moment draft p settled

-- a plan is that of a draft, evaluated and settled
pub record IsPlanOf (e : EngineState) (moment : ℕ) (draft : Draft) (plan : Planned) : Type 0 where
  pub before : List (Triple × ℕ)
  pub triples : triples_of before ≡ wanted e.core
  pub evaluation : PlanView
  pub evaluated : IsEvaluated e.core moment draft.edit evaluation
  pub settled : IsSettledPlan e moment draft before evaluation plan

-- the trees of the state that an edit makes
abbrev pub trees_edited : CoreState → ℕ → Edit → List Visit
trees_edited s moment d = traces s.program (edited_at s moment d).inputs (world (edited_at s moment d))

-- the numbers of jobs don't suffice for what an edit makes, or memory is out
abbrev pub IsUnplanned : CoreState → ℕ → Edit → Refusal → Type 0
IsUnplanned s moment d r = (r ≡ refusal.NoMemory) ⊎ ((r ≡ refusal.NumbersUsed) × (settle_for (in_order (all_wants (trees_edited s moment d))) (unsettled s moment d) ≡ None))

-- a plan is that of an event in a state, and may be installed
pub record IsPlan (s : CoreState) (event : Event) (e : EngineState) (plan : Planned) : Type 0 where
  pub made : IsStep s event (state_planned plan s) (reply_planned plan)
  pub stored : delta_planned plan ≡ stored_by (step s event)
  pub fits : IsPlannedFor plan e
