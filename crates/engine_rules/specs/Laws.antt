-- The laws, as statements.
use Rattle.std.specs.Prelude.{◌≡◌, ◌⊎◌, ℕ, ◌+◌, ◌-◌, ◌^◌, ◌<◌, ◌≤◌, length, true, false, ◌==◌, List, Option, Some, None, slice_get}
use Rattle.std.specs.List.{AllByRecursion, list_any}
use Rattle.value_core.specs.declared.value.Kind.{Kind}
use Rattle.value_core.specs.declared.value.Value.{Value}
use Rattle.value_core.specs.declared.state.Triple.{Triple}
use Rattle.op_keys.specs.declared.level.Level.{Level}
use Rattle.term_core.specs.Laws.{Agree}
use Rattle.term_core.specs.Limits.{IsWithinLimits}
use Rattle.term_core.specs.Soundness.{IsSound, node_kinds}
use Rattle.term_core.specs.World.{World, entry_of}
use Rattle.term_core.specs.declared.program.Program.{Program}
use Rattle.term_check.specs.Bounds.{AreProperStates}
use Rattle.sched_rows.specs.declared.row.Row.{Row}
use Rattle.sched_rows.specs.Rows.{Kept, Rows, due_keys}
use Rattle.sched_rows.specs.Validity.{IsTime}
use Rattle.core_rules.specs.declared.events.Event.{Event}
use Rattle.core_rules.specs.declared.events.Refusal.TheVariants as refusal
use Rattle.core_rules.specs.declared.events.What.{What}
use Rattle.core_rules.specs.Bounds.{IsBounded}
use Rattle.core_rules.specs.Changes.{Change, Makes}
use Rattle.core_rules.specs.Core.{CoreState, op_of}
use Rattle.core_rules.specs.Entries.{entry_in, states, wants, world, stage_in}
use Rattle.core_rules.specs.Laws.{Invariant}
use Rattle.core_rules.specs.Openings.{Durable, IsDurable, opened, opening_reply, start}
use Rattle.core_rules.specs.Parts.{Work, core_of, work_of}
use Rattle.core_rules.specs.Replies.{new_conflicts}
use Rattle.core_rules.specs.declared.done.Done.{Done}
use Rattle.core_rules.specs.Settling.{newly_marked, settle, settle_for, wanted}
use Rattle.term_core.specs.Counts.{in_order, is_wanted}
use Rattle.core_rules.specs.Steps.{Accepted, Idle, Refused, at_time, change, idle_reply, reply_of, step}
use Rattle.engine_rules.specs.declared.edits.Edit.{Edit}
use Rattle.core_rules.specs.declared.own.Own.{Own}
use Rattle.core_rules.specs.declared.own.RowChange.{RowChange}
use Rattle.core_rules.specs.declared.own.RowChange.TheVariants as row
use Rattle.engine_rules.specs.declared.tests.Tested.TheVariants.{Passes}
use Rattle.engine_rules.specs.Answers.{IdlesBy, is_idle, opening_before, reply_before}
use Rattle.engine_rules.specs.Conflicts.{AreCounted, counted, doubled, not_among}
use Rattle.engine_rules.specs.Edits.{IsOwnChange, MayOwn, change_of, marks_of, edit_of, edited, inputs_made}
use Rattle.core_rules.specs.Own.{own_change, own_made, rows_made}
use Rattle.engine_rules.specs.Found.{found_entry, row_after, stage_after}
use Rattle.core_rules.specs.Own.{PutsInTime}
use Rattle.engine_rules.specs.Openings.{opened_parts, opened_with}
use Rattle.engine_rules.specs.Proper.{IsProperCore}
use Rattle.engine_rules.specs.Running.{RunsBy, running}
use Rattle.engine_rules.specs.Tests.{answer_of, test_of, tried}
use Rattle.engine_rules.specs.Touched.{KeptFor, OpsApart, due_in, kept_made, set_inputs, touched}

-- ---- events

-- an event is refused, changes nothing, or makes the change that its data tell, as its test decides by look-ups
abbrev pub TestsDecide : Type 0
TestsDecide = (s : CoreState) (w : What) → change s w ≡ tried (test_of s w) (change_of s w)

-- and it is answered so
abbrev pub AnswersByTests : Type 0
AnswersByTests = (s : CoreState) (e : Event) → step s e ≡ answer_of s e

-- where the test is passed, the change among the jobs may be made
abbrev pub PassedMayOwn : Type 0
PassedMayOwn = (s : CoreState) (w : What) → test_of s w ≡ Passes → MayOwn s (edit_of s w).own

-- what changes among the jobs is the same over any rows and inputs, and in any version
abbrev pub OwnByWork : Type 0
OwnByWork = (s : CoreState) (o : Own) (rows : Rows) (inputs : List Value) (version : ℕ) →
    own_made o (record s { rows = rows; inputs = inputs; version = version }) ≡ record (own_made o s) { rows = rows; inputs = inputs; version = version }

-- so the jobs change alone, over any rows, as those of the whole state
abbrev pub OwnAlone : Type 0
OwnAlone = (s : CoreState) (o : Own) (rows : Rows) →
    (work_of (own_made o (core_of (work_of s) rows s.now)) ≡ work_of (own_made o s)) × (MayOwn s o → MayOwn (core_of (work_of s) rows s.now) o)

-- and the stages of triples depend on the jobs alone
abbrev pub StagesByWork : Type 0
StagesByWork = (s u : CoreState) (t : Triple) → work_of s ≡ work_of u → stage_in s t ≡ stage_in u t

-- and it is the one that the core's own function makes
abbrev pub OwnIsChange : Type 0
OwnIsChange = (s : CoreState) (o : Own) → MayOwn s o → IsOwnChange s o (own_change s o)

-- also where it is given the jobs alone, over any rows
abbrev pub OwnAloneIsChange : Type 0
OwnAloneIsChange = (s : CoreState) (o : Own) (rows : Rows) → MayOwn s o →
    (made : Change) × (own_change (core_of (work_of s) rows s.now) o ≡ Makes made) × (work_of made.state ≡ work_of (own_made o s)) × (made.marks ≡ marks_of s o)

-- a row that an event puts ended at its moment, or stood before
abbrev pub PutsNow : Type 0
PutsNow = (s : CoreState) (w : What) (r : Row) → (edit_of s w).row ≡ row.Put r → r.finished ≡ s.now

-- so where the moment is one of the times, the change of the rows is one that they take
abbrev pub PutsAtTimes : Type 0
PutsAtTimes = (s : CoreState) (w : What) → IsTime s.now → PutsInTime (edit_of s w).row

-- the jobs that settling marks are those that it marks among the jobs alone
abbrev pub MarkedAlone : Type 0
MarkedAlone = (s : CoreState) (ws : List Triple) (rows : Rows) (now : ℕ) → newly_marked ws (core_of (work_of s) rows now) ≡ newly_marked ws s

-- ---- steps by parts

-- the state of the next version, with these jobs
abbrev pub joined : CoreState → Event → Work → CoreState
joined s e w = record {
  program = w.program;
  threshold = w.threshold;
  now = (at_time s e.at).now;
  version = s.version + 1;
  inputs = inputs_made (edit_of (at_time s e.at) e.what).input s.inputs;
  rows = rows_made (edit_of (at_time s e.at) e.what).row s.rows;
  next = w.next;
  jobs = w.jobs;
  fair = w.fair;
}

-- how the jobs after an event's own change settle alone, over the changed rows, for what is wanted then
abbrev pub settled_parts : CoreState → Event → Option CoreState
settled_parts s e =
    let u : CoreState = at_time s e.at in
    let d : Edit = edit_of u e.what in
    settle_for (wanted (edited d u)) (core_of (work_of (own_made d.own u)) (rows_made d.row s.rows) u.now)

-- where the test is passed, versions are left and the jobs settle to these, the step is accepted with them and with the reply told before
abbrev pub AcceptedByParts : Type 0
AcceptedByParts = (s : CoreState) (e : Event) (w : Work) → test_of (at_time s e.at) e.what ≡ Passes → (s.version == 2 ^ 64 - 1) ≡ false →
    settled_parts s e ≡ Some (core_of w (rows_made (edit_of (at_time s e.at) e.what).row s.rows) (at_time s e.at).now) →
    step s e ≡ Accepted (joined s e w) (reply_before s (change_of (at_time s e.at) e.what) w.next)

-- where versions aren't left, or the jobs don't settle, the numbers are used up
abbrev pub UsedByParts : Type 0
UsedByParts = (s : CoreState) (e : Event) → test_of (at_time s e.at) e.what ≡ Passes → ((s.version == 2 ^ 64 - 1) ≡ true) ⊎ (settled_parts s e ≡ None) → step s e ≡ Refused refusal.NumbersUsed

-- ---- evaluation

-- a triple's entry after a change is found by look-ups
abbrev pub EntriesAreFound : Type 0
EntriesAreFound = (s : CoreState) (w : What) (t : Triple) →
    entry_in (edited (edit_of s w) s) t
    ≡ found_entry (own_made (edit_of s w).own s).threshold s.now (op_of s t.op) (stage_after s (edit_of s w).own t) (row_after s (edit_of s w).row t)

-- rows that are kept with the expiries of their operations run out as the state's
abbrev pub DueByOperations : Type 0
DueByOperations = (s : CoreState) (k : Kept) (upto : ℕ) → k.rows ≡ s.rows → KeptFor s.program k → due_keys k s.now upto ≡ due_in s upto

-- a change keeps that rows are kept so, and makes of them what it makes of the state's
abbrev pub KeptThroughChanges : Type 0
KeptThroughChanges = (p : Program) (c : RowChange) (k : Kept) → KeptFor p k → KeptFor p (kept_made p c k) × ((kept_made p c k).rows ≡ rows_made c k.rows)

-- what a sound program wants is of its operations
abbrev pub WantsAreDeclared : Type 0
WantsAreDeclared = (s : CoreState) → IsSound s.program → AllByRecursion (λ t. t.op < length s.program.ops) (wanted s)

-- a wanted triple whose entry an event changes before it is settled is among the touched ones
abbrev pub ChangedAreTouched : Type 0
ChangedAreTouched = (s : CoreState) (e : Event) (t : Triple) → Invariant s → OpsApart s.program → test_of (at_time s e.at) e.what ≡ Passes →
    is_wanted (wants s) t ≡ true → is_wanted (touched (wanted s) s e) t ≡ false →
    entry_in (edited (edit_of (at_time s e.at) e.what) (at_time s e.at)) t ≡ entry_in s t

-- so over a world that agrees with the state's on what is wanted, a wanted triple whose entry differs in the changed world is among the touched ones
abbrev pub DifferingAreTouched : Type 0
DifferingAreTouched = (w : World) (s : CoreState) (e : Event) (t : Triple) → Invariant s → OpsApart s.program → test_of (at_time s e.at) e.what ≡ Passes →
    Agree (world s) w (wants s) → is_wanted (wants s) t ≡ true → is_wanted (touched (wanted s) s e) t ≡ false →
    entry_of (world (edited (edit_of (at_time s e.at) e.what) (at_time s e.at))) t ≡ entry_of w t

-- an input that isn't among the set ones has the value that it had
abbrev pub ChangedInputsAreSet : Type 0
ChangedInputsAreSet = (s : CoreState) (w : What) (i : ℕ) → list_any (λ j. j == i) (set_inputs (edit_of s w).input) ≡ false →
    slice_get (edited (edit_of s w) s).inputs i ≡ slice_get s.inputs i

-- what was evaluated over a world is what a state comes to, if they agree on what is wanted; settling and a new version keep that
abbrev pub AgreementLasts : Type 0
AgreementLasts = (w : World) (s s' : CoreState) (version : ℕ) → Agree (world s) w (wants s) → settle s ≡ Some s' →
    Agree (world (record s' { version = version })) w (wants (record s' { version = version }))

-- ---- replies

-- the reply of a step is told before it is settled, but for the next number
abbrev pub RepliesBefore : Type 0
RepliesBefore = (s : CoreState) (c : Change) (after : CoreState) → settle c.state ≡ Some after → reply_of s c after ≡ reply_before s c after.next

-- and so is that of an opening
abbrev pub OpeningBefore : Type 0
OpeningBefore = (program : Program) (durable : Durable) (threshold : Option Level) (reading : ℕ) (s : CoreState) →
    start program durable threshold reading ≡ Some s → opening_reply s ≡ opening_before (opened program durable threshold reading) s.next

-- an opening comes out of the jobs that settle alone
abbrev pub OpenedByParts : Type 0
OpenedByParts = (program : Program) (durable : Durable) (threshold : Option Level) (reading : ℕ) (w : Work) →
    opened_parts program durable threshold reading ≡ Some (core_of w durable.rows (opened program durable threshold reading).now) →
    start program durable threshold reading ≡ Some (opened_with (opened program durable threshold reading) w)

-- and there is none where they don't settle
abbrev pub UnopenedByParts : Type 0
UnopenedByParts = (program : Program) (durable : Durable) (threshold : Option Level) (reading : ℕ) →
    opened_parts program durable threshold reading ≡ None → start program durable threshold reading ≡ None

-- the new conflicts are the keys that stand twice among the new triples in order, and not among the old ones
abbrev pub ConflictsByOrder : Type 0
ConflictsByOrder = (old new : List Triple) → new_conflicts old new ≡ not_among (doubled (in_order old)) (doubled (in_order new))

-- the wanted triples with their counts rise, and each is wanted once at least
abbrev pub WantsAreCounted : Type 0
WantsAreCounted = (ws : List Triple) → AreCounted ws (counted ws)

-- an accepted event raises the version by one, and its note tells of a change
abbrev pub AcceptedAreNews : Type 0
AcceptedAreNews = (s : CoreState) (e : Event) (s' : CoreState) (r : Done) → step s e ≡ Accepted s' r →
    (is_idle r.note ≡ false) × (r.version ≡ s.version + 1) × (s'.version ≡ s.version + 1)

-- one that changes nothing keeps it, and is a Take or a Finish
abbrev pub IdlesKeep : Type 0
IdlesKeep = (s : CoreState) (e : Event) (r : Done) → step s e ≡ Idle r → (r ≡ idle_reply s r.note) × IdlesBy e.what r.note × (is_idle r.note ≡ true)

-- a Take adds a running job where fewer than 64 run, a Finish takes one off, and other events keep their number
abbrev pub RunningByEvents : Type 0
RunningByEvents = (s : CoreState) (e : Event) (s' : CoreState) (r : Done) → Invariant s → IsWithinLimits s.program → step s e ≡ Accepted s' r →
    RunsBy e.what (running s.jobs) (running s'.jobs)

-- ---- bounds

-- the moment of an event is one of the times, and not before the last one
abbrev pub MomentsAreTimes : Type 0
MomentsAreTimes = (s : CoreState) (reading : ℕ) → IsBounded s → IsTime (at_time s reading).now × (s.now ≤ (at_time s reading).now)

-- ---- values within the bounds

-- the nodes of a sound program have states of their kinds in them
abbrev pub StatesAreProper : Type 0
StatesAreProper = (s : CoreState) (kinds : List Kind) → IsSound s.program → node_kinds s.program ≡ Some kinds → IsProperCore s → AreProperStates kinds (states s)
