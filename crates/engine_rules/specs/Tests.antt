-- What refuses an event, by what is looked up.
use Rattle.std.specs.Prelude.{ℕ, Bool, false, if◌then◌else◌, nat_lt, List, length, map, Option, Some, None, is_some, slice_get, ◌==◌, ◌-◌, ◌^◌}
use Rattle.std.specs.FinMap.{get}
use Rattle.std.specs.Option.{option_map}
use Rattle.value_core.specs.declared.value.Value.{Value}
use Rattle.value_core.specs.declared.state.Stage.{Stage}
use Rattle.value_core.specs.declared.state.Stage.TheVariants.{Ready, Waiting, Running}
use Rattle.op_keys.specs.Names.{index_named}
use Rattle.term_core.specs.declared.program.InputDecl.{InputDecl}
use Rattle.term_core.specs.declared.program.Program.{Program}
use Rattle.sched_rows.specs.RowKeys.{row_key}
use Rattle.fair_pool.specs.Sound.{is_rate}
use Rattle.core_rules.specs.declared.events.Refusal.{Refusal}
use Rattle.core_rules.specs.declared.events.Refusal.TheVariants as refusal
use Rattle.core_rules.specs.declared.events.What.{What}
use Rattle.core_rules.specs.declared.events.What.TheVariants as what
use Rattle.core_rules.specs.declared.events.Event.{Event}
use Rattle.core_rules.specs.declared.jobs.Job.{Job}
use Rattle.core_rules.specs.declared.jobs.Mark.{Mark}
use Rattle.core_rules.specs.declared.notes.Note.TheVariants as note
use Rattle.core_rules.specs.Changes.{Change, Tried, Refuses, Idles, Makes, client_named, op_named, takes, worker_named}
use Rattle.core_rules.specs.Core.{CoreState, job_numbered, stage}
use Rattle.core_rules.specs.Settling.{is_unmarked, live_on, settle}
use Rattle.core_rules.specs.Steps.{Answer, Refused, Idle, at_time, idle_reply, settled_answer}
use Rattle.engine_rules.specs.declared.tests.Tested.{Tested}
use Rattle.engine_rules.specs.declared.tests.Tested.TheVariants as tested
use Rattle.engine_rules.specs.Edits.{change_of, pick_job}

-- ---- one test for each kind of event

-- passed, or refused by this
abbrev pub unless : Refusal → Bool → Tested
unless r b = if b then tested.Passes else tested.Refused r

-- the input is declared, with a value of the kind
abbrev pub input_test : Option InputDecl → Value → Tested
input_test None v = tested.Refused refusal.UnknownInput
input_test (Some d) v = unless refusal.WrongKind (takes d v)

-- the job lives and waits
abbrev pub confirm_test : Option Stage → Tested
confirm_test None = tested.Refused refusal.UnknownJob
confirm_test (Some Waiting) = tested.Passes
confirm_test (Some Ready) = tested.Refused (refusal.NotWaiting Ready)
confirm_test (Some Running) = tested.Refused (refusal.NotWaiting Running)

-- the job lives and has no mark
abbrev pub cancel_test : Option Mark → Tested
cancel_test None = tested.Refused refusal.UnknownJob
cancel_test (Some m) = unless refusal.AlreadyCancelling (is_unmarked m)

-- the operation and key have no live job, by its number, and a row
abbrev pub free_test : Option ℕ → Bool → Tested
free_test (Some n) has_row = tested.Refused (refusal.Busy n)
free_test None has_row = unless refusal.NoRow has_row

-- the operation is declared
abbrev pub rebuild_test : Option ℕ → Option ℕ → Bool → Tested
rebuild_test None job has_row = tested.Refused refusal.UnknownOp
rebuild_test (Some op) job has_row = free_test job has_row

-- the worker is declared
abbrev pub worker_test : Option ℕ → Tested
worker_test w = unless refusal.UnknownWorker (is_some w)

-- the client is declared, and the number may be a rate
abbrev pub rate_test : Option ℕ → ℕ → Tested
rate_test None rate = tested.Refused refusal.UnknownClient
rate_test (Some c) rate = unless (refusal.RateOutOfRange rate) (is_rate rate)

-- the worker is declared, and has a pick
abbrev pub take_test : Bool → Bool → Tested
take_test declared has_pick = if declared then (if has_pick then tested.Passes else tested.Nothing) else tested.Refused refusal.UnknownWorker

-- the job lives and runs
abbrev pub finish_test : Bool → Tested
finish_test runs = if runs then tested.Passes else tested.Ignored

-- ---- the look-ups

-- whether a job is there and runs
abbrev pub runs : Option Job → Bool
runs None = false
runs (Some j) = is_some j.worker

-- the number of the live job of an operation and key, where both are there
abbrev pub busy_with : CoreState → Option ℕ → List ℕ → Option ℕ
busy_with s None key = None
busy_with s (Some op) key = option_map (λ j. j.number) (live_on s.jobs op key)

-- the input of this name
abbrev pub input_named : Program → List ℕ → Option InputDecl
input_named p name = slice_get p.inputs (index_named 0 (map (λ d. d.name) p.inputs) name)

-- the test of a Rebuild
abbrev pub rebuild_tested : CoreState → List ℕ → List ℕ → Tested
rebuild_tested s op key = rebuild_test (op_named s op) (busy_with s (op_named s op) key) (is_some (get s.rows (row_key op key)))

-- the test of a Take
abbrev pub take_tested : CoreState → ℕ → Tested
take_tested s w = take_test (nat_lt w (length s.program.workers)) (is_some (pick_job s w))

-- the test of an event, at a moment that is set already
abbrev pub test_of : CoreState → What → Tested
test_of s (what.SetInput name v) = input_test (input_named s.program name) v
test_of s what.Tick = tested.Passes
test_of s (what.SetLevel threshold) = tested.Passes
test_of s (what.Confirm n) = confirm_test (option_map (stage s) (job_numbered s.jobs n))
test_of s (what.Cancel n) = cancel_test (option_map (λ j. j.mark) (job_numbered s.jobs n))
test_of s (what.Rebuild op key) = rebuild_tested s op key
test_of s (what.Pause w) = worker_test (worker_named s w)
test_of s (what.Resume w) = worker_test (worker_named s w)
test_of s (what.Rate pool client rate) = rate_test (client_named s pool client) rate
test_of s (what.Take w) = take_tested s w
test_of s (what.Finish n x) = finish_test (runs (job_numbered s.jobs n))

-- ---- what a test decides

-- what is tried by a test
abbrev pub tried : Tested → Change → Tried
tried tested.Passes c = Makes c
tried (tested.Refused r) c = Refuses r
tried tested.Nothing c = Idles note.Nothing
tried tested.Ignored c = Idles note.Ignored

-- the answer to a change, unless the versions are used up
abbrev pub passed : CoreState → Change → Answer
passed s c = if s.version == 2 ^ 64 - 1 then Refused refusal.NumbersUsed else settled_answer s c (settle c.state)

-- the answer by a test
abbrev pub answered : CoreState → Tested → Change → Answer
answered s tested.Passes c = passed s c
answered s (tested.Refused r) c = Refused r
answered s tested.Nothing c = Idle (idle_reply s note.Nothing)
answered s tested.Ignored c = Idle (idle_reply s note.Ignored)

-- an event is answered by its test and its change at the new moment
abbrev pub answer_of : CoreState → Event → Answer
answer_of s e = answered s (test_of (at_time s e.at) e.what) (change_of (at_time s e.at) e.what)
