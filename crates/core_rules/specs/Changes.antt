-- What an event changes by itself before all is settled, and what refuses it.
use Rattle.std.specs.Prelude.{ℕ, Bool, true, false, if◌then◌else◌, List, [], ◌∷◌, map, length, Option, Some, None, is_some, slice_set, codes}
use Rattle.std.specs.FinMap.{get, insert}
use Rattle.value_core.specs.declared.value.Value.{Value}
use Rattle.value_core.specs.declared.state.Stage.{Stage}
use Rattle.value_core.specs.declared.state.Stage.TheVariants.{Ready, Waiting, Running}
use Rattle.value_core.specs.Printed.{printed}
use Rattle.value_core.specs.Values.{fits_kind}
use Rattle.op_keys.specs.Names.{index_named}
use Rattle.term_core.specs.declared.program.InputDecl.{InputDecl}
use Rattle.value_core.specs.Kinds.{literal_kind}
use Rattle.sched_rows.specs.declared.row.Row.{Row}
use Rattle.sched_rows.specs.RowKeys.{RowKey, key_of, row_key}
use Rattle.sched_rows.specs.Rows.{marked}
use Rattle.fair_pool.specs.Fair.{withdrawn}
use Rattle.fair_pool.specs.Layouts.{declared, worker_number, client_number}
use Rattle.fair_pool.specs.Sound.{is_rate}
use Rattle.core_rules.specs.declared.jobs.Job.{Job}
use Rattle.core_rules.specs.declared.jobs.Mark.TheVariants.{User}
use Rattle.core_rules.specs.declared.events.Refusal.{Refusal}
use Rattle.core_rules.specs.declared.events.Refusal.TheVariants as refusal
use Rattle.core_rules.specs.declared.notes.Note.{Note}
use Rattle.core_rules.specs.declared.notes.Note.TheVariants as note
use Rattle.core_rules.specs.Core.{CoreState, op_of, op_name, stage, with_job, without_job}
use Rattle.core_rules.specs.declared.done.Delta.{Delta}
use Rattle.core_rules.specs.Replies.{next_alone}
use Rattle.core_rules.specs.Settling.{live_on, is_unmarked}

-- a state after an event's own change, with the note, the jobs that the event marks, and what is stored
pub record Change : Type 0 where
  pub state : CoreState
  pub note : Note
  pub marks : List ℕ
  pub delta : Delta

-- an event is refused, changes nothing, or makes its change
pub data Tried : Type 0 where
  Refuses : Refusal → Tried
  Idles : Note → Tried
  Makes : Change → Tried

-- a change of which nothing is stored
abbrev pub plain : CoreState → Tried
plain s = Makes (record { state = s; note = note.Plain; marks = []; delta = next_alone s.next })

-- ---- inputs

-- whether a value is of the kind of the input's declared one
abbrev pub takes : InputDecl → Value → Bool
takes d v = fits_kind (literal_kind d.value) v

-- the input at a place has another value of its kind
abbrev pub set_input : CoreState → List ℕ → Value → ℕ → Option InputDecl → Tried
set_input s name v place None = Refuses refusal.UnknownInput
set_input s name v place (Some d) =
    if takes d v
    then Makes (record { state = record s { inputs = slice_set s.inputs place v }; note = note.Plain; marks = []; delta = record (next_alone s.next) { input = Some (name, printed v) } })
    else Refuses refusal.WrongKind

-- the place of an input
abbrev pub input_index : CoreState → List ℕ → ℕ
input_index s name = index_named 0 (map (λ d. d.name) s.program.inputs) name

-- ---- jobs that are confirmed or cancelled

-- a job that is confirmed
abbrev pub confirmed : Job → Job
confirmed j = record j { confirmed = true }

-- the state with the job of a number confirmed
abbrev pub confirmed_job : ℕ → CoreState → CoreState
confirmed_job n s = record s { jobs = with_job n confirmed s.jobs }

-- a waiting job is confirmed
abbrev pub confirm_at : CoreState → Job → Stage → Tried
confirm_at s j Waiting = plain (confirmed_job j.number s)
confirm_at s j Ready = Refuses (refusal.NotWaiting Ready)
confirm_at s j Running = Refuses (refusal.NotWaiting Running)

-- the job is confirmed
abbrev pub confirm : CoreState → Option Job → Tried
confirm s None = Refuses refusal.UnknownJob
confirm s (Some j) = confirm_at s j (stage s j)

-- a row of a job that ends now
abbrev pub row_by : CoreState → Job → Bool → List ℕ → Row
row_by s j fine result =
    record { op = op_name (op_of s j.triple.op); key = j.triple.key; value = j.triple.value; fine = fine; result = result; finished = s.now; job = j.number; rebuild = false }

-- the failed row of a job that was cancelled
abbrev pub cancelled_row : CoreState → Job → Row
cancelled_row s j = row_by s j false (codes "cancelled")

-- with a row in place of the one of its operation and key
abbrev pub putting : CoreState → Row → CoreState
putting s r = record s { rows = insert s.rows (key_of r) r }

-- the state without a queued job and its ticket
abbrev pub without_queued : ℕ → CoreState → CoreState
without_queued n s = record s { jobs = without_job n s.jobs; fair = withdrawn n s.fair }

-- a queued job goes with its ticket, and leaves a failed row
abbrev pub cancel_queued : CoreState → Job → Tried
cancel_queued s j = Makes (record {
  state = putting (without_queued j.number s) (cancelled_row s j);
  note = note.Plain;
  marks = [];
  delta = record (next_alone s.next) { put = Some (cancelled_row s j) };
})

-- a job with the user's mark
abbrev pub user_marked : Job → Job
user_marked j = record j { mark = User }

-- the state with the user's mark on the job of a number
abbrev pub marked_by_user : ℕ → CoreState → CoreState
marked_by_user n s = record s { jobs = with_job n user_marked s.jobs }

-- a running job gets the user's mark
abbrev pub cancel_running : CoreState → Job → Tried
cancel_running s j = Makes (record {
  state = marked_by_user j.number s;
  note = note.Plain;
  marks = j.number ∷ [];
  delta = next_alone s.next;
})

-- the job is cancelled, unless it has a mark
abbrev pub cancel : CoreState → Option Job → Tried
cancel s None = Refuses refusal.UnknownJob
cancel s (Some j) = if is_unmarked j.mark then (if is_some j.worker then cancel_running s j else cancel_queued s j) else Refuses refusal.AlreadyCancelling

-- ---- rows

-- a row gets the rebuild mark
abbrev pub rebuild_row : CoreState → RowKey → Option Row → Tried
rebuild_row s k None = Refuses refusal.NoRow
rebuild_row s k (Some r) = Makes (record {
  state = record s { rows = insert s.rows k (marked r) };
  note = note.Plain;
  marks = [];
  delta = record (next_alone s.next) { put = Some (marked r) };
})

-- the same, unless a live job of the operation and key stands
abbrev pub rebuild_free : CoreState → RowKey → Option Job → Tried
rebuild_free s k (Some j) = Refuses (refusal.Busy j.number)
rebuild_free s k None = rebuild_row s k (get s.rows k)

-- the row of an operation and key is to be made anew
abbrev pub rebuild : CoreState → List ℕ → List ℕ → Option ℕ → Tried
rebuild s name key None = Refuses refusal.UnknownOp
rebuild s name key (Some op) = rebuild_free s (row_key name key) (live_on s.jobs op key)

-- the number of the operation of this name, where there is one
abbrev pub op_named : CoreState → List ℕ → Option ℕ
op_named s name = declared (length s.program.ops) (index_named 0 (map (λ d. d.name) s.program.ops) name)

-- ---- workers and clients

-- the number of the worker of this name, where there is one
abbrev pub worker_named : CoreState → List ℕ → Option ℕ
worker_named s name = declared (length s.program.workers) (worker_number s.program.workers name)

-- the number of the pool's client of this name, where there is one
abbrev pub client_named : CoreState → List ℕ → List ℕ → Option ℕ
client_named s pool name = declared (length s.program.clients) (client_number s.program.clients pool name)

-- a worker is paused, or is no longer
abbrev pub pause : Bool → CoreState → Option ℕ → Tried
pause paused s None = Refuses refusal.UnknownWorker
pause paused s (Some w) = plain (record s { fair = record s.fair { paused = slice_set s.fair.paused w paused } })

-- a client has another rate
abbrev pub set_rate : CoreState → ℕ → Option ℕ → Tried
set_rate s rate None = Refuses refusal.UnknownClient
set_rate s rate (Some c) =
    if is_rate rate then plain (record s { fair = record s.fair { rates = slice_set s.fair.rates c rate } }) else Refuses (refusal.RateOutOfRange rate)
