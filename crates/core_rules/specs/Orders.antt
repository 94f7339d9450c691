-- How a worker takes a job, and how the job ends.
use Rattle.std.specs.Prelude.{ℕ, ◌+◌, Bool, true, false, ◌==◌, nat_lt, if◌then◌else◌, List, [], ◌∷◌, length, Option, Some, None, is_some, Result, Ok, Err, is_ok}
use Rattle.std.specs.FinMap.{remove}
use Rattle.value_core.specs.declared.state.Stage.{Stage}
use Rattle.value_core.specs.declared.state.Stage.TheVariants.{Ready, Waiting, Running}
use Rattle.value_core.specs.declared.state.Triple.{Triple}
use Rattle.op_keys.specs.declared.declarations.OpDecl.{OpDecl}
use Rattle.op_keys.specs.declared.order.Exit.{Exit}
use Rattle.op_keys.specs.declared.order.Order.{Order}
use Rattle.op_keys.specs.Orders.{order_words}
use Rattle.sched_rows.specs.declared.row.Row.{Row}
use Rattle.sched_rows.specs.Rows.{Rows}
use Rattle.fair_pool.specs.Fair.{withdrawn, hint_noted, pick}
use Rattle.core_rules.specs.declared.jobs.Job.{Job}
use Rattle.core_rules.specs.declared.jobs.Mark.{Mark}
use Rattle.core_rules.specs.declared.jobs.Mark.TheVariants.{Unmarked, Automatic, User}
use Rattle.core_rules.specs.declared.events.Refusal.TheVariants as refusal
use Rattle.core_rules.specs.declared.notes.Ending.{Ending}
use Rattle.core_rules.specs.declared.notes.Ending.TheVariants as ending
use Rattle.core_rules.specs.declared.notes.Note.TheVariants as note
use Rattle.core_rules.specs.Core.{CoreState, layout_of, op_of, op_name, is_output, stage, job_numbered, with_job, without_job}
use Rattle.core_rules.specs.Changes.{Tried, Refuses, Idles, Makes, row_by, cancelled_row, putting}
use Rattle.core_rules.specs.Entries.{key_for}
use Rattle.core_rules.specs.Exits.{exit_outcome, exit_log}
use Rattle.core_rules.specs.Replies.{next_alone}

-- ---- the pick

-- whether a stage is ready
abbrev pub is_ready : Stage → Bool
is_ready Ready = true
is_ready Waiting = false
is_ready Running = false

-- whether a job is there and ready
abbrev pub is_ready_job : CoreState → Option Job → Bool
is_ready_job s (Some j) = is_ready (stage s j)
is_ready_job s None = false

-- whether the job of a number is ready
abbrev pub ready : CoreState → ℕ → Bool
ready s n = is_ready_job s (job_numbered s.jobs n)

-- whether a worker is the one that took a job
abbrev pub runs_at : Option ℕ → ℕ → Bool
runs_at (Some v) w = v == w
runs_at None w = false

-- how many jobs a worker runs
abbrev pub load : List Job → ℕ → ℕ
load [] w = 0
load (j ∷ js) w = (if runs_at j.worker w then 1 else 0) + load js w

-- the job that a worker takes next
abbrev pub picked : CoreState → ℕ → Option ℕ
picked s w = pick (layout_of s.program) s.fair (ready s) (load s.jobs) s.now w

-- ---- taking

-- the rows without that of a triple's key, where its operation is an output
abbrev pub voided : CoreState → Triple → Rows
voided s t = if is_output (op_of s t.op) then remove s.rows (key_for s t) else s.rows

-- a job that a worker has taken
abbrev pub taken_by : ℕ → Job → Job
taken_by w j = record j { worker = Some w }

-- the job of a number is the worker's, which has its hint, and its ticket goes
abbrev pub given_to : ℕ → ℕ → CoreState → CoreState
given_to w n s = record s { jobs = with_job n (taken_by w) s.jobs; fair = withdrawn n (hint_noted n w s.fair) }

-- a worker has taken a job, and an output's row of that key goes
abbrev pub taken : CoreState → ℕ → Job → CoreState
taken s w j = record (given_to w j.number s) { rows = voided s j.triple }

-- the words for a triple of an operation
abbrev pub words_for : Option OpDecl → Triple → List (List ℕ)
words_for (Some d) t = order_words d t.key t.value
words_for None t = []

-- what the worker is asked to run
abbrev pub order_for : CoreState → ℕ → Job → Order
order_for s w j = record { job = j.number; worker = w; op = j.triple.op; key = j.triple.key; value = j.triple.value; words = words_for (op_of s j.triple.op) j.triple }

-- the operation and key whose row goes, whether or not one stands
abbrev pub void_of : CoreState → Triple → Option (List ℕ × List ℕ)
void_of s t = if is_output (op_of s t.op) then Some (op_name (op_of s t.op), t.key) else None

-- a worker takes a job
abbrev pub take_job : CoreState → ℕ → Option Job → Tried
take_job s w None = Idles note.Nothing
take_job s w (Some j) = Makes (record {
  state = taken s w j;
  note = note.Started (order_for s w j);
  marks = [];
  delta = record (next_alone s.next) { void = void_of s j.triple };
})

-- a worker takes its pick
abbrev pub take_pick : CoreState → ℕ → Option ℕ → Tried
take_pick s w None = Idles note.Nothing
take_pick s w (Some n) = take_job s w (job_numbered s.jobs n)

-- the worker of a number takes its pick
abbrev pub take_by : CoreState → ℕ → Tried
take_by s w = if nat_lt w (length s.program.workers) then take_pick s w (picked s w) else Refuses refusal.UnknownWorker

-- ---- the end of a job

-- the job goes
abbrev pub gone : CoreState → Job → CoreState
gone s j = record s { jobs = without_job j.number s.jobs }

-- the text of a result or message; a fine output has none
abbrev pub result_text : Option OpDecl → Result (List ℕ) (List ℕ) → List ℕ
result_text d (Ok t) = if is_output d then [] else t
result_text d (Err m) = m

-- the row of a job that ended with a result or a message
abbrev pub result_row : CoreState → Job → Result (List ℕ) (List ℕ) → Row
result_row s j o = row_by s j (is_ok o) (result_text (op_of s j.triple.op) o)

-- the same in the note
abbrev pub ended_so : Result (List ℕ) (List ℕ) → Ending
ended_so (Ok t) = ending.Fine
ended_so (Err m) = ending.Failed m

-- the job goes and leaves a row
abbrev pub leave : CoreState → Job → Row → Ending → List ℕ → Tried
leave s j r e log = Makes (record {
  state = putting (gone s j) r;
  note = note.Ended j.number e;
  marks = [];
  delta = record (next_alone s.next) { put = Some r; log = Some (j.number, log) };
})

-- the job goes and leaves no row
abbrev pub leave_none : CoreState → Job → List ℕ → Tried
leave_none s j log = Makes (record {
  state = gone s j;
  note = note.Ended j.number ending.Dropped;
  marks = [];
  delta = record (next_alone s.next) { log = Some (j.number, log) };
})

-- with the automatic mark no row; with the user's a failed one; else one by the exit
abbrev pub finish_by : Mark → CoreState → Job → Exit → Tried
finish_by Automatic s j x = leave_none s j (exit_log x)
finish_by User s j x = leave s j (cancelled_row s j) ending.Cancelled (exit_log x)
finish_by Unmarked s j x = leave s j (result_row s j (exit_outcome x)) (ended_so (exit_outcome x)) (exit_log x)

-- a job ends, if it runs
abbrev pub finish : CoreState → Option Job → Exit → Tried
finish s None x = Idles note.Ignored
finish s (Some j) x = if is_some j.worker then finish_by j.mark s j x else Idles note.Ignored
