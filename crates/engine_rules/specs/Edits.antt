-- What an event changes by itself, as data, and what that makes of a state.
use Rattle.std.specs.Prelude.{◌≡◌, ℕ, true, false, if◌then◌else◌, List, [], ◌∷◌, length, ◌<◌, Option, Some, None, is_some, slice_set}
use Rattle.std.specs.FinMap.{get}
use Rattle.std.specs.Option.{option_and_then, option_map}
use Rattle.value_core.specs.declared.value.Value.{Value}
use Rattle.value_core.specs.declared.state.Stage.TheVariants.{Waiting}
use Rattle.value_core.specs.Printed.{printed}
use Rattle.op_keys.specs.declared.order.Exit.{Exit}
use Rattle.sched_rows.specs.declared.row.Row.{Row}
use Rattle.sched_rows.specs.RowKeys.{row_key}
use Rattle.sched_rows.specs.Rows.{Rows, marked}
use Rattle.fair_pool.specs.Layouts.{worker_number, client_number}
use Rattle.fair_pool.specs.Sound.{is_rate}
use Rattle.core_rules.specs.declared.done.Delta.{Delta}
use Rattle.core_rules.specs.declared.events.What.{What}
use Rattle.core_rules.specs.declared.events.What.TheVariants as what
use Rattle.core_rules.specs.declared.jobs.Job.{Job}
use Rattle.core_rules.specs.declared.jobs.Mark.{Mark}
use Rattle.core_rules.specs.declared.jobs.Mark.TheVariants.{Unmarked, Automatic, User}
use Rattle.core_rules.specs.declared.notes.Ending.{Ending}
use Rattle.core_rules.specs.declared.notes.Ending.TheVariants as ending
use Rattle.core_rules.specs.declared.notes.Note.{Note}
use Rattle.core_rules.specs.declared.notes.Note.TheVariants as note
use Rattle.core_rules.specs.declared.own.Own.{Own}
use Rattle.core_rules.specs.declared.own.Own.TheVariants as own
use Rattle.core_rules.specs.declared.own.RowChange.{RowChange}
use Rattle.core_rules.specs.declared.own.RowChange.TheVariants as row
use Rattle.core_rules.specs.Changes.{Change, Tried, Makes, cancelled_row, input_index}
use Rattle.core_rules.specs.Core.{CoreState, is_output, job_numbered, op_name, op_of, stage}
use Rattle.core_rules.specs.Exits.{exit_log, exit_outcome}
use Rattle.core_rules.specs.Orders.{ended_so, order_for, picked, result_row}
use Rattle.core_rules.specs.Own.{PutsInTime, own_made, rows_made}
use Rattle.core_rules.specs.Parts.{work_of}
use Rattle.core_rules.specs.Settling.{is_unmarked}
use Rattle.engine_rules.specs.declared.edits.Edit.{Edit}
use Rattle.engine_rules.specs.declared.edits.InputChange.{InputChange}
use Rattle.engine_rules.specs.declared.edits.InputChange.TheVariants as input

-- ---- a state with a change

-- the inputs' values with a change
abbrev pub inputs_made : InputChange → List Value → List Value
inputs_made input.None values = values
inputs_made (input.Set index v) values = slice_set values index v

-- a state with a change of jobs, rows and inputs
abbrev pub edited : Edit → CoreState → CoreState
edited e s = record (own_made e.own s) { rows = rows_made e.row s.rows; inputs = inputs_made e.input s.inputs }

-- ---- the change of each event

-- a change among the jobs alone
abbrev pub own_alone : Own → Edit
own_alone o = record { own = o; row = row.None; input = input.None }

-- a cancelled job that is queued leaves a failed row
abbrev pub cancelled_rows : CoreState → Option Job → RowChange
cancelled_rows s None = row.None
cancelled_rows s (Some j) = if is_some j.worker then row.None else row.Put (cancelled_row s j)

-- the row of an output's key goes if a job of it is taken
abbrev pub taken_rows : CoreState → Option Job → RowChange
taken_rows s None = row.None
taken_rows s (Some j) = if is_output (op_of s j.triple.op) then row.Void (op_name (op_of s j.triple.op)) j.triple.key else row.None

-- the row that a job leaves at its end, by its mark
abbrev pub left_row : Mark → CoreState → Job → Exit → RowChange
left_row Automatic s j x = row.None
left_row User s j x = row.Put (cancelled_row s j)
left_row Unmarked s j x = row.Put (result_row s j (exit_outcome x))

-- the same of a job that may be there
abbrev pub left_rows : CoreState → Option Job → Exit → RowChange
left_rows s None x = row.None
left_rows s (Some j) x = left_row j.mark s j x

-- the job that a worker takes next
abbrev pub pick_job : CoreState → ℕ → Option Job
pick_job s w = option_and_then (job_numbered s.jobs) (picked s w)

-- the change of an event, at a moment that is set already
abbrev pub edit_of : CoreState → What → Edit
edit_of s (what.SetInput name v) = record { own = own.None; row = row.None; input = input.Set (input_index s name) v }
edit_of s what.Tick = own_alone own.None
edit_of s (what.SetLevel threshold) = own_alone (own.Level threshold)
edit_of s (what.Confirm n) = own_alone (own.Confirm n)
edit_of s (what.Cancel n) = record { own = own.Cancel n; row = cancelled_rows s (job_numbered s.jobs n); input = input.None }
edit_of s (what.Rebuild op key) = record { own = own.None; row = row.Mark op key; input = input.None }
edit_of s (what.Pause w) = own_alone (own.Pause (worker_number s.program.workers w))
edit_of s (what.Resume w) = own_alone (own.Resume (worker_number s.program.workers w))
edit_of s (what.Rate pool client rate) = own_alone (own.Rate (client_number s.program.clients pool client) rate)
edit_of s (what.Take w) = record { own = own.Take w; row = taken_rows s (pick_job s w); input = input.None }
edit_of s (what.Finish n x) = record { own = own.Finish n; row = left_rows s (job_numbered s.jobs n) x; input = input.None }

-- ---- what is answered and stored beside it

-- how a job ends, by its mark
abbrev pub ending_by : Mark → Exit → Ending
ending_by Automatic x = ending.Dropped
ending_by User x = ending.Cancelled
ending_by Unmarked x = ended_so (exit_outcome x)

-- the end of a job that may be there
abbrev pub end_note : ℕ → Option Job → Exit → Note
end_note n None x = note.Ignored
end_note n (Some j) x = note.Ended n (ending_by j.mark x)

-- the start of a job that may be there
abbrev pub start_note : CoreState → ℕ → Option Job → Note
start_note s w None = note.Nothing
start_note s w (Some j) = note.Started (order_for s w j)

-- the note of an event
abbrev pub note_of : CoreState → What → Note
note_of s (what.Take w) = start_note s w (pick_job s w)
note_of s (what.Finish n x) = end_note n (job_numbered s.jobs n) x
note_of s w = note.Plain

-- the number of a job, if it runs
abbrev pub running_number : Option Job → List ℕ
running_number None = []
running_number (Some j) = if is_some j.worker then j.number ∷ [] else []

-- the jobs that a change marks
abbrev pub marks_of : CoreState → Own → List ℕ
marks_of s (own.Cancel n) = running_number (job_numbered s.jobs n)
marks_of s o = []

-- the input that is stored
abbrev pub stored_input : What → Option (List ℕ × List ℕ)
stored_input (what.SetInput name v) = Some (name, printed v)
stored_input w = None

-- the log that is stored
abbrev pub stored_log : What → Option (ℕ × List ℕ)
stored_log (what.Finish n x) = Some (n, exit_log x)
stored_log w = None

-- the row that is stored
abbrev pub stored_row : Rows → RowChange → Option Row
stored_row rows row.None = None
stored_row rows (row.Put r) = Some r
stored_row rows (row.Void op key) = None
stored_row rows (row.Mark op key) = option_map marked (get rows (row_key op key))

-- the operation's name and the key whose row goes
abbrev pub voided_key : RowChange → Option (List ℕ × List ℕ)
voided_key (row.Void op key) = Some (op, key)
voided_key c = None

-- what is stored of an event
abbrev pub delta_of : CoreState → What → Delta
delta_of s w = record {
  input = stored_input w;
  put = stored_row s.rows (edit_of s w).row;
  void = voided_key (edit_of s w).row;
  log = stored_log w;
  next = s.next;
}

-- the own change of an event, by its data
abbrev pub change_of : CoreState → What → Change
change_of s w = record { state = edited (edit_of s w) s; note = note_of s w; marks = marks_of s (edit_of s w).own; delta = delta_of s w }

-- ---- when a change among the jobs may be made

-- a job of this number that passes a test
abbrev pub HasJob : CoreState → ℕ → (Job → Type 0) → Type 0
HasJob s n P = (j : Job) × (job_numbered s.jobs n ≡ Some j) × P j

-- the job of a Confirm is waiting, that of a Cancel has no mark, that of a Take is the pick, that of a Finish runs; workers and clients are declared, and a rate is in range
abbrev pub MayOwn : CoreState → Own → Type 0
MayOwn s own.None = Unit {0}
MayOwn s (own.Level threshold) = Unit {0}
MayOwn s (own.Confirm n) = HasJob s n (λ j. stage s j ≡ Waiting)
MayOwn s (own.Cancel n) = HasJob s n (λ j. is_unmarked j.mark ≡ true)
MayOwn s (own.Take w) = (w < length s.program.workers) × (n : ℕ) × (picked s w ≡ Some n) × HasJob s n (λ j. is_some j.worker ≡ false)
MayOwn s (own.Finish n) = HasJob s n (λ j. is_some j.worker ≡ true)
MayOwn s (own.Pause w) = w < length s.program.workers
MayOwn s (own.Resume w) = w < length s.program.workers
MayOwn s (own.Rate c rate) = (c < length s.program.clients) × (is_rate rate ≡ true)

-- a change that may be made, whose row ended within the times
pub record MayEdit (s : CoreState) (d : Edit) : Type 0 where
  pub own : MayOwn s d.own
  pub row : PutsInTime d.row

-- the core's own change is made, with these jobs and marks
pub record IsOwnChange (s : CoreState) (o : Own) (x : Tried) : Type 0 where
  pub made : Change
  pub is : x ≡ Makes made
  pub work : work_of made.state ≡ work_of (own_made o s)
  pub marks : made.marks ≡ marks_of s o
