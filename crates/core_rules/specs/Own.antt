-- What an event changes among jobs and rows, as data, and what that makes of them.
use Rattle.std.specs.Prelude.{ℕ, true, false, if◌then◌else◌, List, [], length, Option, Some, None, is_some, slice_set}
use Rattle.std.specs.FinMap.{get, insert, remove}
use Rattle.op_keys.specs.declared.order.Exit.TheVariants as exit
use Rattle.sched_rows.specs.RowKeys.{key_of, row_key}
use Rattle.sched_rows.specs.Rows.{Rows, mark_found}
use Rattle.sched_rows.specs.Validity.{IsTime}
use Rattle.fair_pool.specs.Layouts.{declared}
use Rattle.core_rules.specs.declared.jobs.Job.{Job}
use Rattle.core_rules.specs.declared.own.Own.{Own}
use Rattle.core_rules.specs.declared.own.Own.TheVariants as own
use Rattle.core_rules.specs.declared.own.RowChange.{RowChange}
use Rattle.core_rules.specs.declared.own.RowChange.TheVariants as row
use Rattle.core_rules.specs.Core.{CoreState, job_numbered, without_job}
use Rattle.core_rules.specs.Changes.{Tried, Refuses, Idles, Makes, plain, confirmed_job, confirm, marked_by_user, without_queued, cancel, pause, set_rate}
use Rattle.core_rules.specs.Orders.{given_to, picked, take_by, finish}

-- ---- whether a change among the jobs may be made, and what comes of it

-- the change of an event whose workers and clients are identified by numbers; how the job of a Finish ended changes nothing among the jobs
abbrev pub own_change : CoreState → Own → Tried
own_change s own.None = plain s
own_change s (own.Level threshold) = plain (record s { threshold = threshold })
own_change s (own.Confirm n) = confirm s (job_numbered s.jobs n)
own_change s (own.Cancel n) = cancel s (job_numbered s.jobs n)
own_change s (own.Take w) = take_by s w
own_change s (own.Finish n) = finish s (job_numbered s.jobs n) exit.Fault
own_change s (own.Pause w) = pause true s (declared (length s.program.workers) w)
own_change s (own.Resume w) = pause false s (declared (length s.program.workers) w)
own_change s (own.Rate c rate) = set_rate s rate (declared (length s.program.clients) c)

-- whether it is made: neither refused nor idle
abbrev pub IsMade : Tried → Type 0
IsMade (Makes c) = Unit {0}
IsMade (Refuses r) = ⊥
IsMade (Idles n) = ⊥

-- the state after it, which is the state before unless it is made
abbrev pub tried_state : CoreState → Tried → CoreState
tried_state s (Makes c) = c.state
tried_state s (Refuses r) = s
tried_state s (Idles n) = s

-- the jobs that it marks
abbrev pub tried_marks : Tried → List ℕ
tried_marks (Makes c) = c.marks
tried_marks (Refuses r) = []
tried_marks (Idles n) = []

-- ---- a change that may be made

-- a running job gets the user's mark, and a queued one goes
abbrev pub cancelled : CoreState → Option Job → CoreState
cancelled s None = s
cancelled s (Some j) = if is_some j.worker then marked_by_user j.number s else without_queued j.number s

-- a worker has its pick
abbrev pub took : CoreState → ℕ → Option ℕ → CoreState
took s w None = s
took s w (Some n) = given_to w n s

-- a state with a change among its jobs, its rows apart
abbrev pub own_made : Own → CoreState → CoreState
own_made own.None s = s
own_made (own.Level threshold) s = record s { threshold = threshold }
own_made (own.Confirm n) s = confirmed_job n s
own_made (own.Cancel n) s = cancelled s (job_numbered s.jobs n)
own_made (own.Take w) s = took s w (picked s w)
own_made (own.Finish n) s = record s { jobs = without_job n s.jobs }
own_made (own.Pause w) s = record s { fair = record s.fair { paused = slice_set s.fair.paused w true } }
own_made (own.Resume w) s = record s { fair = record s.fair { paused = slice_set s.fair.paused w false } }
own_made (own.Rate c rate) s = record s { fair = record s.fair { rates = slice_set s.fair.rates c rate } }

-- ---- rows

-- rows with a change
abbrev pub rows_made : RowChange → Rows → Rows
rows_made row.None rows = rows
rows_made (row.Put r) rows = insert rows (key_of r) r
rows_made (row.Void op key) rows = remove rows (row_key op key)
rows_made (row.Mark op key) rows = mark_found (row_key op key) (get rows (row_key op key)) rows

-- a row that is put ended within the times
abbrev pub PutsInTime : RowChange → Type 0
PutsInTime (row.Put r) = IsTime r.finished
PutsInTime c = Unit {0}
