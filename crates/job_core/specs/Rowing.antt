-- The core after an event's own change of jobs and rows.
use Rattle.std.specs.Prelude.{ℕ, List}
use Rattle.sched_rows.specs.Rows.{Rows}
use Rattle.core_rules.specs.Core.{CoreState}
use Rattle.core_rules.specs.Own.{rows_made}
use Rattle.core_rules.specs.Parts.{Work, core_of}
use Rattle.core_rules.specs.declared.own.Own.{Own}
use Rattle.core_rules.specs.declared.own.RowChange.{RowChange}
use Rattle.core_rules.specs.declared.jobs.Job.{Job}
use Rattle.job_core.specs.Own.{own_work}
use Rattle.job_core.specs.State.{JobsState}
use Rattle.job_core.specs.RowTests.{rows_after}
use Rattle.job_core.specs.declared.row_look.RowsAfter.{RowsAfter}

-- the core at a moment, after an own change of the jobs and one of the rows
abbrev pub changed_core : Own → RowChange → Work → Rows → ℕ → CoreState
changed_core o c w rows now = core_of (own_work o now w) (rows_made c rows) now

-- the core at the moment of the rows, after their change
abbrev pub core_after : JobsState → RowsAfter → CoreState
core_after s r = core_of s.work (rows_after r) r.moment

-- the same with other live jobs
abbrev pub core_with : JobsState → List Job → RowsAfter → CoreState
core_with s js r = core_of (record s.work { jobs = js }) (rows_after r) r.moment
