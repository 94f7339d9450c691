-- What the calls answer.
use Rattle.std.specs.Prelude.{ℕ, Option, Some, None, Result, Ok, Err, is_some, if◌then◌else◌}
use Rattle.core_rules.specs.Changes.{Tried, Refuses, Idles, Makes, confirm}
use Rattle.core_rules.specs.Core.{job_numbered}
use Rattle.core_rules.specs.Parts.{Work}
use Rattle.core_rules.specs.Settling.{is_unmarked}
use Rattle.core_rules.specs.declared.events.Refusal.TheVariants as refusal
use Rattle.core_rules.specs.declared.jobs.Job.{Job}
use Rattle.job_core.specs.State.{bare}
use Rattle.job_core.specs.declared.answers.Cancelled.{Cancelled}
use Rattle.job_core.specs.declared.answers.Cancelled.TheVariants as cancelled
use Rattle.job_core.specs.declared.answers.JobFault.{JobFault}
use Rattle.job_core.specs.declared.answers.JobFault.TheVariants as fault
use Rattle.job_core.specs.declared.answers.SettleFault.{SettleFault}
use Rattle.job_core.specs.declared.answers.SettleFault.TheVariants.{NumbersUsed, NoMemory}

-- why a job can't be confirmed
abbrev pub confirm_fault : Tried → Option JobFault
confirm_fault (Refuses (refusal.NotWaiting g)) = Some (fault.NotWaiting g)
confirm_fault (Refuses r) = Some fault.UnknownJob
confirm_fault (Makes c) = None
confirm_fault (Idles n) = None

-- the same for the job of a number, where there is a reason
abbrev pub confirming_fault : Work → ℕ → Option JobFault
confirming_fault w n = confirm_fault (confirm (bare w) (job_numbered w.jobs n))

-- what a cancelled job becomes: a queued one goes, a running one is marked, unless it has a mark
abbrev pub cancel_answer : Option Job → Result Cancelled JobFault
cancel_answer None = Err fault.UnknownJob
cancel_answer (Some j) =
    if is_unmarked j.mark
    then (if is_some j.worker then Ok cancelled.Marked else Ok (cancelled.Queued j))
    else Err fault.AlreadyCancelling

-- a job, if it runs
abbrev pub if_running : Option Job → Option Job
if_running None = None
if_running (Some j) = if is_some j.worker then Some j else None

-- that the numbers of jobs are used up
abbrev pub IsUsed : {T : Type 0} → Result T SettleFault → Type 0
IsUsed (Err NumbersUsed) = Unit {0}
IsUsed (Err NoMemory) = ⊥
IsUsed (Ok x) = ⊥
