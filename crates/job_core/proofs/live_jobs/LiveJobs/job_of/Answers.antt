use Rattle.std.proofs.Common.{ℕ, List, Option, Some, None, sym, ap, ◌∙◌}
use Rattle.std.specs.Prelude.{if◌then◌else◌}
use Rattle.std.specs.Option.{option_and_then, option_copied}
use Rattle.std.specs.Str.{bytes_eq}
use Rattle.core_rules.specs.declared.jobs.Job.{Job}
use Rattle.job_core.proofs.Keys.{job_by_key}
use Rattle.job_core.proofs.live_jobs.LiveJobs.job_of.Goals as goal

abbrev valued : List ℕ → Job → Option Job
valued v j = if bytes_eq j.triple.value v then Some j else None

pub returns-in_err-job-clause-job : goal.returns-in_err-job-clause-job
returns-in_err-job-clause-job c =
    ap option_copied c.from_residual.ensures
    ∙ ap (option_and_then (valued c.args.triple.now.value)) c.in_err-job.ensures.job
    ∙ sym (job_by_key c.args.self.now.jobs c.args.triple.now c.in_err-job.ensures.one_each)

pub returns-then-is-clause-job : goal.returns-then-is-clause-job
returns-then-is-clause-job c =
    sym (ap (λ b. if b then Some c.in_ok-job.job.now else None) (sym c.is.ensures ∙ c.if-is.true))
    ∙ ap (option_and_then (valued c.args.triple.now.value)) c.in_ok-job.ensures.job
    ∙ sym (job_by_key c.args.self.now.jobs c.args.triple.now c.in_ok-job.ensures.one_each)

pub returns-else-is-clause-job : goal.returns-else-is-clause-job
returns-else-is-clause-job c =
    sym (ap (λ b. if b then Some c.in_ok-job.job.now else None) (sym c.is.ensures ∙ c.if-is.false))
    ∙ ap (option_and_then (valued c.args.triple.now.value)) c.in_ok-job.ensures.job
    ∙ sym (job_by_key c.args.self.now.jobs c.args.triple.now c.in_ok-job.ensures.one_each)
