use Rattle.std.proofs.Common.{◌≡◌, Some, None, sym, ap, ◌∙◌, arith}
use Rattle.std.specs.Option.{option_copied}
use Rattle.core_rules.specs.Settling.{live_on, on_key}
use Rattle.core_rules.specs.declared.jobs.Job.{Job}
use Rattle.job_core.specs.Keys.{key_rank}
use Rattle.job_core.proofs.KeptKeys.{found_none, past_none, rank_fits}
use Rattle.job_core.proofs.Keys.{live_only}
use Rattle.job_core.proofs.live_jobs.LiveJobs.live_on.Goals as goal
use Rattle.job_core.proofs.live_jobs.LiveJobs.live_on.Goals.{After-len}

at : (c : After-len) → c.key_rank-at.result ≡ key_rank c.args.op c.args.key.now c.self.inside.numbered.jobs
at c = c.key_rank-at.ensures.rank ∙ ap (λ l. key_rank c.args.op c.args.key.now l.jobs) (sym c.self.view_is)

pub index-requires : goal.index-requires
index-requires c =
    let e = at (goal.at.index-requires c).After-len in
    let l = rank_fits c.args.op c.args.key.now c.self.inside.numbered.jobs c.self.inside.numbered.spare c.self.inside.by_key.items c.self.inside.by_key.cap c.self.invariant in
    omega (arith, c.if-at-len.false, c.len.ensures, c.self.inside.by_key.ok.0)

pub returns-then-at-len-clause-job : goal.returns-then-at-len-clause-job
returns-then-at-len-clause-job c =
    let e = at (goal.at.returns-then-at-len-clause-job c).After-len in
    past_none c.self.inside.numbered.jobs c.self.inside.numbered.spare c.self.inside.by_key.items c.self.inside.by_key.cap c.args.op c.args.key.now c.self.invariant (omega (arith, c.if-at-len.true, c.len.ensures, c.self.inside.by_key.ok.0))
    ∙ ap (λ l. live_on l.jobs c.args.op c.args.key.now) c.self.view_is

pub returns-in_err-job-clause-job : goal.returns-in_err-job-clause-job
returns-in_err-job-clause-job c =
    let e = at (goal.at.returns-in_err-job-clause-job c).After-len in
    ap option_copied c.from_residual.ensures
    ∙ found_none c.self.inside.numbered.jobs c.self.inside.numbered.spare c.self.inside.by_key.items c.self.inside.by_key.cap c.args.op c.args.key.now c.key_rank-at.result c.index.result.now c.self.invariant e c.index.ensures None c.in_err-job.ensures.job (λ j k. let z : ⊥ = cc in absurd z)
    ∙ ap (λ l. live_on l.jobs c.args.op c.args.key.now) c.self.view_is

pub returns-then-is_on-clause-job : goal.returns-then-is_on-clause-job
returns-then-is_on-clause-job c =
    sym (live_only c.self.inside.numbered.jobs c.args.op c.args.key.now c.index.result.now c.in_ok-job.job.now c.self.invariant.live.one_each (sym c.in_ok-job.ensures.job) (sym c.is_on.ensures ∙ c.if-is_on.true))
    ∙ ap (λ l. live_on l.jobs c.args.op c.args.key.now) c.self.view_is

pub returns-else-is_on-clause-job : goal.returns-else-is_on-clause-job
returns-else-is_on-clause-job c =
    let e = at (goal.at.returns-else-is_on-clause-job c).After-len in
    found_none c.self.inside.numbered.jobs c.self.inside.numbered.spare c.self.inside.by_key.items c.self.inside.by_key.cap c.args.op c.args.key.now c.key_rank-at.result c.index.result.now c.self.invariant e c.index.ensures (Some c.in_ok-job.job.now) c.in_ok-job.ensures.job
    (λ j k. let same : c.in_ok-job.job.now ≡ j = cc in ap (λ (x : Job). on_key c.args.op c.args.key.now x.triple) (sym same) ∙ sym c.is_on.ensures ∙ c.if-is_on.false)
    ∙ ap (λ l. live_on l.jobs c.args.op c.args.key.now) c.self.view_is
