use Rattle.std.proofs.Common.{◌≡◌, Some, true, sym, ap, ◌∙◌, arith}
use Rattle.core_rules.specs.Core.{has_job, job_numbered}
use Rattle.core_rules.specs.declared.jobs.Job.{Job}
use Rattle.job_core.specs.Keys.{key_rank, rank_found}
use Rattle.job_core.proofs.KeptKeys.{keys_less, rank_within}
use Rattle.job_core.proofs.Places.{a_job, found_at}
use Rattle.job_core.proofs.live_jobs.LiveJobs.remove.Goals as goal
use Rattle.job_core.proofs.live_jobs.LiveJobs.remove.Goals.{After-key_rank_of-at}

at : (c : After-key_rank_of-at) (j : Job) → job_numbered c.self.inside.numbered.jobs c.args.number ≡ Some j → c.key_rank_of-at.result ≡ key_rank j.triple.op j.triple.key c.self.inside.numbered.jobs
at c j f = c.key_rank_of-at.ensures.rank ∙ ap (λ l. rank_found l.jobs (job_numbered l.jobs c.args.number)) (sym c.self.view_is) ∙ ap (rank_found c.self.inside.numbered.jobs) f

pub take_at-number-requires : goal.take_at-number-requires
take_at-number-requires c =
    let js = c.self.inside.numbered.jobs in
    let has : has_job js c.args.number ≡ true = ap (λ l. has_job l.jobs c.args.number) c.self.view_is ∙ c.requires in
    let f = found_at c.args.number js a_job c.self.invariant.live.rising has in
    let e = at (goal.at.take_at-number-requires c).After-key_rank_of-at _ f.found in
    let l = rank_within js c.args.number _ c.self.inside.numbered.spare c.self.inside.by_key.items c.self.inside.by_key.cap f.found c.self.invariant in
    omega (arith, c.self.inside.by_key.ok.0)

pub invariant_of-self : goal.invariant_of-self
invariant_of-self c =
    let start = (goal.at.invariant_of-self c).After-key_rank_of-at in
    rw (c.remove.ensures.left, c.take_at-number.ensures.items, c.take_at-number.ensures.capacity)
    (keys_less c.self.inside.numbered.jobs c.args.number c.remove.result c.self.inside.numbered.spare c.self.inside.by_key.items c.self.inside.by_key.cap c.key_rank_of-at.result c.remove.ensures.job (at start c.remove.result c.remove.ensures.job) c.self.invariant)
