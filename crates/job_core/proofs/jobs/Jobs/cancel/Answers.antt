use Rattle.std.proofs.Common.{refl, sym, ap, ◌∙◌}
use Rattle.core_rules.specs.declared.jobs.Mark.TheVariants.{User}
use Rattle.core_rules.specs.Parts.{Work}
use Rattle.job_core.specs.Own.{own_work}
use Rattle.job_core.specs.Single.{withdrawn_work}
use Rattle.core_rules.specs.declared.own.Own.TheVariants as own
use Rattle.job_core.proofs.KeptJobs.{kept_marked, mark_one, mark_same}
use Rattle.job_core.proofs.OwnWork.{mark_work, withdraw_work}
use Rattle.job_core.proofs.Places.{has_found}
use Rattle.job_core.proofs.Tests.{unmarked}
use Rattle.job_core.proofs.jobs.Jobs.cancel.Goals as goal

pub mark-requires : goal.mark-requires
mark-requires c = has_found c.args.job c.self.inside.live.jobs c.in-Some.found.now (sym c.in-Some.ensures.job)

pub invariant_of-self : goal.invariant_of-self
invariant_of-self c =
    let w : Work = record { program = c.self.inside.program; threshold = c.self.inside.threshold; next = c.self.inside.next; jobs = c.self.inside.live.jobs; fair = c.self.inside.pools.fair } in
    rw c.mark.ensures (kept_marked w c.self.inside.pools c.self.inside.live.spare c.args.job (mark_one User) (mark_same User) (λ _. refl) c.self.invariant)

pub returns-then-runs-clause-after : goal.returns-then-runs-clause-after
returns-then-runs-clause-after c =
    let w : Work = record { program = c.self.inside.program; threshold = c.self.inside.threshold; next = c.self.inside.next; jobs = c.self.inside.live.jobs; fair = c.self.inside.pools.fair } in
    rw c.mark.ensures
    ((λ i. record { work = sym (mark_work w 0 c.args.job c.in-Some.found.now (sym c.in-Some.ensures.job) (unmarked _ _ c.ne.ensures c.if-ne.false) (sym c.is_some.ensures ∙ c.if-runs.true)) i; spare = c.self.inside.pools.spare })
    ∙ ap (λ s. record { work = own_work (own.Cancel c.args.job) 0 s.work; spare = s.spare }) c.self.view_is)

pub returns-else-runs-clause-after : goal.returns-else-runs-clause-after
returns-else-runs-clause-after c =
    let w : Work = record { program = c.self.inside.program; threshold = c.self.inside.threshold; next = c.self.inside.next; jobs = c.self.inside.live.jobs; fair = c.self.inside.pools.fair } in
    c.withdraw.ensures.after ∙ ap (λ s. record { work = withdrawn_work c.args.job s.work; spare = s.spare }) (sym c.self.view_is)
    ∙ (λ i. record { work = sym (withdraw_work w 0 c.args.job c.in-Some.found.now (sym c.in-Some.ensures.job) (unmarked _ _ c.ne.ensures c.if-ne.false) (sym c.is_some.ensures ∙ c.if-runs.false)) i; spare = c.self.inside.pools.spare })
    ∙ ap (λ s. record { work = own_work (own.Cancel c.args.job) 0 s.work; spare = s.spare }) c.self.view_is
