use Rattle.std.proofs.Common.{sym, ap, ◌∙◌}
use Rattle.core_rules.specs.Core.{stage}
use Rattle.core_rules.specs.Parts.{Work}
use Rattle.job_core.specs.Own.{own_work}
use Rattle.job_core.specs.State.{bare}
use Rattle.core_rules.specs.declared.own.Own.TheVariants as own
use Rattle.job_core.proofs.Found.{waiting_queued}
use Rattle.job_core.proofs.KeptJobs.{has_queued, kept_confirmed}
use Rattle.job_core.proofs.OwnWork.{confirm_work}
use Rattle.job_core.proofs.Places.{has_found}
use Rattle.job_core.proofs.Tests.{is_waiting}
use Rattle.job_core.proofs.jobs.Jobs.confirm.Goals as goal

pub confirm-requires : goal.confirm-requires
confirm-requires c = has_found c.args.job c.self.inside.live.jobs c.in-Some.found.now (sym c.in-Some.ensures.job)

pub set_ready-requires : goal.set_ready-requires
set_ready-requires c =
    let w : Work = record { program = c.self.inside.program; threshold = c.self.inside.threshold; next = c.self.inside.next; jobs = c.self.inside.live.jobs; fair = c.self.inside.pools.fair } in
    has_queued w c.args.job c.in-Some.found.now c.self.invariant.ticketed (sym c.in-Some.ensures.job) (waiting_queued (bare w) c.in-Some.found.now (ap (λ s. stage (bare s.work) c.in-Some.found.now) c.self.view_is ∙ sym c.stage-stage.ensures ∙ is_waiting _ _ c.ne.ensures c.if-ne.false))

pub invariant_of-self : goal.invariant_of-self
invariant_of-self c =
    let w : Work = record { program = c.self.inside.program; threshold = c.self.inside.threshold; next = c.self.inside.next; jobs = c.self.inside.live.jobs; fair = c.self.inside.pools.fair } in
    rw (c.confirm.ensures, c.set_ready.ensures)
    (kept_confirmed w c.self.inside.pools c.self.inside.live.spare c.args.job c.in-Some.found.now (sym c.in-Some.ensures.job) (ap (λ s. stage (bare s.work) c.in-Some.found.now) c.self.view_is ∙ sym c.stage-stage.ensures ∙ is_waiting _ _ c.ne.ensures c.if-ne.false) c.self.invariant)

pub returns-clause-after : goal.returns-clause-after
returns-clause-after c =
    let w : Work = record { program = c.self.inside.program; threshold = c.self.inside.threshold; next = c.self.inside.next; jobs = c.self.inside.live.jobs; fair = c.self.inside.pools.fair } in
    rw (c.confirm.ensures, c.set_ready.ensures)
    ((λ i. record { work = sym (confirm_work w 0 c.args.job c.in-Some.found.now (sym c.in-Some.ensures.job) (ap (λ s. stage (bare s.work) c.in-Some.found.now) c.self.view_is ∙ sym c.stage-stage.ensures ∙ is_waiting _ _ c.ne.ensures c.if-ne.false)) i; spare = c.self.inside.pools.spare })
    ∙ ap (λ s. record { work = own_work (own.Confirm c.args.job) 0 s.work; spare = s.spare }) c.self.view_is)
