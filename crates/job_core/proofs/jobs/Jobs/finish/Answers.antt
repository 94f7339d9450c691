use Rattle.std.proofs.Common.{◌≡◌, is_some, sym, ap, ◌∙◌, arith}
use Rattle.std.specs.Prelude.{slice_index}
use Rattle.core_rules.specs.Orders.{load}
use Rattle.core_rules.specs.Parts.{Work}
use Rattle.job_core.specs.Own.{own_work}
use Rattle.core_rules.specs.declared.own.Own.TheVariants as own
use Rattle.job_core.proofs.KeptJobs.{kept_ended, runs_one}
use Rattle.job_core.proofs.OwnWork.{finish_work}
use Rattle.job_core.proofs.Picks.{loads_tell}
use Rattle.job_core.proofs.Places.{has_found}
use Rattle.job_core.proofs.jobs.Jobs.finish.Goals as goal

pub done-requires : goal.done-requires
done-requires c =
    let w : Work = record { program = c.self.inside.program; threshold = c.self.inside.threshold; next = c.self.inside.next; jobs = c.self.inside.live.jobs; fair = c.self.inside.pools.fair } in
    let one = runs_one w c.args.job c.in_ok-worker.worker c.in_ok-found.found.now c.in_ok-found.ensures.rising (sym c.in_ok-found.ensures.job) c.in_ok-worker.was c.self.invariant.within in
    let is : slice_index c.self.inside.pools.loads c.in_ok-worker.worker ≡ load w.jobs c.in_ok-worker.worker =
    ap (λ p. slice_index p.loads c.in_ok-worker.worker) c.self.invariant.pools ∙ loads_tell w.program w.jobs c.in_ok-worker.worker c.self.invariant.within in
    omega (arith, one.0)

pub remove-requires : goal.remove-requires
remove-requires c = has_found c.args.job c.self.inside.live.jobs c.in_ok-found.found.now (sym c.in_ok-found.ensures.job)

pub invariant_of-self : goal.invariant_of-self
invariant_of-self c =
    let w : Work = record { program = c.self.inside.program; threshold = c.self.inside.threshold; next = c.self.inside.next; jobs = c.self.inside.live.jobs; fair = c.self.inside.pools.fair } in
    rw (c.remove.ensures.left, c.done.ensures)
    (kept_ended w c.self.inside.pools c.self.inside.live.spare c.args.job c.in_ok-worker.worker c.in_ok-found.found.now c.in_ok-found.ensures.rising (sym c.in_ok-found.ensures.job) c.in_ok-worker.was c.self.invariant)

pub returns-clause-after : goal.returns-clause-after
returns-clause-after c =
    let w : Work = record { program = c.self.inside.program; threshold = c.self.inside.threshold; next = c.self.inside.next; jobs = c.self.inside.live.jobs; fair = c.self.inside.pools.fair } in
    rw (c.remove.ensures.left, c.done.ensures)
    ((λ i. record { work = sym (finish_work w 0 c.args.job c.in_ok-found.found.now (sym c.in_ok-found.ensures.job) (ap is_some c.in_ok-worker.was)) i; spare = c.self.inside.pools.spare })
    ∙ ap (λ s. record { work = own_work (own.Finish c.args.job) 0 s.work; spare = s.spare }) c.self.view_is)
