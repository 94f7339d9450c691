use Rattle.std.proofs.Common.{◌≡◌, ◌<◌, length, Some, None, sym, ap, ◌∙◌, subst}
use Rattle.core_rules.proofs.Starts.{pick_ready}
use Rattle.core_rules.specs.Orders.{picked}
use Rattle.core_rules.specs.Parts.{Work}
use Rattle.job_core.specs.Own.{own_work}
use Rattle.job_core.specs.State.{core_at}
use Rattle.core_rules.specs.declared.own.Own.TheVariants as own
use Rattle.job_core.proofs.Found.{ready_found}
use Rattle.job_core.proofs.KeptJobs.{kept_taken}
use Rattle.job_core.proofs.OwnWork.{idle_work, take_work}
use Rattle.job_core.proofs.Picks.{pools_pick}
use Rattle.job_core.proofs.Places.{has_found}
use Rattle.job_core.proofs.jobs.Jobs.take.Goals as goal

pub give-requires : goal.give-requires
give-requires c =
    let w : Work = record { program = c.self.inside.program; threshold = c.self.inside.threshold; next = c.self.inside.next; jobs = c.self.inside.live.jobs; fair = c.self.inside.pools.fair } in
    let p : picked (core_at w c.args.now) c.args.worker ≡ Some c.in-Some.job = sym (pools_pick w c.self.inside.pools c.args.now c.args.worker c.self.invariant.within c.self.invariant.pools) ∙ sym c.in-Some.ensures in
    let r = ready_found (core_at w c.args.now) c.in-Some.job (pick_ready (core_at w c.args.now) c.args.worker c.in-Some.job p) in
    let l : c.args.worker < length w.program.workers = subst (λ s. c.args.worker < length s.work.program.workers) (sym c.self.view_is) c.requires in
    has_found c.in-Some.job c.self.inside.live.jobs r.job r.found

pub invariant_of-self : goal.invariant_of-self
invariant_of-self c =
    let w : Work = record { program = c.self.inside.program; threshold = c.self.inside.threshold; next = c.self.inside.next; jobs = c.self.inside.live.jobs; fair = c.self.inside.pools.fair } in
    let p : picked (core_at w c.args.now) c.args.worker ≡ Some c.in-Some.job = sym (pools_pick w c.self.inside.pools c.args.now c.args.worker c.self.invariant.within c.self.invariant.pools) ∙ sym c.in-Some.ensures in
    let r = ready_found (core_at w c.args.now) c.in-Some.job (pick_ready (core_at w c.args.now) c.args.worker c.in-Some.job p) in
    let l : c.args.worker < length w.program.workers = subst (λ s. c.args.worker < length s.work.program.workers) (sym c.self.view_is) c.requires in
    rw (c.give.ensures.given, c.taken.ensures)
    (kept_taken w c.self.inside.pools c.self.inside.live.spare c.args.now c.in-Some.job c.args.worker r.job c.give.ensures.rising r.found r.free l (sym c.in-Some.ensures) c.self.invariant)

pub returns-in-Some-clause-pick : goal.returns-in-Some-clause-pick
returns-in-Some-clause-pick c =
    let w : Work = record { program = c.self.inside.program; threshold = c.self.inside.threshold; next = c.self.inside.next; jobs = c.self.inside.live.jobs; fair = c.self.inside.pools.fair } in
    let p : picked (core_at w c.args.now) c.args.worker ≡ Some c.in-Some.job = sym (pools_pick w c.self.inside.pools c.args.now c.args.worker c.self.invariant.within c.self.invariant.pools) ∙ sym c.in-Some.ensures in
    let r = ready_found (core_at w c.args.now) c.in-Some.job (pick_ready (core_at w c.args.now) c.args.worker c.in-Some.job p) in
    let l : c.args.worker < length w.program.workers = subst (λ s. c.args.worker < length s.work.program.workers) (sym c.self.view_is) c.requires in
    sym p ∙ ap (λ s. picked (core_at s.work c.args.now) c.args.worker) c.self.view_is

pub returns-in-Some-clause-after : goal.returns-in-Some-clause-after
returns-in-Some-clause-after c =
    let w : Work = record { program = c.self.inside.program; threshold = c.self.inside.threshold; next = c.self.inside.next; jobs = c.self.inside.live.jobs; fair = c.self.inside.pools.fair } in
    let p : picked (core_at w c.args.now) c.args.worker ≡ Some c.in-Some.job = sym (pools_pick w c.self.inside.pools c.args.now c.args.worker c.self.invariant.within c.self.invariant.pools) ∙ sym c.in-Some.ensures in
    let r = ready_found (core_at w c.args.now) c.in-Some.job (pick_ready (core_at w c.args.now) c.args.worker c.in-Some.job p) in
    let l : c.args.worker < length w.program.workers = subst (λ s. c.args.worker < length s.work.program.workers) (sym c.self.view_is) c.requires in
    rw (c.give.ensures.given, c.taken.ensures)
    ((λ i. record { work = sym (take_work w c.args.now c.in-Some.job c.args.worker r.job l p r.found) i; spare = c.self.inside.pools.spare })
    ∙ ap (λ s. record { work = own_work (own.Take c.args.worker) c.args.now s.work; spare = s.spare }) c.self.view_is)

pub returns-in-None-clause-pick : goal.returns-in-None-clause-pick
returns-in-None-clause-pick c =
    let w : Work = record { program = c.self.inside.program; threshold = c.self.inside.threshold; next = c.self.inside.next; jobs = c.self.inside.live.jobs; fair = c.self.inside.pools.fair } in
    c.in-None.ensures ∙ pools_pick w c.self.inside.pools c.args.now c.args.worker c.self.invariant.within c.self.invariant.pools
    ∙ ap (λ s. picked (core_at s.work c.args.now) c.args.worker) c.self.view_is

pub returns-in-None-clause-after : goal.returns-in-None-clause-after
returns-in-None-clause-after c =
    let w : Work = record { program = c.self.inside.program; threshold = c.self.inside.threshold; next = c.self.inside.next; jobs = c.self.inside.live.jobs; fair = c.self.inside.pools.fair } in
    let p : picked (core_at w c.args.now) c.args.worker ≡ None = sym (pools_pick w c.self.inside.pools c.args.now c.args.worker c.self.invariant.within c.self.invariant.pools) ∙ sym c.in-None.ensures in
    let l : c.args.worker < length w.program.workers = subst (λ s. c.args.worker < length s.work.program.workers) (sym c.self.view_is) c.requires in
    sym c.self.view_is
    ∙ (λ i. record { work = sym (idle_work w c.args.now c.args.worker l p) i; spare = c.self.inside.pools.spare })
    ∙ ap (λ s. record { work = own_work (own.Take c.args.worker) c.args.now s.work; spare = s.spare }) c.self.view_is
