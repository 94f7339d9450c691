use Rattle.std.proofs.Common.{◌≡◌, None, Some, sym, ap, ◌∙◌, subst}
use Rattle.core_rules.proofs.Starts.{pick_ready}
use Rattle.core_rules.specs.Core.{has_job, with_job, without_job}
use Rattle.core_rules.specs.Orders.{picked}
use Rattle.core_rules.specs.Parts.{Work}
use Rattle.job_core.specs.Marking.{cancelled_jobs}
use Rattle.core_rules.specs.Own.{IsMade, own_change}
use Rattle.job_core.specs.Own.{own_work}
use Rattle.job_core.specs.State.{core_at}
use Rattle.job_core.proofs.Found.{ready_found}
use Rattle.job_core.proofs.KeptJobs.{confirm_one, give_one}
use Rattle.job_core.proofs.OwnMade.{cancel_made, cancelled_is, confirm_made, finish_made, take_made}
use Rattle.job_core.proofs.OwnWork.{confirm_work, finish_work, take_work}
use Rattle.job_core.proofs.Picks.{pools_pick}
use Rattle.job_core.proofs.Places.{has_found}
use Rattle.job_core.proofs.jobs.Jobs.jobs_after.Goals as goal

pub confirm-requires : goal.confirm-requires
confirm-requires c =
    let w = c.args.self.now.work in
    let jobs : c.in_ok-live.live.jobs ≡ w.jobs = ap (λ l. l.jobs) c.in_ok-live.ensures ∙ ap (λ s. s.work.jobs) c.self.view_is in
    let m = confirm_made (core_at w c.args.now) c.in-Confirm.job (subst (λ o. IsMade (own_change (core_at w c.args.now) o)) c.in-Confirm.is c.requires) in
    ap (λ js. has_job js c.in-Confirm.job) jobs ∙ has_found c.in-Confirm.job w.jobs m.job m.found

pub cancel_in-requires : goal.cancel_in-requires
cancel_in-requires c =
    let w = c.args.self.now.work in
    let jobs : c.in_ok-live.live.jobs ≡ w.jobs = ap (λ l. l.jobs) c.in_ok-live.ensures ∙ ap (λ s. s.work.jobs) c.self.view_is in
    let m = cancel_made (core_at w c.args.now) c.in-Cancel.job (subst (λ o. IsMade (own_change (core_at w c.args.now) o)) c.in-Cancel.is c.requires) in
    ap (λ js. has_job js c.in-Cancel.job) jobs ∙ has_found c.in-Cancel.job w.jobs m.job m.found

pub give-requires : goal.give-requires
give-requires c =
    let w = c.args.self.now.work in
    let jobs : c.in_ok-live.live.jobs ≡ w.jobs = ap (λ l. l.jobs) c.in_ok-live.ensures ∙ ap (λ s. s.work.jobs) c.self.view_is in
    let here : Work = record { program = c.self.inside.program; threshold = c.self.inside.threshold; next = c.self.inside.next; jobs = c.self.inside.live.jobs; fair = c.self.inside.pools.fair } in
    let p : picked (core_at w c.args.now) c.in-Take.worker ≡ Some c.in-Some.job = ap (λ s. picked (core_at s.work c.args.now) c.in-Take.worker) (sym c.self.view_is) ∙ sym (pools_pick here c.self.inside.pools c.args.now c.in-Take.worker c.self.invariant.within c.self.invariant.pools) ∙ sym c.in-Some.ensures in
    let r = ready_found (core_at w c.args.now) c.in-Some.job (pick_ready (core_at w c.args.now) c.in-Take.worker c.in-Some.job p) in
    ap (λ js. has_job js c.in-Some.job) jobs ∙ has_found c.in-Some.job w.jobs r.job r.found

pub remove-job-requires : goal.remove-job-requires
remove-job-requires c =
    let w = c.args.self.now.work in
    let jobs : c.in_ok-live.live.jobs ≡ w.jobs = ap (λ l. l.jobs) c.in_ok-live.ensures ∙ ap (λ s. s.work.jobs) c.self.view_is in
    let m = finish_made (core_at w c.args.now) c.in-Finish.job (subst (λ o. IsMade (own_change (core_at w c.args.now) o)) c.in-Finish.is c.requires) in
    ap (λ js. has_job js c.in-Finish.job) jobs ∙ has_found c.in-Finish.job w.jobs m.job m.found

pub returns-in-Confirm : goal.returns-in-Confirm
returns-in-Confirm c =
    let w = c.args.self.now.work in
    let jobs : c.in_ok-live.live.jobs ≡ w.jobs = ap (λ l. l.jobs) c.in_ok-live.ensures ∙ ap (λ s. s.work.jobs) c.self.view_is in
    let m = confirm_made (core_at w c.args.now) c.in-Confirm.job (subst (λ o. IsMade (own_change (core_at w c.args.now) o)) c.in-Confirm.is c.requires) in
    ap (λ l. l.jobs) c.confirm.ensures ∙ ap (with_job c.in-Confirm.job confirm_one) jobs
    ∙ sym (ap (λ v. v.jobs) (confirm_work w c.args.now c.in-Confirm.job m.job m.found m.waits)) ∙ ap (λ o. (own_work o c.args.now w).jobs) (sym c.in-Confirm.is)

pub returns-in-Cancel : goal.returns-in-Cancel
returns-in-Cancel c =
    let w = c.args.self.now.work in
    let jobs : c.in_ok-live.live.jobs ≡ w.jobs = ap (λ l. l.jobs) c.in_ok-live.ensures ∙ ap (λ s. s.work.jobs) c.self.view_is in
    let m = cancel_made (core_at w c.args.now) c.in-Cancel.job (subst (λ o. IsMade (own_change (core_at w c.args.now) o)) c.in-Cancel.is c.requires) in
    ap (λ l. l.jobs) c.cancel_in.ensures ∙ ap (cancelled_jobs c.in-Cancel.job) jobs
    ∙ cancelled_is w c.args.now c.in-Cancel.job m ∙ ap (λ o. (own_work o c.args.now w).jobs) (sym c.in-Cancel.is)

pub returns-in-Some : goal.returns-in-Some
returns-in-Some c =
    let w = c.args.self.now.work in
    let jobs : c.in_ok-live.live.jobs ≡ w.jobs = ap (λ l. l.jobs) c.in_ok-live.ensures ∙ ap (λ s. s.work.jobs) c.self.view_is in
    let here : Work = record { program = c.self.inside.program; threshold = c.self.inside.threshold; next = c.self.inside.next; jobs = c.self.inside.live.jobs; fair = c.self.inside.pools.fair } in
    let p : picked (core_at w c.args.now) c.in-Take.worker ≡ Some c.in-Some.job = ap (λ s. picked (core_at s.work c.args.now) c.in-Take.worker) (sym c.self.view_is) ∙ sym (pools_pick here c.self.inside.pools c.args.now c.in-Take.worker c.self.invariant.within c.self.invariant.pools) ∙ sym c.in-Some.ensures in
    let r = ready_found (core_at w c.args.now) c.in-Some.job (pick_ready (core_at w c.args.now) c.in-Take.worker c.in-Some.job p) in
    let m = take_made (core_at w c.args.now) c.in-Take.worker (subst (λ o. IsMade (own_change (core_at w c.args.now) o)) c.in-Take.is c.requires) in
    ap (λ l. l.jobs) c.give.ensures.given ∙ ap (with_job c.in-Some.job (give_one c.in-Take.worker)) jobs
    ∙ sym (ap (λ v. v.jobs) (take_work w c.args.now c.in-Some.job c.in-Take.worker r.job m.known p r.found)) ∙ ap (λ o. (own_work o c.args.now w).jobs) (sym c.in-Take.is)

pub returns-in-None-pick : goal.returns-in-None-pick
returns-in-None-pick c =
    let w = c.args.self.now.work in
    let here : Work = record { program = c.self.inside.program; threshold = c.self.inside.threshold; next = c.self.inside.next; jobs = c.self.inside.live.jobs; fair = c.self.inside.pools.fair } in
    let m = take_made (core_at w c.args.now) c.in-Take.worker (subst (λ o. IsMade (own_change (core_at w c.args.now) o)) c.in-Take.is c.requires) in
    let none : None ≡ Some m.number = c.in-None-pick.ensures ∙ pools_pick here c.self.inside.pools c.args.now c.in-Take.worker c.self.invariant.within c.self.invariant.pools
    ∙ ap (λ s. picked (core_at s.work c.args.now) c.in-Take.worker) c.self.view_is ∙ m.picks in
    let z : ⊥ = cc in
    absurd z

pub returns-in-Finish : goal.returns-in-Finish
returns-in-Finish c =
    let w = c.args.self.now.work in
    let jobs : c.in_ok-live.live.jobs ≡ w.jobs = ap (λ l. l.jobs) c.in_ok-live.ensures ∙ ap (λ s. s.work.jobs) c.self.view_is in
    let m = finish_made (core_at w c.args.now) c.in-Finish.job (subst (λ o. IsMade (own_change (core_at w c.args.now) o)) c.in-Finish.is c.requires) in
    ap (λ l. l.jobs) c.remove-job.ensures.left ∙ ap (without_job c.in-Finish.job) jobs
    ∙ sym (ap (λ v. v.jobs) (finish_work w c.args.now c.in-Finish.job m.job m.found m.runs)) ∙ ap (λ o. (own_work o c.args.now w).jobs) (sym c.in-Finish.is)
