use Rattle.std.proofs.Common.{◌≡◌, Some, None, sym, ap, ◌∙◌, subst}
use Rattle.std.specs.Prelude.{◌==◌, if◌then◌else◌, option_map}
use Rattle.value_core.specs.declared.state.Stage.TheVariants.{Ready, Running}
use Rattle.core_rules.proofs.Starts.{pick_ready}
use Rattle.core_rules.specs.Core.{stage, stage_under}
use Rattle.core_rules.specs.Entries.{job_of, stage_in}
use Rattle.core_rules.specs.Laws.{OneEach, Rising}
use Rattle.core_rules.specs.Orders.{picked}
use Rattle.core_rules.specs.Parts.{Work}
use Rattle.core_rules.specs.Own.{IsMade, own_change}
use Rattle.job_core.specs.Own.{owned}
use Rattle.job_core.specs.State.{bare, core_at}
use Rattle.job_core.proofs.Found.{ready_found}
use Rattle.job_core.proofs.OwnMade.{cancel_made, confirm_made, finish_made, take_made}
use Rattle.job_core.proofs.Picks.{pools_pick}
use Rattle.job_core.proofs.Staged.{cancel_stage, confirm_stage, finish_stage, none_stage, take_stage}
use Rattle.job_core.proofs.jobs.Jobs.stage_after.Goals as goal
use Rattle.job_core.proofs.jobs.Jobs.stage_after.Goals.{After-stage-stage}

-- the job of the triple, and what is known of the jobs
of_triple : (c : After-stage-stage) → job_of c.args.self.now.work.jobs c.args.triple.now ≡ Some c.in_ok-job.job.now
of_triple c = ap (λ s. job_of s.work.jobs c.args.triple.now) (sym c.self.view_is) ∙ sym c.in_ok-job.ensures.job

rising : (c : After-stage-stage) → Rising c.args.self.now.work.jobs
rising c = subst (λ s. Rising s.work.jobs) c.self.view_is c.in_ok-job.ensures.rising

one_each : (c : After-stage-stage) → OneEach c.args.self.now.work.jobs
one_each c = subst (λ s. OneEach s.work.jobs) c.self.view_is c.in_ok-job.ensures.one_each

pub returns-in_err-job : goal.returns-in_err-job
returns-in_err-job c =
    let w = c.args.self.now.work in
    let t = c.args.triple.now in
    c.from_residual.ensures
    ∙ sym (none_stage c.args.own.now w c.args.now t (subst (λ s. Rising s.work.jobs) c.self.view_is c.in_err-job.ensures.rising)
    (subst (λ s. OneEach s.work.jobs) c.self.view_is c.in_err-job.ensures.one_each) c.requires (ap (λ s. job_of s.work.jobs t) (sym c.self.view_is) ∙ sym c.in_err-job.ensures.job))

pub returns-in-Level : goal.returns-in-Level
returns-in-Level c =
    let start = (goal.at.returns-in-Level c).After-stage-stage in
    let w = c.args.self.now.work in
    let s = core_at w c.args.now in
    let j = c.in_ok-job.job.now in
    let threshold = c.in-Level.threshold in
    ap Some (c.stage_under.ensures ∙ ap (λ d. stage_under threshold d j) c.op.ensures.op)
    ∙ sym (ap (option_map (stage (bare (record w { threshold = threshold })))) (of_triple start))
    ∙ ap (λ o. stage_in (owned s o) c.args.triple.now) (sym c.in-Level.is)

pub returns-in-Confirm : goal.returns-in-Confirm
returns-in-Confirm c =
    let start = (goal.at.returns-in-Confirm c).After-stage-stage in
    let s = core_at c.args.self.now.work c.args.now in
    let n = c.in-Confirm.number in
    let j = c.in_ok-job.job.now in
    let m = confirm_made s n (subst (λ o. IsMade (own_change s o)) c.in-Confirm.is c.requires) in
    c.unless.ensures ∙ ap (λ g. if j.number == n then Some Ready else Some g) c.stage-stage.ensures
    ∙ sym (confirm_stage c.args.self.now.work c.args.now n c.args.triple.now j (rising start) m (of_triple start))
    ∙ ap (λ o. stage_in (owned s o) c.args.triple.now) (sym c.in-Confirm.is)

pub returns-then-is_some : goal.returns-then-is_some
returns-then-is_some c =
    let start = (goal.at.returns-then-is_some c).After-stage-stage in
    let w = c.args.self.now.work in
    let s = core_at w c.args.now in
    let n = c.in-Cancel.number in
    let j = c.in_ok-job.job.now in
    let m = cancel_made s n (subst (λ o. IsMade (own_change s o)) c.in-Cancel.is c.requires) in
    ap Some c.stage-stage.ensures
    ∙ ap (λ b. if b then Some (stage (bare w) j) else (if j.number == n then None else Some (stage (bare w) j))) (sym c.if-is_some.true ∙ c.is_some.ensures)
    ∙ sym (cancel_stage w c.args.now n c.args.triple.now j (rising start) (one_each start) m (of_triple start))
    ∙ ap (λ o. stage_in (owned s o) c.args.triple.now) (sym c.in-Cancel.is)

pub returns-else-is_some : goal.returns-else-is_some
returns-else-is_some c =
    let start = (goal.at.returns-else-is_some c).After-stage-stage in
    let w = c.args.self.now.work in
    let s = core_at w c.args.now in
    let n = c.in-Cancel.number in
    let j = c.in_ok-job.job.now in
    let m = cancel_made s n (subst (λ o. IsMade (own_change s o)) c.in-Cancel.is c.requires) in
    c.unless-else-is_some.ensures ∙ ap (λ g. if j.number == n then None else Some g) c.stage-stage.ensures
    ∙ ap (λ b. if b then Some (stage (bare w) j) else (if j.number == n then None else Some (stage (bare w) j))) (sym c.if-is_some.false ∙ c.is_some.ensures)
    ∙ sym (cancel_stage w c.args.now n c.args.triple.now j (rising start) (one_each start) m (of_triple start))
    ∙ ap (λ o. stage_in (owned s o) c.args.triple.now) (sym c.in-Cancel.is)

pub returns-in-Some : goal.returns-in-Some
returns-in-Some c =
    let start = (goal.at.returns-in-Some c).After-stage-stage in
    let w = c.args.self.now.work in
    let s = core_at w c.args.now in
    let n = c.in-Some.number in
    let j = c.in_ok-job.job.now in
    let here : Work = record { program = c.self.inside.program; threshold = c.self.inside.threshold; next = c.self.inside.next; jobs = c.self.inside.live.jobs; fair = c.self.inside.pools.fair } in
    let p : picked s c.in-Take.worker ≡ Some n = ap (λ x. picked (core_at x.work c.args.now) c.in-Take.worker) (sym c.self.view_is) ∙ sym (pools_pick here c.self.inside.pools c.args.now c.in-Take.worker c.self.invariant.within c.self.invariant.pools) ∙ sym c.in-Some.ensures in
    let r = ready_found s n (pick_ready s c.in-Take.worker n p) in
    let m = take_made s c.in-Take.worker (subst (λ o. IsMade (own_change s o)) c.in-Take.is c.requires) in
    c.unless-in-Some.ensures ∙ ap (λ g. if j.number == n then Some Running else Some g) c.stage-stage.ensures
    ∙ sym (take_stage w c.args.now n c.in-Take.worker c.args.triple.now j r.job (rising start) m.known p r.found (of_triple start))
    ∙ ap (λ o. stage_in (owned s o) c.args.triple.now) (sym c.in-Take.is)

pub returns-in-None-pick : goal.returns-in-None-pick
returns-in-None-pick c =
    let s = core_at c.args.self.now.work c.args.now in
    let here : Work = record { program = c.self.inside.program; threshold = c.self.inside.threshold; next = c.self.inside.next; jobs = c.self.inside.live.jobs; fair = c.self.inside.pools.fair } in
    let m = take_made s c.in-Take.worker (subst (λ o. IsMade (own_change s o)) c.in-Take.is c.requires) in
    let none : None ≡ Some m.number = c.in-None-pick.ensures ∙ pools_pick here c.self.inside.pools c.args.now c.in-Take.worker c.self.invariant.within c.self.invariant.pools
    ∙ ap (λ x. picked (core_at x.work c.args.now) c.in-Take.worker) c.self.view_is ∙ m.picks in
    let z : ⊥ = cc in
    absurd z

pub returns-in-Finish : goal.returns-in-Finish
returns-in-Finish c =
    let start = (goal.at.returns-in-Finish c).After-stage-stage in
    let s = core_at c.args.self.now.work c.args.now in
    let n = c.in-Finish.number in
    let j = c.in_ok-job.job.now in
    let m = finish_made s n (subst (λ o. IsMade (own_change s o)) c.in-Finish.is c.requires) in
    c.unless-in-Finish.ensures ∙ ap (λ g. if j.number == n then None else Some g) c.stage-stage.ensures
    ∙ sym (finish_stage c.args.self.now.work c.args.now n c.args.triple.now j (rising start) (one_each start) m (of_triple start))
    ∙ ap (λ o. stage_in (owned s o) c.args.triple.now) (sym c.in-Finish.is)
