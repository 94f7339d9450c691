use Rattle.std.proofs.Common.{◌≡◌, ap, inr, arith}
use Rattle.core_rules.specs.Core.{CoreState}
use Rattle.core_rules.specs.Steps.{step}
use Rattle.core_rules.specs.declared.notes.Note.TheVariants as note
use Rattle.engine_rules.specs.declared.tests.Tested.TheVariants as tested
use Rattle.engine_core.specs.Answers.{IsStep, stored_by}
use Rattle.engine_core.specs.Evaluated.{evaluated}
use Rattle.engine_core.specs.Plans.{delta_planned, reply_planned, state_planned}
use Rattle.engine_core.specs.State.{EngineState}
use Rattle.engine_core.specs.inside.Keeping.{core_in}
use Rattle.engine_core.specs.inside.Planning.{IsPlan}
use Rattle.engine_core.proofs.Evaluating.{ok_so}
use Rattle.engine_core.proofs.PlanAnswers.{idle_plan, moment_so, tested_so}
use Rattle.engine_core.proofs.Tested.{evaluated_tested, step_tested}
use Rattle.engine_core.proofs.engine.Engine.plan.Goals as goal

pub plan_change-requires-clause-passes : goal.plan_change-requires-clause-passes
plan_change-requires-clause-passes g c =
    let s : CoreState = c.args.self.now.core in
    let is : core_in c.self.inside ≡ s = ap (λ (e : EngineState). e.core) c.self.view_is in
    let timed = moment_so (core_in c.self.inside) s c.args.event c.later-moment.result is c.later-moment.ensures in
    tested_so s c.args.event c.later-moment.result tested.Passes c.parts.result timed c.parts.ensures c.in-Passes.ensures

pub returns-in-Passes-clause-step : goal.returns-in-Passes-clause-step
returns-in-Passes-clause-step g c =
    let s : CoreState = c.args.self.now.core in
    ok_so (IsPlan s c.args.event c.plan_change.new.self) (λ p. IsStep s c.args.event (state_planned p s) (reply_planned p)) c.plan_change.result (λ p h. h.made) c.plan_change.ensures.planned

pub returns-in-Passes-clause-stored : goal.returns-in-Passes-clause-stored
returns-in-Passes-clause-stored g c =
    let s : CoreState = c.args.self.now.core in
    ok_so (IsPlan s c.args.event c.plan_change.new.self) (λ p. delta_planned p ≡ stored_by (step s c.args.event)) c.plan_change.result (λ p h. h.stored) c.plan_change.ensures.planned

pub returns-in-Refused-clause-refused : goal.returns-in-Refused-clause-refused
returns-in-Refused-clause-refused g c =
    let s : CoreState = c.args.self.now.core in
    let is : core_in c.self.inside ≡ s = ap (λ (e : EngineState). e.core) c.self.view_is in
    let timed = moment_so (core_in c.self.inside) s c.args.event c.later-moment.result is c.later-moment.ensures in
    let test = tested_so s c.args.event c.later-moment.result (tested.Refused c.in-Refused.refusal) c.parts.result timed c.parts.ensures c.in-Refused.ensures in
    inr (step_tested s c.args.event (tested.Refused c.in-Refused.refusal) test)

pub returns-in-Nothing-clause-step : goal.returns-in-Nothing-clause-step
returns-in-Nothing-clause-step g c =
    let s : CoreState = c.args.self.now.core in
    let is : core_in c.self.inside ≡ s = ap (λ (e : EngineState). e.core) c.self.view_is in
    let timed = moment_so (core_in c.self.inside) s c.args.event c.later-moment.result is c.later-moment.ensures in
    let test = tested_so s c.args.event c.later-moment.result tested.Nothing c.parts.result timed c.parts.ensures c.in-Nothing.ensures in
    (idle_plan s c.args.self.now c.args.event note.Nothing c.idle.result (step_tested s c.args.event tested.Nothing test) c.idle.ensures.done c.idle.ensures.change).made

pub returns-in-Nothing-clause-stored : goal.returns-in-Nothing-clause-stored
returns-in-Nothing-clause-stored g c =
    let s : CoreState = c.args.self.now.core in
    let is : core_in c.self.inside ≡ s = ap (λ (e : EngineState). e.core) c.self.view_is in
    let timed = moment_so (core_in c.self.inside) s c.args.event c.later-moment.result is c.later-moment.ensures in
    let test = tested_so s c.args.event c.later-moment.result tested.Nothing c.parts.result timed c.parts.ensures c.in-Nothing.ensures in
    (idle_plan s c.args.self.now c.args.event note.Nothing c.idle.result (step_tested s c.args.event tested.Nothing test) c.idle.ensures.done c.idle.ensures.change).stored

pub returns-in-Nothing-clause-ticks : goal.returns-in-Nothing-clause-ticks
returns-in-Nothing-clause-ticks g c =
    let s : CoreState = c.args.self.now.core in
    let is : core_in c.self.inside ≡ s = ap (λ (e : EngineState). e.core) c.self.view_is in
    let timed = moment_so (core_in c.self.inside) s c.args.event c.later-moment.result is c.later-moment.ensures in
    let test = tested_so s c.args.event c.later-moment.result tested.Nothing c.parts.result timed c.parts.ensures c.in-Nothing.ensures in
    let none : evaluated s c.args.event ≡ 0 = evaluated_tested s c.args.event tested.Nothing test in
    omega (arith, none)

pub returns-clause-step : goal.returns-clause-step
returns-clause-step g c =
    let s : CoreState = c.args.self.now.core in
    let is : core_in c.self.inside ≡ s = ap (λ (e : EngineState). e.core) c.self.view_is in
    let timed = moment_so (core_in c.self.inside) s c.args.event c.later-moment.result is c.later-moment.ensures in
    let test = tested_so s c.args.event c.later-moment.result tested.Ignored c.parts.result timed c.parts.ensures c.in-Ignored.ensures in
    (idle_plan s c.args.self.now c.args.event note.Ignored c.idle-in-Ignored.result (step_tested s c.args.event tested.Ignored test) c.idle-in-Ignored.ensures.done c.idle-in-Ignored.ensures.change).made

pub returns-clause-stored : goal.returns-clause-stored
returns-clause-stored g c =
    let s : CoreState = c.args.self.now.core in
    let is : core_in c.self.inside ≡ s = ap (λ (e : EngineState). e.core) c.self.view_is in
    let timed = moment_so (core_in c.self.inside) s c.args.event c.later-moment.result is c.later-moment.ensures in
    let test = tested_so s c.args.event c.later-moment.result tested.Ignored c.parts.result timed c.parts.ensures c.in-Ignored.ensures in
    (idle_plan s c.args.self.now c.args.event note.Ignored c.idle-in-Ignored.result (step_tested s c.args.event tested.Ignored test) c.idle-in-Ignored.ensures.done c.idle-in-Ignored.ensures.change).stored

pub returns-clause-ticks : goal.returns-clause-ticks
returns-clause-ticks g c =
    let s : CoreState = c.args.self.now.core in
    let is : core_in c.self.inside ≡ s = ap (λ (e : EngineState). e.core) c.self.view_is in
    let timed = moment_so (core_in c.self.inside) s c.args.event c.later-moment.result is c.later-moment.ensures in
    let test = tested_so s c.args.event c.later-moment.result tested.Ignored c.parts.result timed c.parts.ensures c.in-Ignored.ensures in
    let none : evaluated s c.args.event ≡ 0 = evaluated_tested s c.args.event tested.Ignored test in
    omega (arith, none)
