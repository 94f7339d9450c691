use Rattle.std.proofs.Common.{◌≡◌, ap, ◌∙◌}
use Rattle.core_rules.specs.Core.{CoreState}
use Rattle.engine_core.specs.Evaluated.{trees_of}
use Rattle.engine_core.specs.State.{EngineState}
use Rattle.engine_core.specs.inside.Planning.{IsPlanOf, IsSettledPlan, IsUnplanned, IsUnsettled}
use Rattle.engine_core.proofs.Evaluating.{err_so, ok_so}
use Rattle.engine_core.proofs.PlanAnswers.{may_settle, plan_settled, triples_wanted, unplanned_so}
use Rattle.engine_core.proofs.engine.Engine.plan_draft.Goals as goal

pub evaluate_draft-requires-clause-before : goal.evaluate_draft-requires-clause-before
evaluate_draft-requires-clause-before g c =
    let s : CoreState = c.args.self.now.core in
    let trees = c.self.invariant.trees ∙ ap (λ (e : EngineState). trees_of e.core) c.self.view_is in
    triples_wanted s c.self.inside.evaluation c.as_slice.result.now trees (c.as_slice.ensures ∙ c.in_ok-before.ensures)

pub settle_draft-requires-clause-settles : goal.settle_draft-requires-clause-settles
settle_draft-requires-clause-settles g c =
    let can = may_settle c.args.self.now.core c.args.moment c.args.draft c.requires.drafted c.in_ok-plan.plan c.in_ok-plan.ensures.evaluated in
    rw (c.in_ok-plan.ensures.draft, c.in_ok-plan.ensures.kept) can

pub returns-clause-planned : goal.returns-clause-planned
returns-clause-planned g c =
    let s : CoreState = c.args.self.now.core in
    let same : c.settle_draft.new.self.core ≡ s = c.settle_draft.ensures.core ∙ ap (λ (e : EngineState). e.core) c.in_ok-plan.ensures.kept in
    let trees = c.self.invariant.trees ∙ ap (λ (e : EngineState). trees_of e.core) c.self.view_is in
    let triples = triples_wanted s c.self.inside.evaluation c.as_slice-2.result.now trees (c.as_slice-2.ensures ∙ c.in_ok-before.ensures) in
    let settled = rw c.in_ok-plan.ensures.draft at c.settle_draft.ensures.planned in
    ok_so (IsSettledPlan c.settle_draft.new.self c.args.moment c.args.draft c.as_slice-2.result.now c.in_ok-plan.plan) (IsPlanOf c.settle_draft.new.self c.args.moment c.args.draft) c.settle_draft.result
    (λ p h. plan_settled s c.settle_draft.new.self c.args.moment c.args.draft c.as_slice-2.result.now c.in_ok-plan.plan p same triples c.in_ok-plan.ensures.evaluated h) settled

pub returns-clause-unplanned : goal.returns-clause-unplanned
returns-clause-unplanned g c =
    let s : CoreState = c.args.self.now.core in
    let unsettled = rw (c.in_ok-plan.ensures.draft, c.in_ok-plan.ensures.kept) at c.settle_draft.ensures.unsettled in
    err_so (IsUnsettled s c.args.moment c.args.draft.edit c.in_ok-plan.plan) (IsUnplanned s c.args.moment c.args.draft.edit) c.settle_draft.result
    (λ r h. unplanned_so s c.args.moment c.args.draft.edit c.in_ok-plan.plan r c.in_ok-plan.ensures.evaluated h) unsettled
