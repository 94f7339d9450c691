use Rattle.std.proofs.Common.{[], ◌∷◌, ◌++◌, List, ap, sym, ◌∙◌}
use Rattle.std.specs.Prelude.{slice_get}
use Rattle.core_rules.specs.Replies.{changed_from}
use Rattle.visit_rules.specs.Visits.{states}
use Rattle.visit_rules.specs.declared.visit.Visit.{Visit}
use Rattle.engine_core.proofs.FirstStates.{taken_next}
use Rattle.engine_core.proofs.evaluation.Evaluation.all_states.Goals as goal

pub loop-node-preserved : goal.loop-node-preserved
loop-node-preserved c =
    let found = ap (λ (vs : List Visit). slice_get (states vs) c.loop-node.node) (sym c.self.view_is) ∙ c.state_of.ensures in
    taken_next (states c.args.self.now) c.loop-node.node c.state_of.result.now c.loop-node.all c.push.new.self (changed_from 0 [] (states c.args.self.now)) found
    (c.in_ok-push.ensures.ok ∙ (λ i. c.loop-node.all ++ (c.loop-node.node, c.in_ok-copy.ensures i) ∷ [])) c.loop-node.invariant
