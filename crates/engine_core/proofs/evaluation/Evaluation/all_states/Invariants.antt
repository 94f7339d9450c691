use Rattle.std.proofs.Common.{◌≡◌, ◌++◌, [], drop}
use Rattle.core_rules.specs.Replies.{changed_from}
use Rattle.visit_rules.specs.Visits.{states}
use Rattle.engine_core.proofs.evaluation.Evaluation.all_states.Given as goal

abbrev pub invariant-loop-node : goal.invariant-loop-node
invariant-loop-node l = l.all ++ changed_from l.node [] (drop l.node (states l.self)) ≡ changed_from 0 [] (states l.self)
