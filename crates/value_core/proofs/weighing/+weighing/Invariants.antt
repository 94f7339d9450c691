use Rattle.std.proofs.Common.{◌≡◌, ◌+◌, drop, map, sum}
use Rattle.value_core.specs.Values.{weight_of}
use Rattle.value_core.proofs.weighing.+weighing.Given as goal

abbrev pub decreases-weight : goal.decreases-weight
decreases-weight l = goal.size-weight l

abbrev pub decreases-weight_of_outcome : goal.decreases-weight_of_outcome
decreases-weight_of_outcome l = goal.size-weight_of_outcome l

abbrev pub invariant-weight-loop-item : goal.invariant-weight-loop-item
invariant-weight-loop-item l = l.sum + sum (map weight_of (drop l.item-index l.item-items)) ≡ weight_of l.v
