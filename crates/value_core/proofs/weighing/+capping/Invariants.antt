use Rattle.std.proofs.Common.{◌≡◌, ◌+◌, ◌-◌, ◌^◌, ◌<◌, drop, map, sum, min}
use Rattle.value_core.specs.Values.{weight_of}
use Rattle.value_core.proofs.weighing.+capping.Given as goal

abbrev pub invariant-capped_weight-loop-item : goal.invariant-capped_weight-loop-item
invariant-capped_weight-loop-item l =
    (l.sum < 2 ^ 64) × (min (l.sum + sum (map weight_of (drop l.item-index l.item-items))) (2 ^ 64 - 1) ≡ min (weight_of l.v) (2 ^ 64 - 1))
