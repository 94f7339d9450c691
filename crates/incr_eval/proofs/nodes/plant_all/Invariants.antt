use Rattle.std.proofs.Common.{◌≡◌, take}
use Rattle.incr_eval.specs.PatchedTrees.{patched_trees}
use Rattle.incr_eval.proofs.nodes.plant_all.Given as goal

abbrev pub invariant-loop-i : goal.invariant-loop-i
invariant-loop-i l = l.forest ≡ take l.i (patched_trees l.patches l.old)
