use Rattle.std.proofs.Common.{◌≡◌, take}
use Rattle.value_core.proofs.comparing.+comparing.Given as goal

abbrev pub invariant-are_all_equal-loop-i : goal.invariant-are_all_equal-loop-i
invariant-are_all_equal-loop-i l = take l.i l.xs ≡ take l.i l.ys
