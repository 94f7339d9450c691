use Rattle.std.proofs.Common.{◌≡◌, take}
use Rattle.fair_pool.proofs.hints.copy_of_known.Given as goal

abbrev pub invariant-loop-hint : goal.invariant-loop-hint
invariant-loop-hint l = l.copies.items ≡ take l.hint-index l.known
