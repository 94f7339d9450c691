use Rattle.std.proofs.Common.{◌≡◌, take}
use Rattle.term_core.proofs.copying.+copying.Given as goal

abbrev pub invariant-copy_of_terms-loop-term : goal.invariant-copy_of_terms-loop-term
invariant-copy_of_terms-loop-term l = l.copies ≡ take l.term-index l.terms
