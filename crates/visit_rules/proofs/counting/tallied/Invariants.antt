use Rattle.std.proofs.Common.{◌≡◌, map}
use Rattle.std.specs.Map.Iter.{deref_pair}
use Rattle.visit_rules.proofs.Tallies.{shown}
use Rattle.visit_rules.proofs.counting.tallied.Given as goal

abbrev pub invariant-loop-triple : goal.invariant-loop-triple
invariant-loop-triple l = l.tally ≡ map shown (map deref_pair l.yielded)
