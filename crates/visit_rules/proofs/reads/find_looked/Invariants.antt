use Rattle.std.proofs.Common.{◌≡◌, drop}
use Rattle.visit_rules.specs.KnownChanges.{found_entry}
use Rattle.visit_rules.proofs.reads.find_looked.Given as goal

abbrev pub invariant-loop-one : goal.invariant-loop-one
invariant-loop-one l = found_entry (drop l.one-index l.looked) l.triple ≡ found_entry l.looked l.triple
