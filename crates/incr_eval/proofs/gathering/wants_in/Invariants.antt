use Rattle.std.proofs.Common.{◌≡◌, ◌++◌, drop}
use Rattle.std.specs.List.{flat_map}
use Rattle.visit_rules.specs.Visits.{wants_of}
use Rattle.incr_eval.proofs.gathering.wants_in.Given as goal

abbrev pub invariant-loop-i : goal.invariant-loop-i
invariant-loop-i l = l.wants ++ flat_map wants_of (drop l.i l.forest) ≡ flat_map wants_of l.forest
