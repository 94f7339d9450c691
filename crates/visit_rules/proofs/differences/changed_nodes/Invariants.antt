use Rattle.std.proofs.Common.{◌≡◌, ◌++◌, drop}
use Rattle.visit_rules.specs.Differences.{changed_of, moved_from}
use Rattle.visit_rules.proofs.differences.changed_nodes.Given as goal

abbrev pub invariant-loop-i : goal.invariant-loop-i
invariant-loop-i l = l.changed ++ moved_from l.i (drop l.i l.moved) (drop l.i l.states) ≡ changed_of l.moved l.states
