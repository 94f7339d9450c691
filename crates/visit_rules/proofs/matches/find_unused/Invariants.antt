use Rattle.std.proofs.Common.{◌≡◌, ◌+◌, drop}
use Rattle.visit_rules.specs.Again.{unused_place}
use Rattle.visit_rules.proofs.matches.find_unused.Given as goal

abbrev pub invariant-loop-i : goal.invariant-loop-i
invariant-loop-i l = l.i + unused_place l.item (drop l.i l.used) (drop l.i l.items) ≡ unused_place l.item l.used l.items
