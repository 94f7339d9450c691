use Rattle.std.proofs.Common.{◌≡◌, ◌-◌, ◌∷◌, map}
use Rattle.std.specs.List.{range_with_len}
use Rattle.session_rules.specs.Commands.{building_node, counting_node}
use Rattle.made_session.proofs.program.nodes.Given as goal

abbrev pub invariant-loop-i : goal.invariant-loop-i
invariant-loop-i l = l.nodes ≡ building_node ∷ map counting_node (range_with_len 1 (l.i - 1))
