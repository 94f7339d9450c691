use Rattle.std.proofs.Common.{◌≡◌}
use Rattle.std.specs.Prelude.{string_bytes}
use Rattle.std.specs.List.{flat_map, range_with_len}
use Rattle.session_rules.specs.Commands.{made_line}
use Rattle.made_session.proofs.script.made_script.Given as goal

abbrev pub invariant-loop-i : goal.invariant-loop-i
invariant-loop-i l = string_bytes l.out ≡ flat_map (made_line l.nodes) (range_with_len 1 l.i)
