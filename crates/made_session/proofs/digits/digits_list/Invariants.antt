use Rattle.std.proofs.Common.{◌≡◌}
use Rattle.value_core.specs.Parts.{text_values}
use Rattle.session_rules.specs.Commands.{digits_from}
use Rattle.made_session.proofs.digits.digits_list.Given as goal

abbrev pub invariant-loop-i : goal.invariant-loop-i
invariant-loop-i l = l.items ≡ text_values (digits_from l.first l.i)
