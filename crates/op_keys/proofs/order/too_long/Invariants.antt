use Rattle.std.proofs.Common.{◌≡◌, drop, map}
use Rattle.op_keys.specs.Filling.{filled}
use Rattle.op_keys.specs.Orders.{first_too_long}
use Rattle.op_keys.proofs.order.too_long.Given as goal

abbrev pub invariant-loop-template : goal.invariant-loop-template
invariant-loop-template l = first_too_long (map (filled l.key l.value) (drop l.template-index l.templates)) ≡ first_too_long (map (filled l.key l.value) l.templates)
