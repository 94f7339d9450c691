use Rattle.std.proofs.Common.{◌≡◌, drop, take, map, None}
use Rattle.op_keys.specs.Filling.{filled}
use Rattle.op_keys.specs.Orders.{first_too_long}
use Rattle.op_keys.proofs.order.filled_words.Given as goal

abbrev pub invariant-loop-template : goal.invariant-loop-template
invariant-loop-template l = record {
  short : first_too_long (map (filled l.key l.value) (drop l.template-index l.templates)) ≡ None;
  filled : l.words ≡ map (filled l.key l.value) (take l.template-index l.templates);
}
