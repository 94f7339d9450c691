use Rattle.std.proofs.Common.{◌≡◌}
use Rattle.std.specs.String.{string_bytes}
use Rattle.op_keys.specs.Filling.{filled}
use Rattle.op_keys.proofs.Fillings.{filled-no_nul}
use Rattle.op_keys.proofs.order.word_of.Goals as goal

pub invariant_of-result : goal.invariant_of-result
invariant_of-result c =
    let is : string_bytes c.in_ok-word.word ≡ filled c.args.key.now c.args.value.now c.args.template.now = cc c.in_ok-word.ensures in
    let no_nul = filled-no_nul c.args.key.now c.args.value.now c.args.template.now c.as_str-2.ensures.no_nul c.as_str-3.ensures.no_nul c.as_str.ensures.no_nul in
    rw is (no_nul, c.requires)
