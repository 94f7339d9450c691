use Rattle.std.proofs.Common.{◌≡◌, ◌∙◌, ap, drop, ◌+◌, ◌∷◌, arith, option_map, length, map}
use Rattle.std.proofs.lemmas.Grind.{common_steps}
use Rattle.op_keys.specs.Filling.{filled}
use Rattle.op_keys.specs.Orders.{capped}
use Rattle.op_keys.proofs.Fitting.{first_is}
use Rattle.op_keys.proofs.order.too_long.Goals as goal

pub returns-then-len-gt-ORDER_WORD_LIMIT : goal.returns-then-len-gt-ORDER_WORD_LIMIT
returns-then-len-gt-ORDER_WORD_LIMIT c =
    let cons : drop c.loop-template.template-index c.args.templates.now ≡ c.template-item.result ∷ drop (c.loop-template.template-index + 1) c.args.templates.now = grind (arith, common_steps) in
    let left = rw cons at c.loop-template.invariant in
    let len : c.filled_len-len.result ≡ capped (length (filled c.args.key.now c.args.value.now c.template-item.result)) = cc in
    first_is (filled c.args.key.now c.args.value.now c.template-item.result) (map (filled c.args.key.now c.args.value.now) (drop (c.loop-template.template-index + 1) c.args.templates.now)) c.filled_len-len.result len c.if-len-gt-ORDER_WORD_LIMIT.true ∙ ap (option_map capped) left
