use Rattle.std.proofs.Common.{◌≡◌, ◌+◌, ◌&&◌, not, false, ◌∷◌, sym, drop, get_or, arith}
use Rattle.std.proofs.lemmas.Grind.{common_steps}
use Rattle.value_core.specs.Codes.{value_code}
use Rattle.value_core.specs.Same.{same}
use Rattle.visit_rules.proofs.matches.find_unused.Goals as goal

pub loop-i-preserved : goal.loop-i-preserved
loop-i-preserved c =
    let used_cons : drop c.loop-i.i c.args.used.now ≡ get_or c.args.used.now c.loop-i.i false ∷ drop (c.loop-i.i + 1) c.args.used.now = grind (arith, common_steps) in
    let items_cons : drop c.loop-i.i c.args.items.now ≡ c.index-items-i.result ∷ drop (c.loop-i.i + 1) c.args.items.now = grind (arith, common_steps) in
    let test : (not (get_or c.args.used.now c.loop-i.i false) && same value_code c.args.item.now c.index-items-i.result) ≡ false = sym c.if-is_for.ensures in
    let kept = rw (used_cons, items_cons, test) at c.loop-i.invariant in
    omega (arith, kept)
