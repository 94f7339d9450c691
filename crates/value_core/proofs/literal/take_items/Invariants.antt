use Rattle.std.proofs.Common.{◌≡◌, [], length}
use Rattle.value_core.specs.Literals.{item_texts, tokens_in}
use Rattle.value_core.proofs.Items.{with_items}
use Rattle.value_core.proofs.literal.take_items.Given as goal

abbrev pub invariant-items : goal.invariant-items
invariant-items l = with_items l.items (item_texts (tokens_in l.rest)) ≡ with_items [] (item_texts (tokens_in l.tokens))

abbrev pub decreases-items : goal.decreases-items
decreases-items l = length l.rest
