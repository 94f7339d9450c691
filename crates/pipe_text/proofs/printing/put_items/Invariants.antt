use Rattle.std.proofs.Common.{◌≡◌, if◌then◌else◌, drop}
use Rattle.pipe_text.specs.Printing.{after, items_tokens, more_items}
use Rattle.pipe_text.proofs.printing.put_items.Given as goal

abbrev pub invariant-loop-item : goal.invariant-loop-item
invariant-loop-item l = after l.printer (if l.is_first then items_tokens (drop l.item-index l.items) else more_items (drop l.item-index l.items)) ≡ after l.initial.printer (items_tokens l.items)
