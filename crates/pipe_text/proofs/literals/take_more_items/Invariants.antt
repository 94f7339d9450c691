use Rattle.std.proofs.Common.{◌≡◌, ◌∷◌, []}
use Rattle.value_core.specs.declared.value.Value.TheVariants as value
use Rattle.pipe_text.specs.Files.{file_limits}
use Rattle.pipe_text.specs.inside.TermReading.{item_at, texts_at, following}
use Rattle.pipe_text.proofs.literals.take_more_items.Given as goal

abbrev pub decreases-more : goal.decreases-more
decreases-more l = l.room

abbrev pub invariant-more : goal.invariant-more
invariant-more l = following value.Words l.items (texts_at (item_at file_limits) l.room l.stop l.tokens) ≡ following value.Words (value.Words l.fn.first ∷ []) (texts_at (item_at file_limits) 255 l.stop l.fn.tokens)
