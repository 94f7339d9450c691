use Rattle.std.proofs.Common.{◌≡◌, ◌∷◌, []}
use Rattle.pipe_text.specs.Files.{file_limits}
use Rattle.pipe_text.specs.inside.TermReading.{command_word_at, texts_at, following}
use Rattle.pipe_text.proofs.literals.take_more_words.Given as goal

abbrev pub decreases-more : goal.decreases-more
decreases-more l = l.room

abbrev pub invariant-more : goal.invariant-more
invariant-more l = following (λ t. t) l.words (texts_at (command_word_at file_limits) l.room l.stop l.tokens) ≡ following (λ t. t) (l.fn.first ∷ []) (texts_at (command_word_at file_limits) 63 l.stop l.fn.tokens)
