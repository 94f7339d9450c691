use Rattle.std.proofs.Common.{sym, ◌∙◌, refl, subst}
use Rattle.pipe_text.specs.Files.{file_limits}
use Rattle.pipe_text.specs.inside.Readers.{Fails}
use Rattle.pipe_text.specs.inside.TermReading.{command_word_at}
use Rattle.pipe_text.proofs.Loops.{following_more, following_end, following_err}
use Rattle.pipe_text.proofs.literals.take_more_words.Goals as goal

pub more-init : goal.more-init
more-init c = rw (c.in_ok-push.ensures.ok, c.new-words.ensures, c.number-room.ensures) refl

pub returns-in-Err : goal.returns-in-Err
returns-in-Err c = subst (Fails c.in-Err.fault) c.more.invariant (following_err (λ t. t) (command_word_at file_limits) c.more.room c.args.stop c.more.tokens.now c.more.words c.in-Err.fault c.in-Err.ensures.gives)

pub returns-in-None : goal.returns-in-None
returns-in-None c = sym c.more.invariant ∙ following_end (λ t. t) (command_word_at file_limits) c.more.room c.args.stop c.more.tokens.now c.in-Ok.rest.now c.more.words (rw c.in-None.is at c.in-Ok.ensures.gives)

pub more-preserved : goal.more-preserved
more-preserved c = rw c.in_ok-push-in-Some.ensures.ok (sym (following_more (λ t. t) (command_word_at file_limits) c.more.room c.args.stop c.more.tokens.now c.in-Ok.rest.now c.in-Some.text c.more.words (rw c.in-Some.is at c.in-Ok.ensures.room) (rw c.in-Some.is at c.in-Ok.ensures.gives)) ∙ c.more.invariant)
