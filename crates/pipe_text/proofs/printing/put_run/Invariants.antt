use Rattle.std.proofs.Common.{◌≡◌, drop, map}
use Rattle.value_core.specs.declared.token.Token.TheVariants.{Words}
use Rattle.pipe_text.specs.Printing.{after}
use Rattle.pipe_text.proofs.printing.put_run.Given as goal

abbrev pub invariant-loop-word : goal.invariant-loop-word
invariant-loop-word l = after l.printer (map Words (drop l.word-index l.words)) ≡ after l.initial.printer (map Words l.words)
