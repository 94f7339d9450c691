use Rattle.std.proofs.Common.{◌≡◌, map, string_bytes, drop}
use Rattle.command_words.specs.Options.{has_lone_hyphen}
use Rattle.command_words.proofs.options.has_lone_hyphen.Given as goal

abbrev pub invariant-loop-word : goal.invariant-loop-word
invariant-loop-word l = has_lone_hyphen (map string_bytes l.words) ≡ has_lone_hyphen (map string_bytes (drop l.word-index l.words))
