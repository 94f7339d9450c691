use Rattle.std.proofs.lemmas.Str.{is_utf8-from_IsUtf8}
use Rattle.std.specs.Str.{is_utf8}
use Rattle.value_core.specs.Texts.{no_nul}
use Rattle.value_core.proofs.Basics.{and_both}
use Rattle.keeper_core.proofs.texts.keeps_utf8.Goals as goal

pub returns : goal.returns
returns c = and_both (is_utf8 c.args.text.now) (no_nul c.args.text.now) (is_utf8-from_IsUtf8 _ c.utf8.text) c.requires
