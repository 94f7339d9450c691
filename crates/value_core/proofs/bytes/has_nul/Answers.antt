use Rattle.std.proofs.Common.{◌∙◌}
use Rattle.value_core.proofs.Texts.{any_nul}
use Rattle.value_core.proofs.bytes.has_nul.Goals as goal

pub returns : goal.returns
returns c = c.contains.ensures.value ∙ any_nul c.args.bytes.now
