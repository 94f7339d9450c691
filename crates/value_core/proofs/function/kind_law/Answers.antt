use Rattle.value_core.proofs.KindLaws.{kept}
use Rattle.value_core.proofs.function.kind_law.Goals as goal

pub returns : goal.returns
returns c = kept
