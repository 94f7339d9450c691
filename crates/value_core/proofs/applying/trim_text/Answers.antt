use Rattle.value_core.proofs.Cuts.{trimmed_clean}
use Rattle.value_core.proofs.applying.trim_text.Goals as goal

pub success-requires : goal.success-requires
success-requires c = rw c.trim.ensures (trimmed_clean c.args.text.now c.requires)
