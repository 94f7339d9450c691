use Rattle.core_rules.proofs.Entries.{world_entry as law}
use Rattle.core_rules.proofs.laws.world_is_entries.Goals as goal

pub returns : goal.returns
returns c = law
