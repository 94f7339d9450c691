use Rattle.core_rules.proofs.Starts.{started as law}
use Rattle.core_rules.proofs.laws.starts_are_picks.Goals as goal

pub returns : goal.returns
returns c = law
