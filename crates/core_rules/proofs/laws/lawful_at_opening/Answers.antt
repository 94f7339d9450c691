use Rattle.core_rules.proofs.Invariant.{lawful_at_opening as law}
use Rattle.core_rules.proofs.laws.lawful_at_opening.Goals as goal

pub returns : goal.returns
returns c = law
