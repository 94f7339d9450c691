use Rattle.core_rules.proofs.Invariant.{invariant_at_opening as law}
use Rattle.core_rules.proofs.laws.invariant_at_opening.Goals as goal

pub returns : goal.returns
returns c = law
