use Rattle.core_rules.proofs.Invariant.{lawful_through_step as law}
use Rattle.core_rules.proofs.laws.lawful_through_steps.Goals as goal

pub returns : goal.returns
returns c = law
