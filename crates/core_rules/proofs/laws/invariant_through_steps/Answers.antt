use Rattle.core_rules.proofs.Invariant.{invariant_through_step as law, version_rises}
use Rattle.core_rules.proofs.Numbers.{now_rises}
use Rattle.core_rules.proofs.laws.invariant_through_steps.Goals as goal

pub returns : goal.returns
returns c = λ s e s' r h i. (law s e s' r h i, now_rises s e s' r h, version_rises s e s' r h)
