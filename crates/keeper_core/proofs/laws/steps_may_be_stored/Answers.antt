use Rattle.keeper_core.proofs.StepsStored.{steps_may_be_stored as law}
use Rattle.keeper_core.proofs.laws.steps_may_be_stored.Goals as goal

pub returns : goal.returns
returns c = law
