use Rattle.engine_rules.proofs.ProperStates.{states_are_proper as law}
use Rattle.engine_rules.proofs.laws.states_are_proper.Goals as goal

pub returns : goal.returns
returns c = law
