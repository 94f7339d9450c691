use Rattle.value_core.specs.Codes.{value_code, state_code}
use Rattle.value_core.proofs.Sames.{same_true, same_refl}
use Rattle.value_core.proofs.comparing.same_law.Goals as goal

pub returns-clause-equal_values : goal.returns-clause-equal_values
returns-clause-equal_values c = same_true value_code

pub returns-clause-reflexive_values : goal.returns-clause-reflexive_values
returns-clause-reflexive_values c = same_refl value_code

pub returns-clause-equal_states : goal.returns-clause-equal_states
returns-clause-equal_states c = same_true state_code

pub returns-clause-reflexive_states : goal.returns-clause-reflexive_states
returns-clause-reflexive_states c = same_refl state_code
