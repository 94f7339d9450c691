use Rattle.value_core.specs.Codes.{state_code}
use Rattle.value_core.proofs.Sames.{same_is}
use Rattle.value_core.proofs.state.State.is.Goals as goal

pub returns-clause-decided : goal.returns-clause-decided
returns-clause-decided c = same_is state_code c.args.self.now c.args.other.now _ c.are_equal_states.ensures
