use Rattle.value_core.specs.Codes.{value_code}
use Rattle.value_core.proofs.Sames.{same_is}
use Rattle.value_core.proofs.value.Value.is.Goals as goal

pub returns-clause-decided : goal.returns-clause-decided
returns-clause-decided c = same_is value_code c.args.self.now c.args.other.now _ c.are_equal.ensures
