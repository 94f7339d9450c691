use Rattle.value_core.specs.Codes.{outcome_code}
use Rattle.value_core.proofs.Sames.{same_is}
use Rattle.value_core.proofs.value.Outcome.is.Goals as goal

pub returns-clause-decided : goal.returns-clause-decided
returns-clause-decided c = same_is outcome_code c.args.self.now c.args.other.now _ c.are_equal_outcomes.ensures
