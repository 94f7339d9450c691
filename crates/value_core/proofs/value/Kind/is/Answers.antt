use Rattle.value_core.specs.Codes.{kind_code}
use Rattle.value_core.proofs.Sames.{same_is}
use Rattle.value_core.proofs.value.Kind.is.Goals as goal

pub returns-clause-decided : goal.returns-clause-decided
returns-clause-decided c = same_is kind_code c.args.self.now c.args.other.now _ c.are_equal_kinds.ensures
