use Rattle.value_core.proofs.Sames.{same_is}
use Rattle.dep_index.specs.Pairs.{used_code}
use Rattle.dep_index.proofs.used.Used.is.Goals as goal

pub returns : goal.returns
returns c = same_is used_code c.args.self.now c.args.other.now c.equals.result c.equals.ensures
