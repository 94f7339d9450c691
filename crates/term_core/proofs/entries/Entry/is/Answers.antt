use Rattle.value_core.proofs.Sames.{same_is}
use Rattle.term_core.specs.Codes.{entry_code}
use Rattle.term_core.proofs.entries.Entry.is.Goals as goal

pub returns-clause-decided : goal.returns-clause-decided
returns-clause-decided c = same_is entry_code c.args.self.now c.args.other.now c.are_equal.result c.are_equal.ensures
