use Rattle.keeper_core.proofs.ChainLaws.{next_opening_follows as law}
use Rattle.keeper_core.proofs.laws.next_opening_follows.Goals as goal

pub returns : goal.returns
returns c = law
