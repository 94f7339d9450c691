use Rattle.keeper_core.proofs.ChainLaws.{openings_are_held as law}
use Rattle.keeper_core.proofs.laws.openings_are_held.Goals as goal

pub returns : goal.returns
returns c = law
