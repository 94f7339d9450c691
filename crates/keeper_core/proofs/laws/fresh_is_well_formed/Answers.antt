use Rattle.keeper_core.proofs.TablesKept.{fresh_well_formed as law}
use Rattle.keeper_core.proofs.laws.fresh_is_well_formed.Goals as goal

pub returns : goal.returns
returns c = law
