use Rattle.keeper_core.proofs.TablesKept.{commits_keep as law}
use Rattle.keeper_core.proofs.laws.commits_keep_tables.Goals as goal

pub returns : goal.returns
returns c = law
