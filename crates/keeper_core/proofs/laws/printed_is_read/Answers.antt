use Rattle.keeper_core.proofs.PrintedReads.{printed_is_read as law}
use Rattle.keeper_core.proofs.laws.printed_is_read.Goals as goal

pub returns : goal.returns
returns c = law
