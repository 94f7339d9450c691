use Rattle.term_core.proofs.Agreeing.{node_local}
use Rattle.term_core.proofs.laws.node_is_local.Goals as goal

pub returns : goal.returns
returns c = node_local
