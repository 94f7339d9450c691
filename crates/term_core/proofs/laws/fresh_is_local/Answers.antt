use Rattle.term_core.proofs.Agreeing.{fresh_local}
use Rattle.term_core.proofs.laws.fresh_is_local.Goals as goal

pub returns : goal.returns
returns c = fresh_local
