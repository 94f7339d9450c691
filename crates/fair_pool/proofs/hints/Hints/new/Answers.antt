use Rattle.fair_pool.proofs.HintTable.{no_hints}
use Rattle.fair_pool.proofs.hints.Hints.new.Goals as goal

pub returns : goal.returns
returns c = no_hints c.new.result.items c.new.ensures.items
