use Rattle.term_check.proofs.Suits.{functions_take}
use Rattle.term_check.proofs.laws.functions_take_what_they_want.Goals as goal

pub returns : goal.returns
returns c = functions_take
