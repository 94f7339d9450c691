use Rattle.term_check.proofs.FittingWants.{wants_wantable}
use Rattle.term_check.proofs.laws.only_short_triples_are_wanted.Goals as goal

pub returns : goal.returns
returns c = wants_wantable
