use Rattle.sched_rows.proofs.ValidityLaws.{valid-later}
use Rattle.sched_rows.proofs.validity.validity_law.Goals as goal

pub returns : goal.returns
returns c = valid-later
