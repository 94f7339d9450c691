use Rattle.engine_rules.proofs.TouchedTriples.{differing_are_touched, changed_are_touched}
use Rattle.engine_rules.proofs.laws.changed_are_touched.Goals as goal

pub returns : goal.returns
returns c = record { entries = changed_are_touched; worlds = differing_are_touched }
