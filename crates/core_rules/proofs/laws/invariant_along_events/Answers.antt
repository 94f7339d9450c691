use Rattle.core_rules.proofs.Invariant.{invariant_along_events as law}
use Rattle.core_rules.proofs.laws.invariant_along_events.Goals as goal

pub returns : goal.returns
returns c = law
