use Rattle.core_rules.proofs.Invariant.{invariant_after_replays as law}
use Rattle.core_rules.proofs.laws.invariant_after_replays.Goals as goal

pub returns : goal.returns
returns c = law
