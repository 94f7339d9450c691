use Rattle.core_rules.proofs.Invariant.{lawful_after_replays as law}
use Rattle.core_rules.proofs.laws.lawful_after_replays.Goals as goal

pub returns : goal.returns
returns c = law
