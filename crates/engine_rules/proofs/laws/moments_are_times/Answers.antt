use Rattle.engine_rules.proofs.BoundedStates.{moments_are_times as law}
use Rattle.engine_rules.proofs.laws.moments_are_times.Goals as goal

pub returns : goal.returns
returns c = law
