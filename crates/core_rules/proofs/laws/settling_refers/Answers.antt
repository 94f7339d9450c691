use Rattle.core_rules.proofs.Referred.{settling_refers as law}
use Rattle.core_rules.proofs.laws.settling_refers.Goals as goal

pub returns : goal.returns
returns c = law
