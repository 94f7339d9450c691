use Rattle.core_rules.proofs.Published.{changes_make_states as law}
use Rattle.core_rules.proofs.laws.changes_make_states.Goals as goal

pub returns : goal.returns
returns c = law
