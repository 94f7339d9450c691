use Rattle.core_rules.proofs.Storing.{steps_store}
use Rattle.core_rules.proofs.laws.steps_store_deltas.Goals as goal

pub returns : goal.returns
returns c = λ s e s' r i h. steps_store s e s' r i.bounded.rows h
