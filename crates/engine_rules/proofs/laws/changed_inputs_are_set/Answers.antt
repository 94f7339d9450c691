use Rattle.engine_rules.specs.Edits.{edit_of}
use Rattle.engine_rules.proofs.TouchedTriples.{inputs_kept as law}
use Rattle.engine_rules.proofs.laws.changed_inputs_are_set.Goals as goal

pub returns : goal.returns
returns c = λ s w i h. law (edit_of s w).input s.inputs i h
