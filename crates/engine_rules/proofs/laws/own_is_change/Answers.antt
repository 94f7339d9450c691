use Rattle.engine_rules.proofs.StepParts.{marked_alone, own_alone_is_change, own_is_change as law}
use Rattle.engine_rules.proofs.laws.own_is_change.Goals as goal

pub returns : goal.returns
returns c = record { whole = law; alone = own_alone_is_change; marked = marked_alone }
