use Rattle.desk_core.proofs.Held.{desk_steps_are_held as law}
use Rattle.desk_core.proofs.laws.desk_steps_are_held.Goals as goal

pub returns : goal.returns
returns c = law
