use Rattle.desk_core.proofs.Held.{desk_openings_follow as law}
use Rattle.desk_core.proofs.laws.desk_openings_follow.Goals as goal

pub returns : goal.returns
returns c = law
