use Rattle.term_check.proofs.Proper.{states_have_their_kinds}
use Rattle.term_check.proofs.laws.sound_states_have_their_kinds.Goals as goal

pub returns : goal.returns
returns c = states_have_their_kinds
