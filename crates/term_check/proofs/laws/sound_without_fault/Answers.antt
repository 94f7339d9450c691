use Rattle.term_check.proofs.Whole.{faultless, sound_from}
use Rattle.term_check.proofs.laws.sound_without_fault.Goals as goal

pub returns : goal.returns
returns c = λ p within. (sound_from p within, faultless p)
