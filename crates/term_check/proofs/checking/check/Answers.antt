use Rattle.std.proofs.Common.{sym}
use Rattle.term_check.proofs.Whole.{sound_from}
use Rattle.term_check.proofs.checking.check.Goals as goal

pub of-requires : goal.of-requires
of-requires c = sound_from c.args.program c.requires.within (sym (rw c.in-Ok-None.field-0-is at c.in-Ok-None.ensures))
