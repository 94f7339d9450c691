use Rattle.term_check.proofs.Reported.{reads_only_reported, wants_only_reported}
use Rattle.term_check.proofs.laws.only_reported_things_are_read.Goals as goal

pub returns : goal.returns
returns c = record { reads = reads_only_reported; wants = wants_only_reported }
