use Rattle.report_text.specs.FaultLines.{what_text}
use Rattle.report_text.proofs.fault_lines.write_what.Goals as goal

pub returns-in-KindMismatch : goal.returns-in-KindMismatch
unfolding what_text
returns-in-KindMismatch c = rw c.in-KindMismatch.is c.write_mismatch.ensures

pub returns-in-KindTooLarge : goal.returns-in-KindTooLarge
unfolding what_text
returns-in-KindTooLarge c = rw c.in-KindTooLarge.is c.write.ensures.bytes
