use Rattle.pipe_text.proofs.WholeFile.{one_program, standing_read}
use Rattle.pipe_text.proofs.pipeline.one_program_law.Goals as goal

pub returns : goal.returns
returns c bytes p q one other = one_program bytes p q (standing_read bytes p one) other
