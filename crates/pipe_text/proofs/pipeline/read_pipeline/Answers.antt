use Rattle.pipe_text.proofs.WholeFile.{read_stands, one_program, no_fault}
use Rattle.pipe_text.proofs.ProgramWithin.{standing_within}
use Rattle.pipe_text.proofs.Again.{right_answer}
use Rattle.pipe_text.proofs.pipeline.read_pipeline.Goals as goal

pub returns-in-Ok-clause-found : goal.returns-in-Ok-clause-found
returns-in-Ok-clause-found c = read_stands c.args.bytes.now c.in-Ok.program c.in-Ok.ensures

pub returns-in-Ok-clause-all : goal.returns-in-Ok-clause-all
returns-in-Ok-clause-all c p s = one_program c.args.bytes.now c.in-Ok.program p c.in-Ok.ensures s

pub returns-in-Err-At-clause-all : goal.returns-in-Err-At-clause-all
returns-in-Err-At-clause-all c p s = rw c.reported.ensures (no_fault c.args.bytes.now c.in-Err-At.fault p (rw c.in-Err-At.field-0-is at c.in-Err-At.ensures) s)

pub returns-in-Ok-clause-within : goal.returns-in-Ok-clause-within
returns-in-Ok-clause-within c = standing_within c.args.bytes.now c.in-Ok.program (read_stands c.args.bytes.now c.in-Ok.program c.in-Ok.ensures)

pub returns-in-Err-At-clause-fault : goal.returns-in-Err-At-clause-fault
returns-in-Err-At-clause-fault c = rw c.reported.ensures (right_answer c.args.bytes.now c.in-Err-At.fault (rw c.in-Err-At.field-0-is at c.in-Err-At.ensures))
