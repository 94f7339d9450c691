use Rattle.std.proofs.Common.{◌≡◌, drop}
use Rattle.term_check.specs.Faults.{op_fault, first_fault}
use Rattle.term_check.proofs.checking.op_fault.Given as goal

abbrev pub invariant-loop-i : goal.invariant-loop-i
invariant-loop-i l = first_fault (op_fault l.program) l.i (drop l.i l.program.ops) ≡ first_fault (op_fault l.program) 0 l.program.ops
