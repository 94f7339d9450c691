use Rattle.std.proofs.Common.{arith}
use Rattle.op_keys.proofs.filling.filled_len.Goals as goal

pub returns : goal.returns
returns c =
    let all = rw c.in_default.ensures.piece at c.loop-piece.invariant.2 in
    omega (arith, all, c.loop-piece.invariant.1)
