use Rattle.std.proofs.Common.{append_assoc}
use Rattle.visit_rules.proofs.Gathers.{wants_at}
use Rattle.incr_eval.proofs.gathering.wants_in.Goals as goal

pub loop-i-preserved : goal.loop-i-preserved
loop-i-preserved c =
    let rest = rw (wants_at c.args.forest.now c.loop-i.i c.at.result c.at.ensures) at c.loop-i.invariant in
    rw (c.in_ok-add_wants.ensures, append_assoc) rest
