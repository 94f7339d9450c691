use Rattle.snap_read.proofs.Fronts.{new_more}
use Rattle.snap_read.proofs.snap.readers_of.Goals as goal

pub loop-preserved : goal.loop-preserved
loop-preserved g c =
    new_more c.args.shown.now c.loop.counter c.loop.readers c.push.new.self _ c.loop.invariant c.in_ok-own.ensures c.in_ok-push.ensures.ok
