use Rattle.snap_read.specs.Lists.{AreNew}
use Rattle.snap_read.proofs.snap.readers_of.Given as goal

abbrev pub invariant-loop : goal.invariant-loop
invariant-loop g l = AreNew l.shown l.counter l.readers
