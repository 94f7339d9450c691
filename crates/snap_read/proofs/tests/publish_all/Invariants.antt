use Rattle.snap_read.specs.Lists.{IsBelow}
use Rattle.snap_read.proofs.tests.publish_all.Given as goal

-- all that is published is below the next version
abbrev pub invariant-loop-version : goal.invariant-loop-version
invariant-loop-version g l = IsBelow (g.P.Publish.published l.writer) l.version
