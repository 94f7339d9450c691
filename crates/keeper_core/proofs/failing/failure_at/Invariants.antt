use Rattle.std.proofs.Common.{◌≡◌, drop}
use Rattle.keeper_core.specs.inside.FailingCalls.{failure_at}
use Rattle.keeper_core.proofs.failing.failure_at.Given as goal

abbrev pub invariant-loop-call : goal.invariant-loop-call
invariant-loop-call l = failure_at (drop l.call-index l.failing) l.number ≡ failure_at l.failing l.number
