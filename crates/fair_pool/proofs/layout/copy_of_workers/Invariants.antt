use Rattle.std.proofs.Common.{◌≡◌, take}
use Rattle.fair_pool.proofs.layout.copy_of_workers.Given as goal

abbrev pub invariant-loop-worker : goal.invariant-loop-worker
invariant-loop-worker l = l.copies.items ≡ take l.worker-index l.workers
