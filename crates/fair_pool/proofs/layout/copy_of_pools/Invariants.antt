use Rattle.std.proofs.Common.{◌≡◌, take}
use Rattle.fair_pool.proofs.layout.copy_of_pools.Given as goal

abbrev pub invariant-loop-pool : goal.invariant-loop-pool
invariant-loop-pool l = l.copies.items ≡ take l.pool-index l.pools
