use Rattle.std.proofs.Common.{◌≡◌}
use Rattle.std.specs.VecDeque.Iter.{deque_iter_rest}
use Rattle.fair_pool.specs.Kept.{allows_job, first_job}
use Rattle.fair_pool.proofs.pools.Pools.first_allowed.Given as goal

abbrev pub invariant-loop-rank : goal.invariant-loop-rank
invariant-loop-rank l = first_job (allows_job l.self l.now l.worker) (deque_iter_rest l.rank-iterator) ≡ first_job (allows_job l.self l.now l.worker) l.ranks.items
