use Rattle.std.proofs.Common.{◌≡◌, ◌+◌}
use Rattle.std.specs.VecDeque.Iter.{deque_iter_rest}
use Rattle.fair_pool.specs.Kept.{allows_job, first_job, looked_for}
use Rattle.fair_pool.proofs.pools.Pools.first_counted.Given as goal

abbrev pub invariant-loop-rank : goal.invariant-loop-rank
invariant-loop-rank g l = record {
  answer : first_job (allows_job l.self l.now l.worker) (deque_iter_rest l.rank-iterator) ≡ first_job (allows_job l.self l.now l.worker) l.ranks.items;
  steps : l.steps + looked_for (allows_job l.self l.now l.worker) (deque_iter_rest l.rank-iterator) ≡ l.initial.steps + looked_for (allows_job l.self l.now l.worker) l.ranks.items;
}
