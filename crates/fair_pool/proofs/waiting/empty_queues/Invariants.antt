use Rattle.std.proofs.Common.{◌≡◌, ℕ, ◌<◌, [], length, slice_index_or}
use Rattle.fair_pool.specs.Kept.{QueueState}
use Rattle.fair_pool.proofs.waiting.empty_queues.Given as goal

abbrev pub invariant-loop-n : goal.invariant-loop-n
invariant-loop-n l = record {
  len : length l.queues.items ≡ l._n;
  ranks : (i : ℕ) (d : QueueState) → i < length l.queues.items → (slice_index_or l.queues.items i d).ranks ≡ [];
}
