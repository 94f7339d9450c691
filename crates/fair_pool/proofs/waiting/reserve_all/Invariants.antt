use Rattle.std.proofs.Common.{◌≡◌, ℕ, ◌<◌, ◌≤◌, length, slice_index_or}
use Rattle.fair_pool.specs.Kept.{QueueState}
use Rattle.fair_pool.proofs.waiting.reserve_all.Given as goal

abbrev pub invariant-loop-i : goal.invariant-loop-i
invariant-loop-i l = record {
  len : length l.queues.items ≡ length l.initial.queues.items;
  ranks : (i : ℕ) (d : QueueState) → i < length l.initial.queues.items → (slice_index_or l.queues.items i d).ranks ≡ (slice_index_or l.initial.queues.items i d).ranks;
  room : (i : ℕ) (d : QueueState) → i < length l.initial.queues.items → (slice_index_or l.initial.queues.items i d).room ≤ (slice_index_or l.queues.items i d).room;
  enough : (i : ℕ) (d : QueueState) → i < l.i → l.count ≤ (slice_index_or l.queues.items i d).room;
}
