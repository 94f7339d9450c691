use Rattle.std.proofs.Common.{◌≡◌, ℕ, ◌<◌, ◌≤◌, length, slice_index_or}
use Rattle.fair_pool.specs.Kept.{QueueState}
use Rattle.fair_pool.proofs.waiting.copy_of_queues.Given as goal

abbrev pub invariant-loop-queue : goal.invariant-loop-queue
invariant-loop-queue l = record {
  len : length l.copies.items ≡ l.queue-index;
  ranks : (i : ℕ) (d : QueueState) → i < length l.copies.items → (slice_index_or l.copies.items i d).ranks ≡ (slice_index_or l.queues i d).ranks;
  room : (i : ℕ) (d : QueueState) → i < length l.copies.items → l.count ≤ (slice_index_or l.copies.items i d).room;
}
