use Rattle.std.proofs.Common.{◌≡◌, ◌+◌, ℕ, map, slice_index_or, None, vec_len, vec_capacity}
use Rattle.scope_pool.specs.Layout.{held_in, ChainSame, IsLaidOut}
use Rattle.scope_pool.proofs.slots.add_vacant.Given as goal

abbrev pub invariant-loop : goal.invariant-loop
invariant-loop g l = record {
  laid_out : IsLaidOut l.slots.items l.vacant.items;
  len : vec_len l.slots ≡ vec_len l.initial.slots + l.counter;
  vacant : vec_len l.vacant ≡ vec_len l.initial.vacant + l.counter;
  capacity : vec_capacity l.slots ≡ vec_capacity l.initial.slots;
  capacity_to_vacate : vec_capacity l.vacant ≡ vec_capacity l.initial.vacant;
  places : (place : ℕ) → slice_index_or (map held_in l.slots.items) place None ≡ slice_index_or (map held_in l.initial.slots.items) place None;
  chains : ChainSame l.initial.slots.items l.slots.items;
}
