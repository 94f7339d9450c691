use Rattle.std.proofs.Common.{◌≡◌, ◌==◌, ◌≤◌, ◌-◌, ℕ, vec_len, vec_capacity}
use Rattle.scope_pool.specs.Layout.{held_at, left_by, link_at, IsChained, IsLaidOut, KeepsOthers}
use Rattle.scope_pool.proofs.slots.vacate.Given as goal

abbrev pub invariant-loop-scope : goal.invariant-loop-scope
invariant-loop-scope g l = record {
  laid_out : IsLaidOut l.slots.items l.vacant.items;
  chained : IsChained (link_at l.slots.items) l.initial.scope.name l.scope.last;
  others : KeepsOthers l.initial.scope.name l.initial.slots.items l.slots.items;
  left : (q : ℕ) → left_by (λ n. n == l.initial.scope.name) (held_at l.slots.items q) ≡ left_by (λ n. n == l.initial.scope.name) (held_at l.initial.slots.items q);
  name : l.scope.name ≡ l.initial.scope.name;
  parent : l.scope.parent ≡ l.initial.scope.parent;
  len : vec_len l.slots ≡ vec_len l.initial.slots;
  vacant : vec_len l.initial.vacant ≤ vec_len l.vacant;
  capacity : vec_capacity l.vacant ≡ vec_capacity l.initial.vacant;
}

abbrev pub decreases-loop-scope : goal.decreases-loop-scope
decreases-loop-scope g l = vec_len l.slots - vec_len l.vacant
