use Rattle.std.proofs.Common.{◌≡◌, ◌≤◌, ℕ, None, drop, vec_len, vec_capacity}
use Rattle.scope_pool.specs.Layout.{among, held_at, left_by, link_at, AreChained, IsChained, IsLaidOut, KeepsScopes}
use Rattle.scope_pool.proofs.slots.vacate_all.Given as goal

abbrev pub invariant-loop-name : goal.invariant-loop-name
invariant-loop-name g l = record {
  laid_out : IsLaidOut l.slots.items l.vacant.items;
  chained : AreChained l.slots.items l.scopes.items;
  unused : (t : ℕ) → IsChained (link_at l.initial.slots.items) t None → IsChained (link_at l.slots.items) t None;
  left : (q : ℕ) → left_by (among (drop l.name-index l.closing)) (held_at l.slots.items q) ≡ left_by (among l.closing) (held_at l.initial.slots.items q);
  scopes : KeepsScopes l.initial.scopes.items l.scopes.items;
  scopes_capacity : vec_capacity l.scopes ≡ vec_capacity l.initial.scopes;
  len : vec_len l.slots ≡ vec_len l.initial.slots;
  vacant : vec_len l.initial.vacant ≤ vec_len l.vacant;
  capacity : vec_capacity l.vacant ≡ vec_capacity l.initial.vacant;
}
