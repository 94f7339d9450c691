use Rattle.std.proofs.Common.{◌≡◌, ◌≤◌, [], drop, vec_len, vec_capacity}
use Rattle.scope_pool.specs.Layout.{found_from}
use Rattle.scope_pool.proofs.scopes.find_within.Given as goal

abbrev pub invariant-loop-scope : goal.invariant-loop-scope
invariant-loop-scope l = record {
  found : found_from l.outer l.found.items (drop l.scope-index l.newer) ≡ found_from l.outer [] l.scopes;
  few : vec_len l.found ≤ l.scope-index;
  capacity : vec_capacity l.found ≡ vec_capacity l.initial.found;
}
