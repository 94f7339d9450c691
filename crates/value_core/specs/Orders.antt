-- Texts and triples: whether two are equal, and in which order they stand.
use Rattle.std.specs.Prelude.{ℕ, ◌==◌, ◌&&◌, Bool, List}
use Rattle.std.specs.declared.cmp.Ordering.{Ordering}
use Rattle.std.specs.Cmp.{IsTotalOrder, nat_cmp_total, on_total, then_total}
use Rattle.std.specs.Cmp.Lexicographic.{slice_cmp, nat_list_cmp_total}
use Rattle.std.specs.Ordering.{nat_cmp, ordering_then}
use Rattle.std.specs.Str.{bytes_eq}
use Rattle.value_core.specs.declared.state.Triple.{Triple}

-- two texts by their bytes
abbrev pub bytes_cmp : List ℕ → List ℕ → Ordering
bytes_cmp = slice_cmp nat_cmp

-- the same operation, key and value
abbrev pub same_triple : Triple → Triple → Bool
same_triple a b = a.op == b.op && bytes_eq a.key b.key && bytes_eq a.value b.value

-- by operation, then by the key's bytes, then by the value's
abbrev pub triple_cmp : Triple → Triple → Ordering
triple_cmp a b = ordering_then (nat_cmp a.op b.op) (ordering_then (bytes_cmp a.key b.key) (bytes_cmp a.value b.value))

-- which is a total order
pub triple_cmp_total : IsTotalOrder triple_cmp
triple_cmp_total = then_total (on_total (λ t. t.op) nat_cmp_total) (then_total (on_total (λ t. t.key) nat_list_cmp_total) (on_total (λ t. t.value) nat_list_cmp_total))
