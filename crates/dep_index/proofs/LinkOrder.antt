-- The orders of pairs are total and tell them apart.
use Rattle.std.proofs.Common.{◌≡◌, ℕ, true, ◌&&◌, ◌==◌, refl, ap, sym, ◌∙◌, subst, arith}
use Rattle.value_core.proofs.Basics.{and_parts, both_equal, bytes_tie, same_test}
use Rattle.value_core.specs.Orders.{bytes_cmp}
use Rattle.std.proofs.lemmas.Bool.Decides.{nat_tests}
use Rattle.std.proofs.lemmas.Cmp.{eq_by_cmp_equiv}
use Rattle.std.specs.Cmp.{Equal-is, IsTotalOrder, nat_cmp_total, on_total, then_total, tied_itself}
use Rattle.std.specs.FinMap.{IsAntisymmetric, nat_cmp-IsAntisymmetric}
use Rattle.std.specs.Ordering.{eq_by_cmp, nat_cmp, ordering_reverse, ordering_then}
use Rattle.std.specs.declared.cmp.Ordering.TheVariants.{Equal, Greater, Less}
use Rattle.value_core.proofs.Sames.{same_refl, same_true}
use Rattle.value_core.specs.Same.{same}
use Rattle.dep_index.specs.Pairs.{Link, key_of, kind_of, link_cmp, link_cmp_total, number_of, used_cmp, used_cmp_total, used_code, value_of}
use Rattle.dep_index.specs.inside.Layout.{order_of}
use Rattle.dep_index.specs.declared.pair.By.{By}
use Rattle.dep_index.specs.declared.pair.By.TheVariants as by_first
use Rattle.dep_index.specs.declared.used.Used.{Used}
use Rattle.dep_index.specs.declared.used.Used.TheVariants as used

-- sources with the same kind, number, key and value are one
same_parts : (u v : Used) → kind_of u ≡ kind_of v → number_of u ≡ number_of v → key_of u ≡ key_of v → value_of u ≡ value_of v → u ≡ v
same_parts (used.Input m) (used.Input n) k e f g = ap used.Input e
same_parts (used.Node m) (used.Node n) k e f g = ap used.Node e
same_parts (used.Key s) (used.Key t) k e f g = ap used.Key (let path : s ≡ t = λ i. record { op = e i; key = f i; value = g i } in path)
same_parts (used.Input m) (used.Node n) k e f g = absurd (omega (arith, k))
same_parts (used.Input m) (used.Key t) k e f g = absurd (omega (arith, k))
same_parts (used.Node m) (used.Input n) k e f g = absurd (omega (arith, k))
same_parts (used.Node m) (used.Key t) k e f g = absurd (omega (arith, k))
same_parts (used.Key s) (used.Input n) k e f g = absurd (omega (arith, k))
same_parts (used.Key s) (used.Node n) k e f g = absurd (omega (arith, k))

pub used_apart : IsAntisymmetric used_cmp
used_apart u v e =
    let kinds = both_equal (nat_cmp (kind_of u) (kind_of v)) (ordering_then (nat_cmp (number_of u) (number_of v)) (ordering_then (bytes_cmp (key_of u) (key_of v)) (bytes_cmp (value_of u) (value_of v)))) e in
    let numbers = both_equal (nat_cmp (number_of u) (number_of v)) (ordering_then (bytes_cmp (key_of u) (key_of v)) (bytes_cmp (value_of u) (value_of v))) kinds.1 in
    let texts = both_equal (bytes_cmp (key_of u) (key_of v)) (bytes_cmp (value_of u) (value_of v)) numbers.1 in
    same_parts u v (nat_cmp-IsAntisymmetric _ _ kinds.0) (nat_cmp-IsAntisymmetric _ _ numbers.0) (bytes_tie _ _ texts.0) (bytes_tie _ _ texts.1)

pub link_apart : IsAntisymmetric link_cmp
link_apart l m e =
    let parts = both_equal (used_cmp l.source m.source) (nat_cmp l.to m.to) e in
    let source = used_apart l.source m.source parts.0 in
    let to = nat_cmp-IsAntisymmetric l.to m.to parts.1 in
    λ i. record { source = source i; to = to i }

-- what the order doesn't tell apart is one
pub tied : (l m : Link) → eq_by_cmp link_cmp l m ≡ true → l ≡ m
tied l m e = link_apart l m ((Equal-is (link_cmp l m)).0 e)

pub itself : (l : Link) → eq_by_cmp link_cmp l l ≡ true
itself l = (eq_by_cmp_equiv link_cmp_total).refl l

pub same_number : (n : ℕ) → (n == n) ≡ true
same_number n = grind (arith, nat_tests)

-- the order ties just what the tests of a pair's parts do
pub parts_tell : (source : Used) (to : ℕ) (l : Link) → eq_by_cmp link_cmp (record { source = source; to = to }) l ≡ (same used_code l.source source && l.to == to)
parts_tell source to l =
    same_test (eq_by_cmp link_cmp (record { source = source; to = to }) l) (same used_code l.source source && l.to == to)
    (λ e. let is = tied (record { source = source; to = to }) l e in
    subst (λ (m : Link). (same used_code m.source source && m.to == to) ≡ true) is (rw (same_refl used_code source, same_number to) refl))
    (λ e. let h = and_parts (same used_code l.source source) (l.to == to) e in
    let one : l.source ≡ source = same_true used_code l.source source h.0 in
    let other : l.to ≡ to = grind (arith, nat_tests, h.1) in
    let is : l ≡ record { source = source; to = to } = λ i. record { source = one i; to = other i } in
    subst (λ (m : Link). eq_by_cmp link_cmp (record { source = source; to = to }) m ≡ true) (sym is) (itself (record { source = source; to = to })))

-- ---- the order of an index

pub order_total : (by : By) → IsTotalOrder (order_of by)
order_total by_first.Source = link_cmp_total
order_total by_first.User = then_total (on_total (λ l. l.to) nat_cmp_total) (on_total (λ l. l.source) used_cmp_total)

pub order_apart : (by : By) → IsAntisymmetric (order_of by)
order_apart by_first.Source l m e = link_apart l m e
order_apart by_first.User l m e =
    let parts = both_equal (nat_cmp l.to m.to) (used_cmp l.source m.source) e in
    let to = nat_cmp-IsAntisymmetric l.to m.to parts.0 in
    let source = used_apart l.source m.source parts.1 in
    λ i. record { source = source i; to = to i }

pub less_equal : Less ≡ Equal → ⊥
less_equal e = let z : ⊥ = cc in z

pub not_below_itself : (by : By) (l : Link) → order_of by l l ≡ Less → ⊥
not_below_itself by l h = less_equal (sym h ∙ tied_itself (order_total by) l)

pub less_greater : Less ≡ Greater → ⊥
less_greater e = let z : ⊥ = cc in z

-- of two pairs just one is below the other
pub one_way : (by : By) (l m : Link) → order_of by l m ≡ Less → order_of by m l ≡ Less → ⊥
one_way by l m h k = less_greater (sym k ∙ (order_total by).antisymm m l ∙ ap ordering_reverse h)

pub turned : (by : By) (l m : Link) → order_of by l m ≡ Greater → order_of by m l ≡ Less
turned by l m h = (order_total by).antisymm m l ∙ ap ordering_reverse h

pub not_below_greater : (by : By) (l m : Link) → order_of by l m ≡ Greater → order_of by l m ≡ Less → ⊥
not_below_greater by l m h k = less_greater (sym k ∙ h)
