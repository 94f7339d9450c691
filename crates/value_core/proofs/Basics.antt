-- Elementary laws of tests, numbers, texts and triples. Each crate above takes them from here.
use Rattle.std.proofs.Common.{◌≡◌, ◌⊎◌, inl, inr, ℕ, Bool, true, false, cond, ◌&&◌, ◌||◌, List, [], ◌∷◌, map, refl, sym, ap}
use Rattle.std.specs.Prelude.{Some, Result, Ok, ◌==◌}
use Rattle.std.proofs.lemmas.Bool.{and_from, and_parts, eq-eqb, eqb-true}
use Rattle.std.proofs.lemmas.Slice.Eq.{bytes_eq-Decides}
use Rattle.std.specs.List.{list_any}
use Rattle.std.specs.FinMap.{IsAntisymmetric, nat_cmp-IsAntisymmetric, slice_cmp-IsAntisymmetric}
use Rattle.std.specs.Ordering.{ordering_then}
use Rattle.std.specs.Str.{bytes_eq}
use Rattle.std.specs.declared.cmp.Ordering.{Ordering}
use Rattle.std.specs.declared.cmp.Ordering.TheVariants.{Less, Equal, Greater}
use Rattle.value_core.specs.declared.state.Triple.{Triple}
use Rattle.value_core.specs.Orders.{bytes_cmp, same_triple, triple_cmp}
-- ---- tests

-- and_parts: (a && b) ≡ true → (a ≡ true) × (b ≡ true); and_both is its way back; or_parts: (a || b) ≡ false → (a ≡ false) × (b ≡ false)
pub use Rattle.std.proofs.lemmas.Bool.{and_parts, and_from as and_both, or_left, or_right, or_parts}
-- bool_cases: (b ≡ true) ⊎ (b ≡ false); not_true: (b ≡ true → ⊥) → b ≡ false; not_false: (b ≡ false → ⊥) → b ≡ true
pub use Rattle.std.proofs.lemmas.Bool.{cases_Bool as bool_cases, false_from_ne_true as not_true, true_from_ne_false as not_false}
-- a test of numbers, and what it says: nat_is: (m == n) ≡ true → m ≡ n; nat_lt_not: nat_lt m n ≡ false → n ≤ m; the others likewise
pub use Rattle.std.proofs.lemmas.Bool.{eqb-true as nat_is, eqb-false as nat_is_not, ltb-true as nat_lt_is, ltb-false as nat_lt_not, leb-true as nat_le_is, leb-false as nat_le_not}
-- and back: is_nat: m ≡ n → (m == n) ≡ true; is_nat_lt: m < n → nat_lt m n ≡ true; not_nat_lt: n ≤ m → nat_lt m n ≡ false; is_nat_le: m ≤ n → nat_le m n ≡ true
pub use Rattle.std.proofs.lemmas.Bool.{eq-eqb as is_nat, lt-ltb as is_nat_lt, le-ltb as not_nat_lt, le-leb as is_nat_le}

-- which test of an `if` held
pub cond_is : {A : Type 0} (b : Bool) (x y z : A) → cond b x y ≡ z → ((b ≡ true) × (x ≡ z)) ⊎ ((b ≡ false) × (y ≡ z))
cond_is true x y z e = inl (refl, e)
cond_is false x y z e = inr (refl, e)

-- tests that hold together are one
pub same_test : (a b : Bool) → (a ≡ true → b ≡ true) → (b ≡ true → a ≡ true) → a ≡ b
same_test true b f g = sym (f refl)
same_test false true f g = g refl
same_test false false f g = refl

pub some_is : {A : Type 0} (x y : A) → Some x ≡ Some y → x ≡ y
some_is x y e = cc

pub ok_is : {A E : Type 0} (r : Result A E) (x y : A) → r ≡ Ok x → r ≡ Ok y → x ≡ y
ok_is r x y e f = cc

-- a test of any of several tests' answers
pub any_mapped : {X : Type 0} (f : X → Bool) (xs : List X) → list_any (λ b. b) (map f xs) ≡ list_any f xs
any_mapped f [] = refl
any_mapped f (x ∷ xs) = ap (λ b. f x || b) (any_mapped f xs)

-- ---- texts

pub bytes_same : (xs ys : List ℕ) → bytes_eq xs ys ≡ true → xs ≡ ys
bytes_same xs ys = (bytes_eq-Decides xs ys).0

pub same_bytes : (xs ys : List ℕ) → xs ≡ ys → bytes_eq xs ys ≡ true
same_bytes xs ys = (bytes_eq-Decides xs ys).1

-- ---- orders

pub both_equal : (a b : Ordering) → ordering_then a b ≡ Equal → (a ≡ Equal) × (b ≡ Equal)
both_equal Less b e = cc
both_equal Equal b e = (refl, e)
both_equal Greater b e = cc

-- texts that tie are equal
pub bytes_tie : IsAntisymmetric bytes_cmp
bytes_tie = slice_cmp-IsAntisymmetric nat_cmp-IsAntisymmetric

-- ---- triples

pub triples_tie : IsAntisymmetric triple_cmp
triples_tie t u e =
    let h = both_equal _ _ e in
    let k = both_equal _ _ h.1 in
    let p = nat_cmp-IsAntisymmetric t.op u.op h.0 in
    let q = bytes_tie t.key u.key k.0 in
    let r = bytes_tie t.value u.value k.1 in
    λ i. record { op = p i; key = q i; value = r i }

pub triple_same : (a b : Triple) → same_triple a b ≡ true → a ≡ b
triple_same a b e =
    let h = and_parts (a.op == b.op && bytes_eq a.key b.key) (bytes_eq a.value b.value) e in
    let k = and_parts (a.op == b.op) (bytes_eq a.key b.key) h.0 in
    let p = eqb-true a.op b.op k.0 in
    let q = bytes_same a.key b.key k.1 in
    let r = bytes_same a.value b.value h.1 in
    λ i. record { op = p i; key = q i; value = r i }

pub same_triples : (a b : Triple) → a ≡ b → same_triple a b ≡ true
same_triples a b e = and_from (a.op == b.op && bytes_eq a.key b.key) (bytes_eq a.value b.value)
    (and_from (a.op == b.op) (bytes_eq a.key b.key) (eq-eqb a.op b.op (ap (λ t. t.op) e)) (same_bytes a.key b.key (ap (λ t. t.key) e))) (same_bytes a.value b.value (ap (λ t. t.value) e))
