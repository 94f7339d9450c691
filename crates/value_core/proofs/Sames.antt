-- The codes of two values are equal exactly where the values are.
use Rattle.std.specs.Prelude.{◌≡◌, Bool, true, false, IsTrue, ◌↔◌, refl}
use Rattle.std.specs.Coded.{Coded}
use Rattle.std.proofs.Common.{ap, sym, subst, arith}
use Rattle.std.proofs.lemmas.Bool.Decides.{nat_tests}
use base.Stored.{Gv, gnil, gnum, gcons}
use Rattle.value_core.specs.Same.{same_code, same}
use Rattle.value_core.proofs.Basics.{and_parts}

same_code-true : (x y : Gv) → same_code x y ≡ true → x ≡ y
same_code-true gnil gnil h = refl
same_code-true (gnum m) (gnum n) h = let e : m ≡ n = grind (arith, nat_tests) in ap gnum e
same_code-true (gcons a b) (gcons c d) h =
    let s = and_parts (same_code a c) (same_code b d) h in
    let e = same_code-true a c s.0 in
    let f = same_code-true b d s.1 in
    cc
same_code-true gnil (gnum n) h = cc
same_code-true gnil (gcons c d) h = cc
same_code-true (gnum m) gnil h = cc
same_code-true (gnum m) (gcons c d) h = cc
same_code-true (gcons a b) gnil h = cc
same_code-true (gcons a b) (gnum n) h = cc

same_code-refl : (x : Gv) → same_code x x ≡ true
same_code-refl gnil = refl
same_code-refl (gnum n) = grind (arith, nat_tests)
same_code-refl (gcons a b) = rw (same_code-refl a, same_code-refl b) refl

pub same_true : {A : Type 0} (c : Coded A) (x y : A) → same c x y ≡ true → x ≡ y
same_true c x y h = c.inj x y (same_code-true (c.code x) (c.code y) h)

pub same_refl : {A : Type 0} (c : Coded A) (x : A) → same c x x ≡ true
same_refl c x = same_code-refl (c.code x)

pub same_is : {A : Type 0} (c : Coded A) (x y : A) (b : Bool) → (IsTrue b ↔ (x ≡ y)) → b ≡ same c x y
same_is c x y true h = sym (subst (λ z. same c x z ≡ true) (h.0 refl) (same_refl c x))
same_is c x y false h =
    let cases : (b : Bool) → same c x y ≡ b → false ≡ b =
    λ b. elim b as (λ b. same c x y ≡ b → false ≡ b) [ true ↦ λ e. h.1 (same_true c x y e) | false ↦ λ e. refl ]
    in cases (same c x y) refl
