-- The first unused item that is equal, among all and among those that are left.
use Rattle.std.proofs.Common.{◌≡◌, ℕ, suc, ◌<◌, ◌≤◌, Bool, true, false, List, [], ◌∷◌, zip, length, set, slice_get, Some, None, cond, refl, ap, arith}
use Rattle.std.proofs.Common.{nat_lt}
use Rattle.std.proofs.lemmas.Bool.Decides.{nat_tests}
use Rattle.value_core.specs.Codes.{value_code}
use Rattle.value_core.specs.Same.{same}
use Rattle.value_core.specs.declared.value.Value.{Value}
use Rattle.visit_rules.specs.declared.visit.Visit.{Visit}
use Rattle.visit_rules.specs.Again.{first_for, unused, unused_place, without_first}

below : (p n : ℕ) → nat_lt p n ≡ true → p < n
below p n e = grind (arith, nat_tests)

above : (p n : ℕ) → nat_lt p n ≡ false → n ≤ p
above p n e = grind (arith, nat_tests)

pub record Matched (v : Value) (used : List Bool) (xs : List Value) (bs : List Visit) : Type 0 where
  pub found : unused_place v used xs < length used → (first_for v (unused used (zip xs bs)) ≡ slice_get bs (unused_place v used xs))
      × (without_first v (unused used (zip xs bs)) ≡ unused (set used (unused_place v used xs) true) (zip xs bs))
  pub missing : length used ≤ unused_place v used xs → (first_for v (unused used (zip xs bs)) ≡ None)
      × (without_first v (unused used (zip xs bs)) ≡ unused used (zip xs bs))

pub matched : (v : Value) (used : List Bool) (xs : List Value) (bs : List Visit) → length used ≤ length xs → length used ≤ length bs → Matched v used xs bs
matched v [] xs bs h k = record { found = λ l. absurd (omega arith); missing = λ l. (refl, refl) }
matched v (u ∷ us) [] bs h k = absurd (omega arith)
matched v (u ∷ us) (x ∷ xs) [] h k = absurd (omega arith)
matched v (true ∷ us) (x ∷ xs) (b ∷ bs) h k =
    let m : Matched v us xs bs = matched v us xs bs (omega arith) (omega arith) in
    record { found = λ l. m.found (omega arith); missing = λ l. m.missing (omega arith) }
matched v (false ∷ us) (x ∷ xs) (b ∷ bs) h k =
    let m : Matched v us xs bs = matched v us xs bs (omega arith) (omega arith) in
    let p : ℕ = unused_place v us xs in
    let left : List (Value × Visit) = unused us (zip xs bs) in
    record {
      found = elim (same value_code v x) as (λ s. cond s 0 (suc p) < suc (length us) →
          (cond s (Some b) (first_for v left) ≡ slice_get (b ∷ bs) (cond s 0 (suc p)))
          × (cond s left ((x, b) ∷ without_first v left) ≡ unused (set (false ∷ us) (cond s 0 (suc p)) true) ((x, b) ∷ zip xs bs)))
          [ true ↦ λ l. (refl, refl) | false ↦ λ l. let r = m.found (omega arith) in (r.0, ap (λ (w : List (Value × Visit)). (x, b) ∷ w) r.1) ];
      missing = elim (same value_code v x) as (λ s. suc (length us) ≤ cond s 0 (suc p) →
          (cond s (Some b) (first_for v left) ≡ None)
          × (cond s left ((x, b) ∷ without_first v left) ≡ (x, b) ∷ left))
          [ true ↦ λ l. absurd (omega arith) | false ↦ λ l. let r = m.missing (omega arith) in (r.0, ap (λ (w : List (Value × Visit)). (x, b) ∷ w) r.1) ];
    }

-- what is taken, by a test on the place
pub taken : (v : Value) (used : List Bool) (xs : List Value) (bs : List Visit) → length used ≤ length xs → length used ≤ length bs →
    (first_for v (unused used (zip xs bs)) ≡ cond (nat_lt (unused_place v used xs) (length used)) (slice_get bs (unused_place v used xs)) None)
    × (without_first v (unused used (zip xs bs)) ≡ unused (cond (nat_lt (unused_place v used xs) (length used)) (set used (unused_place v used xs) true) used) (zip xs bs))
taken v used xs bs h k =
    let m : Matched v used xs bs = matched v used xs bs h k in
    let p : ℕ = unused_place v used xs in
    let n : ℕ = length used in
    let cases : (b : Bool) → nat_lt p n ≡ b →
    (first_for v (unused used (zip xs bs)) ≡ cond b (slice_get bs p) None)
    × (without_first v (unused used (zip xs bs)) ≡ unused (cond b (set used p true) used) (zip xs bs)) =
    λ b. elim b as (λ b. nat_lt p n ≡ b →
    (first_for v (unused used (zip xs bs)) ≡ cond b (slice_get bs p) None)
    × (without_first v (unused used (zip xs bs)) ≡ unused (cond b (set used p true) used) (zip xs bs)))
    [ true ↦ λ e. m.found (below p n e) | false ↦ λ e. m.missing (above p n e) ]
    in cases (nat_lt p n) refl
