-- What a template is filled to after its first character.
use Rattle.std.proofs.Common.{◌≡◌, ◌≢◌, ℕ, zero, suc, not, ◌<◌, ◌≤◌, ◌==◌, true, false, List, [], ◌∷◌, ◌++◌, length, get_or, drop, codes, refl, ap, ◌∙◌, arith, rules, inl, inr}
use Rattle.std.proofs.lemmas.Bool.{cases_lt}
use Rattle.std.proofs.lemmas.Bool.Decides.{nat_tests}
use Rattle.std.proofs.lemmas.Str.{encode_ascii, inside_one}
use Rattle.std.specs.Char.{encode_utf8}
use Rattle.value_core.specs.Texts.{no_nul, HasNoNul}
use Rattle.value_core.proofs.Basics.{and_parts, bool_cases}
use Rattle.value_core.proofs.Nuls.{no_nul_both}
use Rattle.op_keys.specs.Filling.{begins, filled, filled_after}

begins-true : (p bs : List ℕ) → begins p bs ≡ true → bs ≡ p ++ drop (length p) bs
begins-true [] bs h = refl
begins-true (p ∷ ps) [] h = cc
begins-true (p ∷ ps) (b ∷ bs) h =
    let s = and_parts (p == b) (begins ps bs) h in
    let e : p ≡ b = grind (arith, nat_tests) in
    let r = begins-true ps bs s.1 in
    cc

lacks : (p t bs : List ℕ) → t ≡ bs → ((r : List ℕ) → drop 0 t ≢ p ++ r) → begins p bs ≡ false
lacks p t bs is h = elim (bool_cases (begins p bs)) [
  | inl b ↦ absurd (h (drop (length p) bs) (is ∙ begins-true p bs b))
  | inr f ↦ f
]

first : (key value : List ℕ) (b : ℕ) (bs : List ℕ) → begins (codes "{key}") (b ∷ bs) ≡ false → begins (codes "{value}") (b ∷ bs) ≡ false → filled key value (b ∷ bs) ≡ b ∷ filled key value bs
first key value b bs k v = rw (k, v)

other : (b : ℕ) (p bs : List ℕ) → 128 ≤ b → begins (123 ∷ p) (b ∷ bs) ≡ false
other b p bs high = let e : (123 == b) ≡ false = grind (arith, nat_tests) in rw e

after_high : (key value bs rest : List ℕ) → ((k : ℕ) → k < length bs → 128 ≤ get_or bs k 0) → filled key value (bs ++ rest) ≡ bs ++ filled key value rest
after_high key value [] rest high = refl
after_high key value (b ∷ bs) rest high =
    let b_high : 128 ≤ b = high 0 (omega arith) in
    let more : filled key value (bs ++ rest) ≡ bs ++ filled key value rest = after_high key value bs rest (λ k h. high (suc k) (omega arith)) in
    first key value b (bs ++ rest) (other b (codes "key}") (bs ++ rest) b_high) (other b (codes "value}") (bs ++ rest) b_high) ∙ ap (λ r. b ∷ r) more

encoded_high : (c : ℕ) → 128 ≤ c → (k : ℕ) → k < length (encode_utf8 c) → 128 ≤ get_or (encode_utf8 c) k 0
encoded_high c high k h =
    let whole : encode_utf8 c ≡ encode_utf8 c ++ [] = search rules in
    let inside : get_or (encode_utf8 c) k 0 < 128 → c ≡ get_or (encode_utf8 c) k 0 = inside_one c [] (encode_utf8 c) k whole h in
    grind arith

-- a character that begins neither name stays as it is
pub filled-char : (key value template : List ℕ) (c : ℕ) (rest : List ℕ) → template ≡ encode_utf8 c ++ rest → ((r : List ℕ) → drop 0 template ≢ codes "{key}" ++ r) → ((r : List ℕ) → drop 0 template ≢ codes "{value}" ++ r) → filled key value template ≡ encode_utf8 c ++ filled key value rest
filled-char key value template c rest is no_key no_value = elim (cases_lt c 128) [
  | inl small ↦
      let one : template ≡ c ∷ rest = is ∙ ap (λ e. e ++ rest) (encode_ascii c small) in
      let k = lacks (codes "{key}") template (c ∷ rest) one no_key in
      let v = lacks (codes "{value}") template (c ∷ rest) one no_value in
      rw (one, encode_ascii c small) (first key value c rest k v)
  | inr high ↦ rw is (after_high key value (encode_utf8 c) rest (encoded_high c high))
]

after-no_nul : (key value : List ℕ) → HasNoNul key → HasNoNul value → (n : ℕ) (t : List ℕ) → HasNoNul t → HasNoNul (filled_after key value n t)
after-no_nul key value k v n [] h = refl
after-no_nul key value k v (suc n) (b ∷ bs) h = after-no_nul key value k v n bs (and_parts (not (b == 0)) (no_nul bs) h).1
after-no_nul key value k v zero (b ∷ bs) h =
    let s = and_parts (not (b == 0)) (no_nul bs) h in
    elim (bool_cases (begins (codes "{key}") (b ∷ bs))) [
      | inl t ↦ rw t (no_nul_both key _ k (after-no_nul key value k v 4 bs s.1))
      | inr f ↦ elim (bool_cases (begins (codes "{value}") (b ∷ bs))) [
        | inl t ↦ rw (f, t) (no_nul_both value _ v (after-no_nul key value k v 6 bs s.1))
        | inr g ↦ rw (f, g, s.0) (after-no_nul key value k v zero bs s.1)
      ]
    ]

-- what is filled without NUL has none
pub filled-no_nul : (key value template : List ℕ) → HasNoNul key → HasNoNul value → HasNoNul template → HasNoNul (filled key value template)
filled-no_nul key value template k v h = after-no_nul key value k v 0 template h
