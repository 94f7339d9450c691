-- Which bytes a string token leaves as they are.
use Rattle.std.proofs.Common.{◌≡◌, ◌≢◌, ℕ, suc, ◌<◌, ◌≤◌, ◌⊎◌, List, [], ◌∷◌, ◌++◌, length, get_or, refl, arith, rules, inl, inr}
use Rattle.std.proofs.lemmas.Bool.Decides.{nat_tests}
use Rattle.std.proofs.lemmas.Str.{encode_ascii, inside_one}
use Rattle.std.specs.Char.{encode_utf8}
use Rattle.value_core.specs.Printed.{escape, escaped, hex_escape}

below_or : (a b : ℕ) → (a < b) ⊎ (b ≤ a)
below_or a b = grind arith

pub escape-plain : (b : ℕ) → 32 ≤ b → b ≢ 34 → b ≢ 92 → b ≢ 127 → escape b ≡ b ∷ []
escape-plain b low quote slash del = grind (arith, nat_tests)

pub escape-control : (b : ℕ) → b < 32 ⊎ (b ≡ 127) → b ≢ 10 → b ≢ 9 → b ≢ 13 → escape b ≡ hex_escape b
escape-control b (inl low) newline tab return = grind (arith, nat_tests)
escape-control b (inr del) newline tab return = grind (arith, nat_tests)

pub escaped-high : (bs : List ℕ) → ((k : ℕ) → k < length bs → 128 ≤ get_or bs k 0) → escaped bs ≡ bs
escaped-high [] high = refl
escaped-high (b ∷ bs) high =
    let first : 128 ≤ b = high 0 (omega arith) in
    let rest : escaped bs ≡ bs = escaped-high bs (λ k h. high (suc k) (omega arith)) in
    rw (escape-plain b (omega arith) (λ e. omega arith) (λ e. omega arith) (λ e. omega arith), rest)

pub escaped-encode_high : (c : ℕ) → 128 ≤ c → escaped (encode_utf8 c) ≡ encode_utf8 c
escaped-encode_high c high =
    let whole : encode_utf8 c ≡ encode_utf8 c ++ [] = search rules in
    escaped-high (encode_utf8 c) (λ k h.
    let inside : get_or (encode_utf8 c) k 0 < 128 → c ≡ get_or (encode_utf8 c) k 0 = inside_one c [] (encode_utf8 c) k whole h in
    grind arith)

-- a character that stands for itself
pub escaped_encode : (c : ℕ) → 32 ≤ c → c ≢ 34 → c ≢ 92 → c ≢ 127 → escaped (encode_utf8 c) ≡ encode_utf8 c
escaped_encode c low quote slash del = elim (below_or c 128) [
  | inl small ↦ rw (encode_ascii c small, escape-plain c low quote slash del)
  | inr high ↦ escaped-encode_high c high
]

-- a control code
pub escaped_control : (c : ℕ) → (c < 32) ⊎ (c ≡ 127) → c ≢ 10 → c ≢ 9 → c ≢ 13 → escaped (encode_utf8 c) ≡ hex_escape c
escaped_control c small newline tab return =
    let ascii : c < 128 = elim small [ inl h ↦ omega arith | inr h ↦ omega arith ] in
    rw (encode_ascii c ascii, escape-control c small newline tab return)
