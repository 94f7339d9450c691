-- What has no zero byte: lists put together, parts of one, and printed forms.
use Rattle.std.proofs.Common.{◌≡◌, ℕ, zero, suc, ◌+◌, ◌<◌, ◌^◌, ◌/◌, ◌%◌, Bool, true, false, cond, List, [], ◌∷◌, ◌++◌, take, drop, refl, arith}
use Rattle.std.specs.Prelude.{◌||◌, ◌==◌, not, nat_lt, if◌then◌else◌, codes}
use Rattle.std.specs.Fmt.{decimal, digit_glyph}
use Rattle.std.proofs.lemmas.Fmt.{decimal_by_steps}
use Rattle.std.proofs.lemmas.Bool.Decides.{nat_tests}
use Rattle.value_core.specs.Texts.{no_nul, HasNoNul}
use Rattle.value_core.specs.Printed.{escape, escaped, hex_escape, quoted}
use Rattle.value_core.proofs.Basics.{and_parts}

pub no_nul_both : (xs ys : List ℕ) → HasNoNul xs → HasNoNul ys → HasNoNul (xs ++ ys)
no_nul_both [] ys e f = f
no_nul_both (x ∷ xs) ys e f = let p = and_parts (not (x == 0)) (no_nul xs) e in rw (p.0, no_nul_both xs ys p.1 f) refl

pub no_nul_take : (n : ℕ) (bs : List ℕ) → HasNoNul bs → HasNoNul (take n bs)
no_nul_take zero bs e = refl
no_nul_take (suc n) [] e = refl
no_nul_take (suc n) (b ∷ bs) e = let p = and_parts (not (b == 0)) (no_nul bs) e in rw (p.0, no_nul_take n bs p.1) refl

pub no_nul_drop : (n : ℕ) (bs : List ℕ) → HasNoNul bs → HasNoNul (drop n bs)
no_nul_drop zero bs e = e
no_nul_drop (suc n) [] e = refl
no_nul_drop (suc n) (b ∷ bs) e = no_nul_drop n bs (and_parts (not (b == 0)) (no_nul bs) e).1

-- what is written after a text without NUL
pub no_nul_grown : (before added now : List ℕ) → now ≡ before ++ added → HasNoNul added → HasNoNul before → HasNoNul now
no_nul_grown before added now is clean e = rw is (no_nul_both before added e clean)

if_clean : (t : Bool) (xs ys : List ℕ) → HasNoNul xs → (t ≡ false → HasNoNul ys) → HasNoNul (cond t xs ys)
if_clean true xs ys x y = x
if_clean false xs ys x y = y refl

glyph_clean : (d : ℕ) → (digit_glyph false d == 0) ≡ false
glyph_clean d = grind (arith, nat_tests)

hex_clean : (b : ℕ) → HasNoNul (hex_escape b)
hex_clean b = rw (glyph_clean (b / 16), glyph_clean (b % 16)) refl

escape_clean : (b : ℕ) → (b == 0) ≡ false → HasNoNul (escape b)
escape_clean b e =
    let high : List ℕ = if nat_lt b 32 || b == 127 then hex_escape b else (b ∷ []) in
    let return : List ℕ = if b == 13 then codes "\\r" else high in
    let tab : List ℕ = if b == 9 then codes "\\t" else return in
    let newline : List ℕ = if b == 10 then codes "\\n" else tab in
    let slash : List ℕ = if b == 92 then codes "\\\\" else newline in
    if_clean (b == 34) (codes "\\\"") slash refl (λ n. if_clean (b == 92) (codes "\\\\") newline refl (λ n. if_clean (b == 10) (codes "\\n") tab refl
    (λ n. if_clean (b == 9) (codes "\\t") return refl (λ n. if_clean (b == 13) (codes "\\r") high refl
    (λ n. if_clean (nat_lt b 32 || b == 127) (hex_escape b) (b ∷ []) (hex_clean b) (λ n. rw e refl))))))

not_nul : (b : ℕ) → not (b == 0) ≡ true → (b == 0) ≡ false
not_nul b e = grind (arith, nat_tests)

pub escaped_clean : (bs : List ℕ) → HasNoNul bs → HasNoNul (escaped bs)
escaped_clean [] e = refl
escaped_clean (b ∷ bs) e = let p = and_parts (not (b == 0)) (no_nul bs) e in no_nul_both (escape b) (escaped bs) (escape_clean b (not_nul b p.0)) (escaped_clean bs p.1)

pub quoted_clean : (t : List ℕ) → HasNoNul t → HasNoNul (quoted t)
quoted_clean t e = no_nul_both (codes "\"") (escaped t ++ codes "\"") refl (no_nul_both (escaped t) (codes "\"") (escaped_clean t e) refl)

digit_clean : (d : ℕ) → (48 + d == 0) ≡ false
digit_clean d = grind (arith, nat_tests)

pub decimal_clean : (n : ℕ) → n < 2 ^ 64 → HasNoNul (decimal n)
decimal_clean n h =
    decimal_by_steps (λ n ds. HasNoNul ds) (λ m k. rw (digit_clean m) refl) (λ m ds k e. no_nul_both ds ((48 + m % 10) ∷ []) e (rw (digit_clean (m % 10)) refl)) n h
