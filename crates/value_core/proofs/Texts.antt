-- What a search for NUL finds, and what is left without a final newline.
use Rattle.std.proofs.Common.{◌≡◌, ◌≢◌, ℕ, ◌+◌, ◌-◌, ◌<◌, Bool, true, false, cond, eqb, List, [], ◌∷◌, ◌++◌, length, get_or, take, refl, sym, ap, ◌∙◌, arith, length-append}
use Rattle.std.specs.Prelude.{◌&&◌, ◌||◌, not}
use Rattle.std.specs.Io.BufRead.{strip_last, ends_with_byte}
use Rattle.std.specs.List.{list_any}
use Rattle.std.proofs.Math.Seq.{take-length}
use Rattle.std.proofs.lemmas.List.{take_more}
use Rattle.std.proofs.lemmas.Bool.Decides.{nat_tests}
use Rattle.value_core.specs.Texts.{no_nul, HasNoNul}
use Rattle.value_core.proofs.Nuls.{no_nul_take}

nul_or : (a b : Bool) → (a || not b) ≡ not (not a && b)
nul_or true b = refl
nul_or false b = refl

pub any_nul : (bs : List ℕ) → list_any (λ y. eqb y 0) bs ≡ not (no_nul bs)
any_nul [] = refl
any_nul (b ∷ bs) = ap (λ t. eqb b 0 || t) (any_nul bs) ∙ nul_or (eqb b 0) (no_nul bs)

last_is : (front : List ℕ) → get_or (front ++ 10 ∷ []) (length front) 0 ≡ 10
last_is [] = refl
last_is (b ∷ bs) = last_is bs

take_front : (front : List ℕ) → take (length front) (front ++ 10 ∷ []) ≡ front
take_front [] = refl
take_front (b ∷ bs) = ap (λ l. b ∷ l) (take_front bs)

-- what is left where the last byte is a newline
strip_at : (bs : List ℕ) (n : ℕ) → length bs ≡ n + 1 → get_or bs n 0 ≡ 10 → strip_last 10 bs ≡ take n bs
strip_at bs n size last =
    let e : length bs - 1 ≡ n = omega arith in
    let ends : ends_with_byte 10 bs ≡ true = rw e (grind (arith, nat_tests)) in
    rw (ends, e) refl

strip_front : (front : List ℕ) → strip_last 10 (front ++ 10 ∷ []) ≡ front
strip_front front = strip_at (front ++ 10 ∷ []) (length front) (length-append front (10 ∷ [])) (last_is front) ∙ take_front front

pub stripped_some : (bs front : List ℕ) → bs ≡ front ++ 10 ∷ [] → strip_last 10 bs ≡ front
stripped_some bs front e = rw e (strip_front front)

ends_split : (bs : List ℕ) → ends_with_byte 10 bs ≡ true → bs ≡ take (length bs - 1) bs ++ 10 ∷ []
ends_split bs ends =
    let some : 0 < length bs = grind (arith, nat_tests) in
    let last : get_or bs (length bs - 1) 0 ≡ 10 = grind (arith, nat_tests) in
    let e : length bs - 1 + 1 ≡ length bs = omega arith in
    let all : take (length bs - 1 + 1) bs ≡ take (length bs - 1) bs ++ get_or bs (length bs - 1) 0 ∷ [] = take_more bs (length bs - 1) 0 (omega arith) in
    rw last at (sym (take-length bs) ∙ ap (λ n. take n bs) (sym e) ∙ all)

pub stripped_none : (bs : List ℕ) → ((front : List ℕ) → bs ≢ front ++ 10 ∷ []) → strip_last 10 bs ≡ bs
stripped_none bs none =
    let cases : (b : Bool) → ends_with_byte 10 bs ≡ b → cond b (take (length bs - 1) bs) bs ≡ bs =
    λ b. elim b as (λ b. ends_with_byte 10 bs ≡ b → cond b (take (length bs - 1) bs) bs ≡ bs) [ true ↦ λ e. absurd (none (take (length bs - 1) bs) (ends_split bs e)) | false ↦ λ e. refl ]
    in cases (ends_with_byte 10 bs) refl

pub no_nul_strip : (bs : List ℕ) → no_nul bs ≡ true → HasNoNul (strip_last 10 bs)
no_nul_strip bs e =
    let cases : (b : Bool) → HasNoNul (cond b (take (length bs - 1) bs) bs) = λ b. elim b as (λ b. HasNoNul (cond b (take (length bs - 1) bs) bs)) [ true ↦ no_nul_take (length bs - 1) bs e | false ↦ e ]
    in cases (ends_with_byte 10 bs)
