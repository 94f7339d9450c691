-- Where a text may be cut, and what its pieces are.
use Rattle.std.proofs.Common.{◌≡◌, ℕ, ◌+◌, ◌-◌, ◌<◌, ◌≤◌, ◌⊎◌, inl, inr, Bool, true, false, List, [], ◌∷◌, length, get_or, take, drop, reverse, refl, arith}
use Rattle.std.specs.List.{prefix_len, suffix_len, position_or_len, slice_split}
use Rattle.std.specs.Str.{IsUtf8, IsCharBoundary}
use Rattle.std.proofs.lemmas.Bool.Decides.{nat_tests}
use Rattle.std.proofs.lemmas.List.{get_or-reverse}
use Rattle.std.proofs.lemmas.List.Sums.{prefix_len_passes, passes_at_first, prefix_len-le-length, suffix_len-le-length}
use Rattle.std.proofs.lemmas.List.Splits.{slice_split_first}
use Rattle.std.proofs.lemmas.Str.{IsCharBoundary-start, IsCharBoundary-end, IsCharBoundary-before_ascii, IsCharBoundary-after_ascii}
use Rattle.value_core.specs.declared.cutting.Separator.{Separator}
use Rattle.value_core.specs.declared.cutting.Separator.TheVariants.{Newline, White}
use Rattle.value_core.specs.Cuts.{separates, trimmed, trimmed_front}
use Rattle.value_core.specs.Texts.{HasNoNul}
use Rattle.value_core.proofs.Nuls.{no_nul_take, no_nul_drop}
use Rattle.value_core.specs.Tokens.{is_blank}

blank_ascii : (b : ℕ) → is_blank b ≡ true → b < 128
blank_ascii b e = grind (arith, nat_tests)

pub separator_ascii : (s : Separator) (b : ℕ) → separates s b ≡ true → b < 128
separator_ascii Newline b e = grind (arith, nat_tests)
separator_ascii White b e = blank_ascii b e

zero_or : (n : ℕ) → (n ≡ 0) ⊎ (0 < n)
zero_or n = grind arith

-- behind white space at the front
pub front_boundary : (bs : List ℕ) → IsUtf8 bs → IsCharBoundary bs (prefix_len is_blank bs)
front_boundary bs u = elim (zero_or (prefix_len is_blank bs)) [
  | inl none ↦ rw none (IsCharBoundary-start bs u)
  | inr some ↦
      let n = prefix_len is_blank bs in
      let within : n ≤ length bs = prefix_len-le-length is_blank bs in
      let blank : is_blank (get_or bs (n - 1) 0) ≡ true = prefix_len_passes is_blank bs (n - 1) 0 (omega arith) in
      let e : n - 1 + 1 ≡ n = omega arith in
      rw e at (IsCharBoundary-after_ascii bs (n - 1) u (omega arith) (blank_ascii _ blank))
]

-- before white space at the end
pub end_boundary : (bs : List ℕ) → IsUtf8 bs → IsCharBoundary bs (length bs - suffix_len is_blank bs)
end_boundary bs u = elim (zero_or (suffix_len is_blank bs)) [
  | inl none ↦ let e : length bs - suffix_len is_blank bs ≡ length bs = omega (arith, none) in rw e (IsCharBoundary-end bs)
  | inr some ↦
      let n = suffix_len is_blank bs in
      let within : n ≤ length bs = suffix_len-le-length is_blank bs in
      let turned : get_or (reverse bs) (n - 1) 0 ≡ get_or bs (length bs - 1 - (n - 1)) 0 = get_or-reverse bs (n - 1) 0 (omega arith) in
      let e : length bs - 1 - (n - 1) ≡ length bs - n = omega arith in
      let blank : is_blank (get_or (reverse bs) (n - 1) 0) ≡ true = prefix_len_passes is_blank (reverse bs) (n - 1) 0 (omega arith) in
      IsCharBoundary-before_ascii bs (length bs - n) (omega arith) (blank_ascii (get_or bs (length bs - n) 0) (rw (turned, e) at blank))
]

-- before a separator, and behind it
pub separator_boundary : (s : Separator) (bs : List ℕ) (n : ℕ) → IsUtf8 bs → n ≡ position_or_len (separates s) bs → n < length bs → IsCharBoundary bs n
separator_boundary s bs n u at within =
    let here : separates s (get_or bs n 0) ≡ true = rw at (passes_at_first (separates s) bs 0 (rw at at within)) in
    IsCharBoundary-before_ascii bs n within (separator_ascii s (get_or bs n 0) here)

pub behind_separator : (s : Separator) (bs : List ℕ) (n : ℕ) → IsUtf8 bs → n ≡ position_or_len (separates s) bs → n < length bs → IsCharBoundary bs (n + 1)
behind_separator s bs n u at within =
    let here : separates s (get_or bs n 0) ≡ true = rw at (passes_at_first (separates s) bs 0 (rw at at within)) in
    IsCharBoundary-after_ascii bs n u within (separator_ascii s (get_or bs n 0) here)

-- a text that is cut at its first separator
pub split_cut : (s : Separator) (bs piece rest : List ℕ) (n : ℕ) → n ≡ position_or_len (separates s) bs → n < length bs → piece ≡ take n bs → rest ≡ drop (n + 1) bs
    → slice_split (separates s) bs ≡ piece ∷ slice_split (separates s) rest
split_cut s bs piece rest n at within front back = rw (front, back, at) (slice_split_first (separates s) bs 0 (rw at at within))

split_step : (p : ℕ → Bool) (x : ℕ) (xs : List ℕ) (b : Bool) → p x ≡ b → (position_or_len p xs ≡ length xs → slice_split p xs ≡ xs ∷ []) → position_or_len p (x ∷ xs) ≡ length (x ∷ xs) → slice_split p (x ∷ xs) ≡ (x ∷ xs) ∷ []
split_step p x xs true e ih h = let n : position_or_len p (x ∷ xs) ≡ 0 = rw e refl in absurd (omega arith)
split_step p x xs false e ih h =
    let n : position_or_len p (x ∷ xs) ≡ 1 + position_or_len p xs = rw e refl in
    let rest : slice_split p xs ≡ xs ∷ [] = ih (omega arith) in
    rw (e, rest) refl

-- a text without a separator is one piece
pub split_whole : (p : ℕ → Bool) (xs : List ℕ) → position_or_len p xs ≡ length xs → slice_split p xs ≡ xs ∷ []
split_whole p [] h = refl
split_whole p (x ∷ xs) h = split_step p x xs (p x) refl (split_whole p xs) h

-- what is left of a text without NUL
pub trimmed_clean : (bs : List ℕ) → HasNoNul bs → HasNoNul (trimmed bs)
trimmed_clean bs e = no_nul_take _ (trimmed_front bs) (no_nul_drop _ bs e)
