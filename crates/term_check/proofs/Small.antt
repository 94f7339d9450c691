-- What a function gives for a value within the bounds is within them.
use Rattle.std.proofs.Common.{◌≡◌, ℕ, ◌+◌, ◌-◌, ◌^◌, ◌<◌, ◌≤◌, List, [], ◌∷◌, ◌++◌, length, map, sum, Bool, true, false, cond, Some, None, refl, ap, sym, subst, ◌∙◌, arith}
use Rattle.std.specs.Prelude.{◌&&◌, ◌||◌, ◌==◌, not, nat_le, nat_lt, codes}
use Rattle.std.specs.Str.{all_ascii_digits, bytes_eq}
use Rattle.std.specs.Str.Parse.{digits_value}
use Rattle.std.specs.Fmt.{decimal}
use Rattle.std.specs.List.{filter, list_all, onto_first, prefix_len, slice_split, suffix_len}
use Rattle.std.proofs.lemmas.Bool.{and_from, and_parts, le-leb, leb-true, lt-ltb, ltb-false, ltb-true}
use Rattle.std.proofs.lemmas.Fmt.{length-decimal-le}
use Rattle.std.proofs.lemmas.List.{length-drop, length-map, length-take}
use Rattle.std.proofs.lemmas.List.Sums.{sum_by-cons}
use Rattle.value_core.specs.Cuts.{is_piece, pieces_of, separates, trimmed, trimmed_front}
use Rattle.value_core.specs.Functions.{demanded, described, fn_value, joined, limited_list, limited_number, limited_text, spelled_number, unit_if}
use Rattle.value_core.specs.Parts.{first_layer, items_layer, number_layer, outcome_layer, second_layer, text_in, text_layer, text_values, texts_in, number_in, items_in, outcome_in, first_in, second_in}
use Rattle.value_core.specs.Tokens.{is_blank, number_of}
use Rattle.value_core.specs.Values.{outcome_weight, outcome_weight_step, weight_of, weight_step}
use Rattle.value_core.specs.declared.cutting.Separator.{Separator}
use Rattle.value_core.specs.declared.cutting.Separator.TheVariants.{Newline, White}
use Rattle.value_core.specs.declared.function.Applied.{Applied}
use Rattle.value_core.specs.declared.function.Applied.TheVariants.{Fine, Bad}
use Rattle.value_core.specs.declared.function.Fun.{Fun}
use Rattle.value_core.specs.declared.function.Fun.TheVariants as fun
use Rattle.value_core.specs.declared.value.Outcome.{Outcome, Outcome-F, out-Outcome, out-roll-Outcome, fold-Outcome, fold_out-Outcome, map-Outcome}
use Rattle.value_core.specs.declared.value.Outcome.TheVariants as outcome
use Rattle.value_core.specs.declared.value.Value.{Value, Value-F, out-Value, roll-Value, out-roll-Value, fold_out-Value, map-Value}
use Rattle.value_core.specs.declared.value.Value.TheVariants as value
use Rattle.term_core.specs.Limits.{is_text}
use Rattle.term_core.specs.States.{weight_limit}
use Rattle.term_check.specs.Bounds.{bounded_step, is_bounded, outcome_bounded_step}

-- whether an outcome is within the bounds
abbrev pub outcome_bounded : Outcome → Bool
outcome_bounded = fold-Outcome Bool Bool outcome_bounded_step bounded_step

-- ---- values by their outermost layer

abbrev pub layer_bounded : Value-F Outcome Value → Bool
layer_bounded (Value-F.Words t) = is_text t
layer_bounded (Value-F.Num n) = nat_lt n (2 ^ 64)
layer_bounded Value-F.Unit = true
layer_bounded (Value-F.Pair a b) = is_bounded a && is_bounded b
layer_bounded (Value-F.List xs) = nat_le (length (map is_bounded xs)) 256 && list_all (λ x. x) (map is_bounded xs)
layer_bounded (Value-F.Out o) = outcome_bounded o

abbrev pub layer_weight : Value-F Outcome Value → ℕ
layer_weight (Value-F.Words t) = length t + 1
layer_weight (Value-F.Num n) = 1
layer_weight Value-F.Unit = 1
layer_weight (Value-F.Pair a b) = 1 + (weight_of a + weight_of b)
layer_weight (Value-F.List xs) = 1 + sum (map weight_of xs)
layer_weight (Value-F.Out o) = outcome_weight o

abbrev pub outcome_layer_bounded : Outcome-F Outcome Value → Bool
outcome_layer_bounded (Outcome-F.Fine v) = is_bounded v
outcome_layer_bounded (Outcome-F.Bad m) = is_text m
outcome_layer_bounded Outcome-F.Going = true

abbrev pub outcome_layer_weight : Outcome-F Outcome Value → ℕ
outcome_layer_weight (Outcome-F.Fine v) = weight_of v
outcome_layer_weight (Outcome-F.Bad m) = length m + 1
outcome_layer_weight Outcome-F.Going = 1

bounded_step_is : (l : Value-F Outcome Value) → bounded_step (map-Value Outcome Value Bool Bool outcome_bounded is_bounded l) ≡ layer_bounded l
bounded_step_is (Value-F.Words t) = refl
bounded_step_is (Value-F.Num n) = refl
bounded_step_is Value-F.Unit = refl
bounded_step_is (Value-F.Pair a b) = refl
bounded_step_is (Value-F.List xs) = refl
bounded_step_is (Value-F.Out o) = refl

pub bounded_out : (v : Value) → is_bounded v ≡ layer_bounded (out-Value v)
bounded_out v = fold_out-Value Bool Bool outcome_bounded_step bounded_step v ∙ bounded_step_is (out-Value v)

weight_step_is : (l : Value-F Outcome Value) → weight_step (map-Value Outcome Value ℕ ℕ outcome_weight weight_of l) ≡ layer_weight l
weight_step_is (Value-F.Words t) = refl
weight_step_is (Value-F.Num n) = refl
weight_step_is Value-F.Unit = refl
weight_step_is (Value-F.Pair a b) = refl
weight_step_is (Value-F.List xs) = refl
weight_step_is (Value-F.Out o) = refl

pub weight_out : (v : Value) → weight_of v ≡ layer_weight (out-Value v)
weight_out v = fold_out-Value ℕ ℕ outcome_weight_step weight_step v ∙ weight_step_is (out-Value v)

outcome_bounded_is : (l : Outcome-F Outcome Value) → outcome_bounded_step (map-Outcome Outcome Value Bool Bool outcome_bounded is_bounded l) ≡ outcome_layer_bounded l
outcome_bounded_is (Outcome-F.Fine v) = refl
outcome_bounded_is (Outcome-F.Bad m) = refl
outcome_bounded_is Outcome-F.Going = refl

pub outcome_bounded_out : (o : Outcome) → outcome_bounded o ≡ outcome_layer_bounded (out-Outcome o)
outcome_bounded_out o = fold_out-Outcome Bool Bool outcome_bounded_step bounded_step o ∙ outcome_bounded_is (out-Outcome o)

outcome_weight_is : (l : Outcome-F Outcome Value) → outcome_weight_step (map-Outcome Outcome Value ℕ ℕ outcome_weight weight_of l) ≡ outcome_layer_weight l
outcome_weight_is (Outcome-F.Fine v) = refl
outcome_weight_is (Outcome-F.Bad m) = refl
outcome_weight_is Outcome-F.Going = refl

pub outcome_weight_out : (o : Outcome) → outcome_weight o ≡ outcome_layer_weight (out-Outcome o)
outcome_weight_out o = fold_out-Outcome ℕ ℕ outcome_weight_step weight_step o ∙ outcome_weight_is (out-Outcome o)

-- ---- values within the bounds

pub record IsSmall (v : Value) : Type 0 where
  pub bounded : is_bounded v ≡ true
  pub light : weight_of v ≤ weight_limit

-- a value of a layer
pub bounded_at : (l : Value-F Outcome Value) (v : Value) → roll-Value l ≡ v → is_bounded v ≡ layer_bounded l
bounded_at l v e = bounded_out v ∙ ap layer_bounded (ap out-Value (sym e) ∙ out-roll-Value l)

pub weight_at : (l : Value-F Outcome Value) (v : Value) → roll-Value l ≡ v → weight_of v ≡ layer_weight l
weight_at l v e = weight_out v ∙ ap layer_weight (ap out-Value (sym e) ∙ out-roll-Value l)

pub small_words : (t : List ℕ) → length t ≤ 65536 → IsSmall (value.Words t)
small_words t h = record {
  bounded = bounded_at (Value-F.Words t) (value.Words t) (value.rolls-Words t) ∙ le-leb (length t) 65536 h;
  light = let w = weight_at (Value-F.Words t) (value.Words t) (value.rolls-Words t) in omega (arith, w);
}

pub small_number : (n : ℕ) → n < 2 ^ 64 → IsSmall (value.Num n)
small_number n h = record {
  bounded = bounded_at (Value-F.Num n) (value.Num n) (value.rolls-Num n) ∙ lt-ltb n (2 ^ 64) h;
  light = let w = weight_at (Value-F.Num n) (value.Num n) (value.rolls-Num n) in omega (arith, w);
}

pub small_unit : IsSmall value.Unit
small_unit = record { bounded = bounded_at Value-F.Unit value.Unit value.rolls-Unit; light = let w = weight_at Value-F.Unit value.Unit value.rolls-Unit in omega (arith, w) }

-- a list of texts
abbrev spread : List (List ℕ) → ℕ
spread [] = 0
spread (t ∷ ts) = (length t + 1) + spread ts

texts_weight : (ts : List (List ℕ)) → sum (map weight_of (text_values ts)) ≡ spread ts
texts_weight [] = refl
texts_weight (t ∷ ts) =
    let c = sum_by-cons (λ (x : ℕ). x) (weight_of (value.Words t)) (map weight_of (text_values ts)) in
    let w = weight_at (Value-F.Words t) (value.Words t) (value.rolls-Words t) in
    let r = texts_weight ts in
    omega (arith, c, w, r)

texts_bounded : (ts : List (List ℕ)) → spread ts ≤ 65537 → list_all (λ x. x) (map is_bounded (text_values ts)) ≡ true
texts_bounded [] h = refl
texts_bounded (t ∷ ts) h =
    and_from (is_bounded (value.Words t)) (list_all (λ x. x) (map is_bounded (text_values ts))) (small_words t (omega arith)).bounded (texts_bounded ts (omega arith))

pub small_texts : (ts : List (List ℕ)) → length ts ≤ 256 → spread ts ≤ 65537 → IsSmall (value.List (text_values ts))
small_texts ts few h = record {
  bounded =
      bounded_at (Value-F.List (text_values ts)) (value.List (text_values ts)) (value.rolls-List (text_values ts))
      ∙ and_from (nat_le (length (map is_bounded (text_values ts))) 256) (list_all (λ x. x) (map is_bounded (text_values ts)))
      (le-leb _ 256 (let a = length-map (text_values ts) is_bounded in let b = length-map ts value.Words in omega (arith, a, b))) (texts_bounded ts h);
  light =
      let w = weight_at (Value-F.List (text_values ts)) (value.List (text_values ts)) (value.rolls-List (text_values ts)) in
      let s = texts_weight ts in
      omega (arith, w, s);
}

-- ---- pieces of a text

spread_onto : (x : ℕ) (parts : List (List ℕ)) (n : ℕ) → spread parts ≡ n + 1 → spread (onto_first x parts) ≡ (n + 1) + 1
spread_onto x [] n e = absurd (omega (arith, e))
spread_onto x (p ∷ parts) n e = omega (arith, e)

spread_split : (p : ℕ → Bool) (xs : List ℕ) → spread (slice_split p xs) ≡ length xs + 1
spread_split p [] = refl
spread_split p (x ∷ xs) =
    elim (p x) as (λ b. spread (cond b ([] ∷ slice_split p xs) (onto_first x (slice_split p xs))) ≡ length (x ∷ xs) + 1) [
      | true ↦ let h = spread_split p xs in omega (arith, h)
      | false ↦ let h = spread_onto x (slice_split p xs) (length xs) (spread_split p xs) in omega (arith, h)
    ]

spread_filter : (p : List ℕ → Bool) (ts : List (List ℕ)) → spread (filter p ts) ≤ spread ts
spread_filter p [] = omega arith
spread_filter p (t ∷ ts) =
    elim (p t) as (λ b. spread (cond b (t ∷ filter p ts) (filter p ts)) ≤ spread (t ∷ ts))
    [ true ↦ let h = spread_filter p ts in omega (arith, h) | false ↦ let h = spread_filter p ts in omega (arith, h) ]

spread_pieces : (s : Separator) (t : List ℕ) → spread (pieces_of s t) ≤ length t + 1
spread_pieces s t = let a = spread_filter is_piece (slice_split (separates s) t) in let b = spread_split (separates s) t in omega (arith, a, b)

trimmed_short : (t : List ℕ) → length (trimmed t) ≤ length t
trimmed_short t =
    let a = length-take (length (trimmed_front t) - suffix_len is_blank (trimmed_front t)) (trimmed_front t) in
    let b = length-drop (prefix_len is_blank t) t in
    omega (arith, a, b)

-- ---- what a value within the bounds has in it

pub text_short : (l : Value-F Outcome Value) → layer_bounded l ≡ true → length (text_layer l) ≤ 65536
text_short (Value-F.Words t) h = leb-true (length t) 65536 h
text_short (Value-F.Num n) h = omega arith
text_short Value-F.Unit h = omega arith
text_short (Value-F.Pair a b) h = omega arith
text_short (Value-F.List xs) h = omega arith
text_short (Value-F.Out o) h = omega arith

number_low : (l : Value-F Outcome Value) → layer_bounded l ≡ true → number_layer l < 2 ^ 64
number_low (Value-F.Words t) h = omega arith
number_low (Value-F.Num n) h = ltb-true n (2 ^ 64) h
number_low Value-F.Unit h = omega arith
number_low (Value-F.Pair a b) h = omega arith
number_low (Value-F.List xs) h = omega arith
number_low (Value-F.Out o) h = omega arith

pub items_few : (l : Value-F Outcome Value) → layer_bounded l ≡ true → length (items_layer l) ≤ 256
items_few (Value-F.Words t) h = omega arith
items_few (Value-F.Num n) h = omega arith
items_few Value-F.Unit h = omega arith
items_few (Value-F.Pair a b) h = omega arith
items_few (Value-F.List xs) h =
    let few = leb-true (length (map is_bounded xs)) 256 (and_parts (nat_le (length (map is_bounded xs)) 256) (list_all (λ x. x) (map is_bounded xs)) h).0 in
    let same = length-map xs is_bounded in omega (arith, few, same)
items_few (Value-F.Out o) h = omega arith

first_small : (l : Value-F Outcome Value) → layer_bounded l ≡ true → layer_weight l ≤ weight_limit → IsSmall (first_layer l)
first_small (Value-F.Words t) h w = small_unit
first_small (Value-F.Num n) h w = small_unit
first_small Value-F.Unit h w = small_unit
first_small (Value-F.Pair a b) h w = record { bounded = (and_parts (is_bounded a) (is_bounded b) h).0; light = omega arith }
first_small (Value-F.List xs) h w = small_unit
first_small (Value-F.Out o) h w = small_unit

second_small : (l : Value-F Outcome Value) → layer_bounded l ≡ true → layer_weight l ≤ weight_limit → IsSmall (second_layer l)
second_small (Value-F.Words t) h w = small_unit
second_small (Value-F.Num n) h w = small_unit
second_small Value-F.Unit h w = small_unit
second_small (Value-F.Pair a b) h w = record { bounded = (and_parts (is_bounded a) (is_bounded b) h).1; light = omega arith }
second_small (Value-F.List xs) h w = small_unit
second_small (Value-F.Out o) h w = small_unit

pub record IsSmallOutcome (o : Outcome-F Outcome Value) : Type 0 where
  pub bounded : outcome_layer_bounded o ≡ true
  pub light : outcome_layer_weight o ≤ weight_limit

going_small : IsSmallOutcome (out-Outcome outcome.Going)
going_small = subst IsSmallOutcome (sym (ap out-Outcome (sym outcome.rolls-Going) ∙ out-roll-Outcome Outcome-F.Going)) (record { bounded = refl; light = omega arith })

outcome_small : (l : Value-F Outcome Value) → layer_bounded l ≡ true → layer_weight l ≤ weight_limit → IsSmallOutcome (out-Outcome (outcome_layer l))
outcome_small (Value-F.Words t) h w = going_small
outcome_small (Value-F.Num n) h w = going_small
outcome_small Value-F.Unit h w = going_small
outcome_small (Value-F.Pair a b) h w = going_small
outcome_small (Value-F.List xs) h w = going_small
outcome_small (Value-F.Out o) h w = record { bounded = sym (outcome_bounded_out o) ∙ h; light = subst (λ (n : ℕ). n ≤ weight_limit) (outcome_weight_out o) w }

-- ---- what a function gives

abbrev pub IsSmallApplied : Applied → Type 0
IsSmallApplied (Fine v) = IsSmall v
IsSmallApplied (Bad m) = length m ≤ 65536

either : (b : Bool) (x y : Applied) → (b ≡ true → IsSmallApplied x) → (b ≡ false → IsSmallApplied y) → IsSmallApplied (cond b x y)
either true x y f g = f refl
either false x y f g = g refl

text_given : (t : List ℕ) → IsSmallApplied (limited_text t)
text_given t = either (nat_lt 65536 (length t)) (Bad (codes "text too large")) (Fine (value.Words t)) (λ e. omega arith) (λ e. small_words t (ltb-false 65536 (length t) e))

list_given : (ts : List (List ℕ)) → spread ts ≤ 65537 → IsSmallApplied (limited_list ts)
list_given ts h = either (nat_lt 256 (length ts)) (Bad (codes "list too long")) (Fine (value.List (text_values ts))) (λ e. omega arith) (λ e. small_texts ts (ltb-false 256 (length ts) e) h)

number_given : (n : ℕ) → IsSmallApplied (limited_number n)
number_given n = either (nat_lt n (2 ^ 64)) (Fine (value.Num n)) (Bad (codes "number too large")) (λ e. small_number n (ltb-true n (2 ^ 64) e)) (λ e. omega arith)

spelled_given : (t : List ℕ) → IsSmallApplied (spelled_number (number_of t))
spelled_given [] = omega arith
spelled_given (b ∷ bs) =
    let n : ℕ = digits_value 10 (b ∷ bs) in
    elim (all_ascii_digits (b ∷ bs) && ((not (b == 48) || nat_lt (length bs) 1) && nat_lt n (2 ^ 64))) as
    (λ c. (all_ascii_digits (b ∷ bs) && ((not (b == 48) || nat_lt (length bs) 1) && nat_lt n (2 ^ 64))) ≡ c → IsSmallApplied (spelled_number (cond c (Some n) None))) [
      | true ↦ λ e. small_number n (ltb-true n (2 ^ 64) (and_parts (not (b == 48) || nat_lt (length bs) 1) (nat_lt n (2 ^ 64)) (and_parts (all_ascii_digits (b ∷ bs)) _ e).1).1)
      | false ↦ λ e. omega arith
    ] refl

unit_given : (b : Bool) (m : List ℕ) → length m ≤ 65536 → IsSmallApplied (unit_if b m)
unit_given b m h = either b (Fine value.Unit) (Bad m) (λ e. small_unit) (λ e. h)

described_given : (o : Outcome-F Outcome Value) → IsSmallApplied (described o)
described_given (Outcome-F.Fine v) = small_words (codes "ok") (omega arith)
described_given (Outcome-F.Bad m) = text_given (codes "failed: " ++ m)
described_given Outcome-F.Going = small_words (codes "active") (omega arith)

demanded_given : (o : Outcome-F Outcome Value) → IsSmallOutcome o → IsSmallApplied (demanded o)
demanded_given (Outcome-F.Fine v) h = record { bounded = h.bounded; light = h.light }
demanded_given (Outcome-F.Bad m) h = leb-true (length m) 65536 h.bounded
demanded_given Outcome-F.Going h = omega arith

pub small_given : (f : Fun) (v : Value) → layer_bounded (out-Value v) ≡ true → layer_weight (out-Value v) ≤ weight_limit → IsSmallApplied (fn_value f v)
unfolding fn_value
small_given fun.Trim v h w = small_words (trimmed (text_in v)) (let a = trimmed_short (text_in v) in let b = text_short (out-Value v) h in omega (arith, a, b))
small_given fun.Lines v h w = list_given _ (let a = spread_pieces Newline (text_in v) in let b = text_short (out-Value v) h in omega (arith, a, b))
small_given fun.Words v h w = list_given _ (let a = spread_pieces White (text_in v) in let b = text_short (out-Value v) h in omega (arith, a, b))
small_given fun.Join v h w = text_given (joined (texts_in v))
small_given fun.Concat v h w = text_given (text_in (first_in v) ++ text_in (second_in v))
small_given fun.Length v h w = small_number (length (text_in v)) (let b = text_short (out-Value v) h in omega (arith, b))
small_given fun.Count v h w = small_number (length (items_in v)) (let b = items_few (out-Value v) h in omega (arith, b))
small_given fun.Number v h w = spelled_given (text_in v)
small_given fun.Show v h w = small_words (decimal (number_in v)) (let a = length-decimal-le 20 (number_in v) (omega arith) (let b = number_low (out-Value v) h in omega (arith, b)) (number_low (out-Value v) h) in omega (arith, a))
small_given fun.Add v h w = number_given (number_in (first_in v) + number_in (second_in v))
small_given fun.Equal v h w = unit_given (bytes_eq (text_in (first_in v)) (text_in (second_in v))) (codes "not equal") (omega arith)
small_given fun.AtMost v h w = unit_given (nat_le (number_in (first_in v)) (number_in (second_in v))) (codes "too large") (omega arith)
small_given fun.First v h w = first_small (out-Value v) h w
small_given fun.Second v h w = second_small (out-Value v) h w
small_given fun.Describe v h w = described_given (out-Outcome (outcome_in v))
small_given fun.Must v h w = demanded_given (out-Outcome (outcome_in v)) (outcome_small (out-Value v) h w)
