-- What a function gives for a value of a kind that it takes is of the kind that it gives.
use Rattle.std.proofs.Common.{◌≡◌, ℕ, Bool, true, false, cond, List, [], ◌∷◌, ◌++◌, length, refl, sym, ap, subst, ◌∙◌}
use Rattle.std.specs.Prelude.{Option, Some, None, codes}
use Rattle.std.specs.Fmt.{decimal}
use Rattle.std.specs.List.{list_all}
use Rattle.value_core.specs.declared.function.Applied.{Applied}
use Rattle.value_core.specs.declared.function.Applied.TheVariants.{Fine, Bad}
use Rattle.value_core.specs.declared.function.Fun.{Fun}
use Rattle.value_core.specs.declared.function.Fun.TheVariants as fun
use Rattle.value_core.specs.declared.value.Kind.{Kind, Kind-F, out-Kind, map-Kind, fold_out-Kind}
use Rattle.value_core.specs.declared.value.Kind.TheVariants as kind
use Rattle.value_core.specs.declared.value.Outcome.{Outcome, Outcome-F, out-Outcome}
use Rattle.value_core.specs.declared.value.Value.{Value, Value-F, out-Value}
use Rattle.value_core.specs.declared.value.Value.TheVariants as value
use Rattle.value_core.specs.Codes.{kind_code}
use Rattle.value_core.specs.Cuts.{trimmed}
use Rattle.value_core.specs.FunctionKinds.{IsOfKind, counted_kind, first_kind, second_kind, described_kind, demanded_kind, kind_given}
use Rattle.value_core.specs.Functions.{limited_text, limited_list, limited_number, spelled_number, unit_if, described, demanded, fn_value}
use Rattle.value_core.specs.Parts.{text_values, text_in, number_in, items_in, outcome_in, first_layer, second_layer, outcome_layer}
use Rattle.value_core.specs.Same.{same}
use Rattle.value_core.specs.Values.{layer_fits, outcome_fits, fits_step, fits_kind}
use Rattle.value_core.proofs.Basics.{and_parts}
use Rattle.value_core.proofs.Layers.{fits_layer, out_at}

-- ---- values of a kind

pub fits_words : (t : List ℕ) → fits_kind kind.Text (value.Words t) ≡ true
fits_words t = fits_layer Kind-F.Text kind.Text kind.rolls-Text (value.Words t) ∙ ap (layer_fits Kind-F.Text) (out_at (Value-F.Words t) (value.Words t) (value.rolls-Words t))

fits_number : (n : ℕ) → fits_kind kind.Num (value.Num n) ≡ true
fits_number n = fits_layer Kind-F.Num kind.Num kind.rolls-Num (value.Num n) ∙ ap (layer_fits Kind-F.Num) (out_at (Value-F.Num n) (value.Num n) (value.rolls-Num n))

fits_unit : fits_kind kind.Unit value.Unit ≡ true
fits_unit = fits_layer Kind-F.Unit kind.Unit kind.rolls-Unit value.Unit ∙ ap (layer_fits Kind-F.Unit) (out_at Value-F.Unit value.Unit value.rolls-Unit)

all_fit : (ts : List (List ℕ)) → list_all (fits_kind kind.Text) (text_values ts) ≡ true
all_fit [] = refl
all_fit (t ∷ ts) = rw (fits_words t, all_fit ts) refl

fits_texts : (ts : List (List ℕ)) → fits_kind (kind.List kind.Text) (value.List (text_values ts)) ≡ true
fits_texts ts =
    fits_layer (Kind-F.List kind.Text) (kind.List kind.Text) (kind.rolls-List kind.Text) (value.List (text_values ts))
    ∙ ap (layer_fits (Kind-F.List (fits_kind kind.Text))) (out_at (Value-F.List (text_values ts)) (value.List (text_values ts)) (value.rolls-List (text_values ts)))
    ∙ all_fit ts

-- ---- what is given

either : (k : Kind) (b : Bool) (x y : Applied) → IsOfKind k x → IsOfKind k y → IsOfKind k (cond b x y)
either k true x y p q = p
either k false x y p q = q

text_given : (t : List ℕ) → IsOfKind kind.Text (limited_text t)
text_given t = either kind.Text _ (Bad (codes "text too large")) (Fine (value.Words t)) tt (fits_words t)

list_given : (ts : List (List ℕ)) → IsOfKind (kind.List kind.Text) (limited_list ts)
list_given ts = either (kind.List kind.Text) _ (Bad (codes "list too long")) (Fine (value.List (text_values ts))) tt (fits_texts ts)

number_given : (n : ℕ) → IsOfKind kind.Num (limited_number n)
number_given n = either kind.Num _ (Fine (value.Num n)) (Bad (codes "number too large")) (fits_number n) tt

spelled_given : (o : Option ℕ) → IsOfKind kind.Num (spelled_number o)
spelled_given None = tt
spelled_given (Some n) = fits_number n

unit_given : (b : Bool) (m : List ℕ) → IsOfKind kind.Unit (unit_if b m)
unit_given b m = either kind.Unit b (Fine value.Unit) (Bad m) fits_unit tt

described_given : (o : Outcome-F Outcome Value) → IsOfKind kind.Text (described o)
described_given (Outcome-F.Fine v) = fits_words (codes "ok")
described_given (Outcome-F.Bad m) = text_given (codes "failed: " ++ m)
described_given Outcome-F.Going = fits_words (codes "active")

demanded_given : (k : Kind) (o : Outcome-F Outcome Value) → outcome_fits (fits_kind k) o ≡ true → IsOfKind k (demanded o)
demanded_given k (Outcome-F.Fine v) h = h
demanded_given k (Outcome-F.Bad m) h = tt
demanded_given k Outcome-F.Going h = tt

-- ---- by the kinds

as_given : (b : Bool) (g to : Kind) (a : Applied) → IsOfKind g a → cond b (Some g) None ≡ Some to → IsOfKind to a
as_given true g to a p e = let is : g ≡ to = cc in subst (λ k. IsOfKind k a) is p
as_given false g to a p e = absurd cc

counted : (l : Kind-F Kind) (to : Kind) (a : Applied) → IsOfKind kind.Num a → counted_kind l ≡ Some to → IsOfKind to a
counted (Kind-F.List i) to a p e = as_given true kind.Num to a p e
counted Kind-F.Text to a p e = absurd cc
counted Kind-F.Num to a p e = absurd cc
counted Kind-F.Unit to a p e = absurd cc
counted (Kind-F.Pair i j) to a p e = absurd cc
counted (Kind-F.Out i) to a p e = absurd cc

in_words : (l : Kind-F Kind) (to : Kind) (a : Applied) → IsOfKind kind.Text a → described_kind l ≡ Some to → IsOfKind to a
in_words (Kind-F.Out i) to a p e = as_given true kind.Text to a p e
in_words Kind-F.Text to a p e = absurd cc
in_words Kind-F.Num to a p e = absurd cc
in_words Kind-F.Unit to a p e = absurd cc
in_words (Kind-F.Pair i j) to a p e = absurd cc
in_words (Kind-F.List i) to a p e = absurd cc

abbrev Fits : Kind-F Kind → Value-F Outcome Value → Type 0
Fits l m = layer_fits (map-Kind Kind (Value → Bool) fits_kind l) m ≡ true

pair_fits : (i j : Kind) (m : Value-F Outcome Value) → Fits (Kind-F.Pair i j) m → (fits_kind i (first_layer m) ≡ true) × (fits_kind j (second_layer m) ≡ true)
pair_fits i j (Value-F.Pair x y) h = and_parts (fits_kind i x) (fits_kind j y) h
pair_fits i j (Value-F.Words t) h = absurd cc
pair_fits i j (Value-F.Num n) h = absurd cc
pair_fits i j Value-F.Unit h = absurd cc
pair_fits i j (Value-F.List xs) h = absurd cc
pair_fits i j (Value-F.Out o) h = absurd cc

first_given : (l : Kind-F Kind) (m : Value-F Outcome Value) (to : Kind) → first_kind l ≡ Some to → Fits l m → IsOfKind to (Fine (first_layer m))
first_given (Kind-F.Pair i j) m to e h = as_given true i to (Fine (first_layer m)) (pair_fits i j m h).0 e
first_given Kind-F.Text m to e h = absurd cc
first_given Kind-F.Num m to e h = absurd cc
first_given Kind-F.Unit m to e h = absurd cc
first_given (Kind-F.List i) m to e h = absurd cc
first_given (Kind-F.Out i) m to e h = absurd cc

second_given : (l : Kind-F Kind) (m : Value-F Outcome Value) (to : Kind) → second_kind l ≡ Some to → Fits l m → IsOfKind to (Fine (second_layer m))
second_given (Kind-F.Pair i j) m to e h = as_given true j to (Fine (second_layer m)) (pair_fits i j m h).1 e
second_given Kind-F.Text m to e h = absurd cc
second_given Kind-F.Num m to e h = absurd cc
second_given Kind-F.Unit m to e h = absurd cc
second_given (Kind-F.List i) m to e h = absurd cc
second_given (Kind-F.Out i) m to e h = absurd cc

outcome_given : (i : Kind) (m : Value-F Outcome Value) → Fits (Kind-F.Out i) m → IsOfKind i (demanded (out-Outcome (outcome_layer m)))
outcome_given i (Value-F.Out o) h = demanded_given i (out-Outcome o) h
outcome_given i (Value-F.Words t) h = absurd cc
outcome_given i (Value-F.Num n) h = absurd cc
outcome_given i Value-F.Unit h = absurd cc
outcome_given i (Value-F.Pair x y) h = absurd cc
outcome_given i (Value-F.List xs) h = absurd cc

value_given : (l : Kind-F Kind) (m : Value-F Outcome Value) (to : Kind) → demanded_kind l ≡ Some to → Fits l m → IsOfKind to (demanded (out-Outcome (outcome_layer m)))
value_given (Kind-F.Out i) m to e h = as_given true i to (demanded (out-Outcome (outcome_layer m))) (outcome_given i m h) e
value_given Kind-F.Text m to e h = absurd cc
value_given Kind-F.Num m to e h = absurd cc
value_given Kind-F.Unit m to e h = absurd cc
value_given (Kind-F.Pair i j) m to e h = absurd cc
value_given (Kind-F.List i) m to e h = absurd cc

fits_out : (k : Kind) (v : Value) → fits_kind k v ≡ true → Fits (out-Kind k) (out-Value v)
fits_out k v h = sym (ap (λ (f : Value → Bool). f v) (fold_out-Kind (Value → Bool) fits_step k)) ∙ h

pub kept : (f : Fun) (k to : Kind) (v : Value) → kind_given f k ≡ Some to → fits_kind k v ≡ true → IsOfKind to (fn_value f v)
unfolding kind_given fn_value
kept fun.Trim k to v e h = as_given (same kind_code k kind.Text) kind.Text to (fn_value fun.Trim v) (fits_words (trimmed (text_in v))) e
kept fun.Lines k to v e h = as_given (same kind_code k kind.Text) (kind.List kind.Text) to _ (list_given _) e
kept fun.Words k to v e h = as_given (same kind_code k kind.Text) (kind.List kind.Text) to _ (list_given _) e
kept fun.Join k to v e h = as_given (same kind_code k (kind.List kind.Text)) kind.Text to _ (text_given _) e
kept fun.Concat k to v e h = as_given (same kind_code k (kind.Pair kind.Text kind.Text)) kind.Text to _ (text_given _) e
kept fun.Length k to v e h = as_given (same kind_code k kind.Text) kind.Num to (fn_value fun.Length v) (fits_number (length (text_in v))) e
kept fun.Count k to v e h = counted (out-Kind k) to (fn_value fun.Count v) (fits_number (length (items_in v))) e
kept fun.Number k to v e h = as_given (same kind_code k kind.Text) kind.Num to _ (spelled_given _) e
kept fun.Show k to v e h = as_given (same kind_code k kind.Num) kind.Text to (fn_value fun.Show v) (fits_words (decimal (number_in v))) e
kept fun.Add k to v e h = as_given (same kind_code k (kind.Pair kind.Num kind.Num)) kind.Num to _ (number_given _) e
kept fun.Equal k to v e h = as_given (same kind_code k (kind.Pair kind.Text kind.Text)) kind.Unit to _ (unit_given _ _) e
kept fun.AtMost k to v e h = as_given (same kind_code k (kind.Pair kind.Num kind.Num)) kind.Unit to _ (unit_given _ _) e
kept fun.First k to v e h = first_given (out-Kind k) (out-Value v) to e (fits_out k v h)
kept fun.Second k to v e h = second_given (out-Kind k) (out-Value v) to e (fits_out k v h)
kept fun.Describe k to v e h = in_words (out-Kind k) to (fn_value fun.Describe v) (described_given (out-Outcome (outcome_in v))) e
kept fun.Must k to v e h = value_given (out-Kind k) (out-Value v) to e (fits_out k v h)
