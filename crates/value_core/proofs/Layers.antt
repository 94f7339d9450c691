-- Values and kinds by their layers.
use Rattle.std.proofs.Common.{◌≡◌, ℕ, ◌+◌, Bool, List, length, map, sum, sym, ap, ◌∙◌}
use Rattle.value_core.specs.declared.value.Kind.{Kind, Kind-F, roll-Kind, map-Kind, fold-roll-Kind}
use Rattle.value_core.specs.declared.value.Outcome.{Outcome}
use Rattle.value_core.specs.declared.value.Value.{Value, Value-F, roll-Value, out-Value, out-roll-Value, fold-roll-Value}
use Rattle.value_core.specs.declared.value.Value.TheVariants as value
use Rattle.value_core.specs.Values.{fits_kind, fits_step, layer_fits, outcome_weight_step, weight_of, weight_step}

-- whether a value is of a kind, by the kind's layer
pub fits_layer : (l : Kind-F Kind) (k : Kind) → roll-Kind l ≡ k → (v : Value) → fits_kind k v ≡ layer_fits (map-Kind Kind (Value → Bool) fits_kind l) (out-Value v)
fits_layer l k e v = ap (λ j. fits_kind j v) (sym e) ∙ ap (λ (f : Value → Bool). f v) (fold-roll-Kind (Value → Bool) fits_step l)

-- the layer of a value that was made of it
pub out_at : (l : Value-F Outcome Value) (v : Value) → roll-Value l ≡ v → out-Value v ≡ l
out_at l v e = ap out-Value (sym e) ∙ out-roll-Value l

pub words_weight : (t : List ℕ) → weight_of (value.Words t) ≡ length t + 1
words_weight t = ap weight_of (sym (value.rolls-Words t)) ∙ fold-roll-Value ℕ ℕ outcome_weight_step weight_step (Value-F.Words t)

pub num_weight : (n : ℕ) → weight_of (value.Num n) ≡ 1
num_weight n = ap weight_of (sym (value.rolls-Num n)) ∙ fold-roll-Value ℕ ℕ outcome_weight_step weight_step (Value-F.Num n)

pub unit_weight : weight_of value.Unit ≡ 1
unit_weight = ap weight_of (sym value.rolls-Unit) ∙ fold-roll-Value ℕ ℕ outcome_weight_step weight_step Value-F.Unit

pub list_weight : (xs : List Value) → weight_of (value.List xs) ≡ 1 + sum (map weight_of xs)
list_weight xs = ap weight_of (sym (value.rolls-List xs)) ∙ fold-roll-Value ℕ ℕ outcome_weight_step weight_step (Value-F.List xs)
