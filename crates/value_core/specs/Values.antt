-- Values: their weight, and which kind they are of. Each definition goes by one layer of a value or a kind.
use Rattle.std.specs.Prelude.{ℕ, ◌+◌, Bool, true, false, ◌&&◌, length, sum}
use Rattle.std.specs.List.{list_all}
use Rattle.value_core.specs.declared.value.Value.{Value, Value-F, out-Value, fold-Value}
use Rattle.value_core.specs.declared.value.Outcome.{Outcome, Outcome-F, out-Outcome, fold-Outcome}
use Rattle.value_core.specs.declared.value.Kind.{Kind, Kind-F, fold-Kind}

-- the weight of a layer of an outcome, whose value's is in its place
abbrev pub outcome_weight_step : Outcome-F ℕ ℕ → ℕ
outcome_weight_step (Outcome-F.Fine v) = v
outcome_weight_step (Outcome-F.Bad m) = length m + 1
outcome_weight_step Outcome-F.Going = 1

-- the weight of a layer of a value, whose parts' are in their places
abbrev pub weight_step : Value-F ℕ ℕ → ℕ
weight_step (Value-F.Words t) = length t + 1
weight_step (Value-F.Num n) = 1
weight_step Value-F.Unit = 1
weight_step (Value-F.Pair a b) = 1 + (a + b)
weight_step (Value-F.List xs) = 1 + sum xs
weight_step (Value-F.Out o) = o

-- a text its length plus 1; a number, unit and going 1; a pair or a list 1 plus its parts; an outcome its value's, or its message's length plus 1
abbrev pub weight_of : Value → ℕ
weight_of = fold-Value ℕ ℕ outcome_weight_step weight_step

-- the weight of an outcome
abbrev pub outcome_weight : Outcome → ℕ
outcome_weight = fold-Outcome ℕ ℕ outcome_weight_step weight_step

-- whether a layer of an outcome fits, by a test of its value
abbrev pub outcome_fits : (Value → Bool) → Outcome-F Outcome Value → Bool
outcome_fits fits (Outcome-F.Fine v) = fits v
outcome_fits fits (Outcome-F.Bad m) = true
outcome_fits fits Outcome-F.Going = true

-- whether a layer of a value fits a layer of a kind, where each part of the kind is its test
abbrev pub layer_fits : Kind-F (Value → Bool) → Value-F Outcome Value → Bool
layer_fits Kind-F.Text (Value-F.Words t) = true
layer_fits Kind-F.Num (Value-F.Num n) = true
layer_fits Kind-F.Unit Value-F.Unit = true
layer_fits (Kind-F.Pair f g) (Value-F.Pair a b) = f a && g b
layer_fits (Kind-F.List f) (Value-F.List xs) = list_all f xs
layer_fits (Kind-F.Out f) (Value-F.Out o) = outcome_fits f (out-Outcome o)
layer_fits k v = false

-- whether a value fits a layer of a kind, where each part of the kind is its test
abbrev pub fits_step : Kind-F (Value → Bool) → Value → Bool
fits_step k v = layer_fits k (out-Value v)

-- whether a value is of a kind
abbrev pub fits_kind : Kind → Value → Bool
fits_kind = fold-Kind (Value → Bool) fits_step
