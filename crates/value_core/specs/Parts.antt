-- What a function finds in a value; in one of another shape the empty text or list, 0, unit, or an outcome that is going.
use Rattle.std.specs.Prelude.{ℕ, List, [], map}
use Rattle.value_core.specs.declared.value.Value.{Value, Value-F, out-Value}
use Rattle.value_core.specs.declared.value.Value.TheVariants as value
use Rattle.value_core.specs.declared.value.Outcome.{Outcome}
use Rattle.value_core.specs.declared.value.Outcome.TheVariants as outcome

-- the text of a layer of a value
abbrev pub text_layer : Value-F Outcome Value → List ℕ
text_layer (Value-F.Words t) = t
text_layer v = []

-- the text of a value
abbrev pub text_in : Value → List ℕ
text_in v = text_layer (out-Value v)

-- the number of a layer of a value
abbrev pub number_layer : Value-F Outcome Value → ℕ
number_layer (Value-F.Num n) = n
number_layer v = 0

-- the number of a value
abbrev pub number_in : Value → ℕ
number_in v = number_layer (out-Value v)

-- the items of a layer of a value
abbrev pub items_layer : Value-F Outcome Value → List Value
items_layer (Value-F.List xs) = xs
items_layer v = []

-- the items of a value
abbrev pub items_in : Value → List Value
items_in v = items_layer (out-Value v)

-- the texts of a value's items
abbrev pub texts_in : Value → List (List ℕ)
texts_in v = map text_in (items_in v)

-- the first part of a layer of a value
abbrev pub first_layer : Value-F Outcome Value → Value
first_layer (Value-F.Pair a b) = a
first_layer v = value.Unit

-- the first part of a value
abbrev pub first_in : Value → Value
first_in v = first_layer (out-Value v)

-- the second part of a layer of a value
abbrev pub second_layer : Value-F Outcome Value → Value
second_layer (Value-F.Pair a b) = b
second_layer v = value.Unit

-- the second part of a value
abbrev pub second_in : Value → Value
second_in v = second_layer (out-Value v)

-- the outcome of a layer of a value
abbrev pub outcome_layer : Value-F Outcome Value → Outcome
outcome_layer (Value-F.Out o) = o
outcome_layer v = outcome.Going

-- the outcome of a value
abbrev pub outcome_in : Value → Outcome
outcome_in v = outcome_layer (out-Value v)

-- texts as values
abbrev pub text_values : List (List ℕ) → List Value
text_values = map value.Words
