-- Which values of inputs are read back from their printed form.
use Rattle.std.specs.Prelude.{◌≡◌, Bool, true, Some}
use Rattle.std.specs.List.{list_all}
use Rattle.value_core.specs.declared.value.Outcome.{Outcome}
use Rattle.value_core.specs.declared.value.Value.{Value, Value-F, out-Value}
use Rattle.value_core.specs.Literals.{literal_read}
use Rattle.value_core.specs.Printed.{printed}
use Rattle.value_core.specs.Texts.{is_text}
use Rattle.keeper_core.specs.Openings.{IsLiteralValue}

-- whether the text of a layer, if it is one, is UTF-8 without NUL
abbrev pub is_text_item : Value-F Outcome Value → Bool
is_text_item (Value-F.Words t) = is_text t
is_text_item v = true

-- whether the text of a layer, or each of a list's items, is UTF-8 without NUL
abbrev pub has_texts_layer : Value-F Outcome Value → Bool
has_texts_layer (Value-F.Words t) = is_text t
has_texts_layer (Value-F.List xs) = list_all (λ x. is_text_item (out-Value x)) xs
has_texts_layer v = true

-- whether a literal's texts are UTF-8 without NUL, as the type of a text keeps it
abbrev pub has_texts : Value → Bool
has_texts v = has_texts_layer (out-Value v)

-- a text, a number or a list of texts within the limits, whose texts are UTF-8 without NUL
pub record IsPrintable (v : Value) : Type 0 where
  pub literal : IsLiteralValue v
  pub texts : has_texts v ≡ true

-- such a value is what its printed form is read as
abbrev pub PrintedIsRead : Type 0
PrintedIsRead = (v : Value) → IsPrintable v → literal_read (printed v) ≡ Some v
