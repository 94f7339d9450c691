-- The kinds of literals.
use Rattle.value_core.specs.declared.value.Kind.{Kind}
use Rattle.value_core.specs.declared.value.Kind.TheVariants as kind
use Rattle.value_core.specs.declared.value.Outcome.{Outcome}
use Rattle.value_core.specs.declared.value.Value.{Value, Value-F, out-Value}

-- the kind of a literal's layer; a list is a list of texts, and what is no literal counts as unit
abbrev pub literal_layer_kind : Value-F Outcome Value → Kind
literal_layer_kind (Value-F.Words t) = kind.Text
literal_layer_kind (Value-F.Num n) = kind.Num
literal_layer_kind (Value-F.List xs) = kind.List kind.Text
literal_layer_kind v = kind.Unit

-- the kind of a literal
abbrev pub literal_kind : Value → Kind
literal_kind v = literal_layer_kind (out-Value v)
