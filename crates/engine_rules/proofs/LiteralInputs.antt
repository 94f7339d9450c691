-- The declared values of inputs are proper.
use Rattle.std.proofs.Common.{◌≡◌, ℕ, List, true, Option, Some, None}
use Rattle.value_core.specs.declared.value.Outcome.{Outcome}
use Rattle.value_core.specs.declared.value.Value.{Value, Value-F, out-Value}
use Rattle.value_core.specs.Kinds.{literal_kind}
use Rattle.value_core.specs.Values.{weight_of}
use Rattle.value_core.proofs.Basics.{and_both, and_parts, is_nat_le}
use Rattle.term_core.specs.Limits.{IsInputWithin, fits_watch, is_input_layer, is_literal_layer, is_text, is_text_layer}
use Rattle.term_core.specs.States.{weight_limit}
use Rattle.term_core.specs.declared.program.InputDecl.{InputDecl}
use Rattle.term_check.specs.Bounds.{IsProper}
use Rattle.term_check.proofs.Proper.{literal_proper}

text_is_input : (l : Value-F Outcome Value) → is_text_layer l ≡ true → is_input_layer l ≡ true
text_is_input (Value-F.Words t) h = h
text_is_input (Value-F.Num n) h = absurd cc
text_is_input Value-F.Unit h = absurd cc
text_is_input (Value-F.Pair a b) h = absurd cc
text_is_input (Value-F.List xs) h = absurd cc
text_is_input (Value-F.Out o) h = absurd cc

input_is_literal : (l : Value-F Outcome Value) → is_input_layer l ≡ true → is_literal_layer l ≡ true
input_is_literal (Value-F.Words t) h = h
input_is_literal (Value-F.Num n) h = h
input_is_literal Value-F.Unit h = absurd cc
input_is_literal (Value-F.Pair a b) h = absurd cc
input_is_literal (Value-F.List xs) h = h
input_is_literal (Value-F.Out o) h = absurd cc

watched : (o : Option (List ℕ)) (v : Value) → fits_watch o v ≡ true → is_input_layer (out-Value v) ≡ true
watched (Some path) v h = text_is_input (out-Value v) (and_parts (is_text path) (is_text_layer (out-Value v)) h).1
watched None v h = h

pub declared_proper : (d : InputDecl) → IsInputWithin d → IsProper (literal_kind d.value) d.value
declared_proper d h =
    literal_proper d.value (and_both (is_literal_layer (out-Value d.value)) _ (input_is_literal (out-Value d.value) (watched d.watch d.value h.value)) (is_nat_le (weight_of d.value) weight_limit h.weight))
