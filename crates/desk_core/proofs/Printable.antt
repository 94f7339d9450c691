-- The inputs of a state are printed in a form that is read back.
use Rattle.std.proofs.Common.{◌≡◌, ℕ, zero, suc, true, List, [], ◌∷◌, length, map, Option, Some, None, ap, sym, ◌∙◌}
use Rattle.std.specs.Prelude.{nat_le, slice_set}
use Rattle.std.specs.List.{AllByRecursion, list_all}
use Rattle.std.proofs.lemmas.List.{length-map}
use Rattle.value_core.specs.declared.value.Kind.{Kind-F}
use Rattle.value_core.specs.declared.value.Kind.TheVariants as kind
use Rattle.value_core.specs.declared.value.Outcome.{Outcome}
use Rattle.value_core.specs.declared.value.Value.{Value, Value-F, out-Value}
use Rattle.value_core.specs.Kinds.{literal_kind, literal_layer_kind}
use Rattle.value_core.specs.Values.{fits_kind, layer_fits}
use Rattle.value_core.proofs.Basics.{and_both, and_parts}
use Rattle.value_core.proofs.Layers.{fits_layer}
use Rattle.term_core.specs.Limits.{IsInputWithin, fits_watch, is_input_layer, is_text, is_text_layer}
use Rattle.term_core.specs.declared.program.InputDecl.{InputDecl}
use Rattle.term_check.specs.Bounds.{AreProperInputs, IsProper, is_bounded}
use Rattle.term_check.proofs.Small.{bounded_out, layer_bounded}
use Rattle.keeper_core.specs.Chains.{ArePrintable}
use Rattle.keeper_core.specs.Printables.{IsPrintable, has_texts}
use Rattle.desk_core.specs.Laws.{HaveTexts}

-- ---- a value of a declared input's kind is a text, a number or a list of texts

declared_layer : (o : Option (List ℕ)) (v : Value) → fits_watch o v ≡ true → is_input_layer (out-Value v) ≡ true
declared_layer None v h = h
declared_layer (Some path) v h = text_layer (out-Value v) (and_parts (is_text path) (is_text_layer (out-Value v)) h).1
  where
    text_layer : (l : Value-F Outcome Value) → is_text_layer l ≡ true → is_input_layer l ≡ true
    text_layer (Value-F.Words t) h = h
    text_layer (Value-F.Num n) h = absurd cc
    text_layer Value-F.Unit h = absurd cc
    text_layer (Value-F.Pair a b) h = absurd cc
    text_layer (Value-F.List xs) h = absurd cc
    text_layer (Value-F.Out o) h = absurd cc

text_of_kind : (l : Value-F Outcome Value) → layer_fits Kind-F.Text l ≡ true → layer_bounded l ≡ true → is_text_layer l ≡ true
text_of_kind (Value-F.Words t) f b = b
text_of_kind (Value-F.Num n) f b = absurd cc
text_of_kind Value-F.Unit f b = absurd cc
text_of_kind (Value-F.Pair x y) f b = absurd cc
text_of_kind (Value-F.List xs) f b = absurd cc
text_of_kind (Value-F.Out o) f b = absurd cc

texts_of_kind : (xs : List Value) → list_all (fits_kind kind.Text) xs ≡ true → list_all (λ b. b) (map is_bounded xs) ≡ true → list_all (λ x. is_text_layer (out-Value x)) xs ≡ true
texts_of_kind [] f b = b
texts_of_kind (x ∷ xs) f b =
    let p = and_parts (fits_kind kind.Text x) (list_all (fits_kind kind.Text) xs) f in
    let q = and_parts (is_bounded x) (list_all (λ b. b) (map is_bounded xs)) b in
    and_both (is_text_layer (out-Value x)) (list_all (λ x. is_text_layer (out-Value x)) xs)
    (text_of_kind (out-Value x) (sym (fits_layer Kind-F.Text kind.Text kind.rolls-Text x) ∙ p.0) (sym (bounded_out x) ∙ q.0)) (texts_of_kind xs p.1 q.1)

text_input : (l : Value-F Outcome Value) → layer_fits Kind-F.Text l ≡ true → layer_bounded l ≡ true → is_input_layer l ≡ true
text_input (Value-F.Words t) f b = b
text_input (Value-F.Num n) f b = absurd cc
text_input Value-F.Unit f b = absurd cc
text_input (Value-F.Pair x y) f b = absurd cc
text_input (Value-F.List xs) f b = absurd cc
text_input (Value-F.Out o) f b = absurd cc

num_input : (l : Value-F Outcome Value) → layer_fits Kind-F.Num l ≡ true → layer_bounded l ≡ true → is_input_layer l ≡ true
num_input (Value-F.Num n) f b = b
num_input (Value-F.Words t) f b = absurd cc
num_input Value-F.Unit f b = absurd cc
num_input (Value-F.Pair x y) f b = absurd cc
num_input (Value-F.List xs) f b = absurd cc
num_input (Value-F.Out o) f b = absurd cc

list_input : (l : Value-F Outcome Value) → layer_fits (Kind-F.List (fits_kind kind.Text)) l ≡ true → layer_bounded l ≡ true → is_input_layer l ≡ true
list_input (Value-F.List xs) f b =
    let p = and_parts (nat_le (length (map is_bounded xs)) 256) (list_all (λ b. b) (map is_bounded xs)) b in
    and_both (nat_le (length xs) 256) (list_all (λ x. is_text_layer (out-Value x)) xs) (ap (λ (n : ℕ). nat_le n 256) (sym (length-map xs is_bounded)) ∙ p.0) (texts_of_kind xs f p.1)
list_input (Value-F.Words t) f b = absurd cc
list_input (Value-F.Num n) f b = absurd cc
list_input Value-F.Unit f b = absurd cc
list_input (Value-F.Pair x y) f b = absurd cc
list_input (Value-F.Out o) f b = absurd cc

input_of_kind : (declared : Value-F Outcome Value) (v : Value) → is_input_layer declared ≡ true → fits_kind (literal_layer_kind declared) v ≡ true → layer_bounded (out-Value v) ≡ true → is_input_layer (out-Value v) ≡ true
input_of_kind (Value-F.Words t) v h f b = text_input (out-Value v) (sym (fits_layer Kind-F.Text kind.Text kind.rolls-Text v) ∙ f) b
input_of_kind (Value-F.Num n) v h f b = num_input (out-Value v) (sym (fits_layer Kind-F.Num kind.Num kind.rolls-Num v) ∙ f) b
input_of_kind (Value-F.List xs) v h f b = list_input (out-Value v) (sym (fits_layer (Kind-F.List kind.Text) (kind.List kind.Text) (kind.rolls-List kind.Text) v) ∙ f) b
input_of_kind Value-F.Unit v h f b = absurd cc
input_of_kind (Value-F.Pair x y) v h f b = absurd cc
input_of_kind (Value-F.Out o) v h f b = absurd cc

-- ---- inputs

pub is_printable : (d : InputDecl) (v : Value) → IsInputWithin d → IsProper (literal_kind d.value) v → has_texts v ≡ true → IsPrintable v
is_printable d v w p texts = record {
  literal = record { within = input_of_kind (out-Value d.value) v (declared_layer d.watch d.value w.value) p.of_kind (sym (bounded_out v) ∙ p.bounded); light = p.light };
  texts = texts;
}

pub are_printable : (ds : List InputDecl) (vs : List Value) → AllByRecursion IsInputWithin ds → AreProperInputs ds vs → HaveTexts vs → ArePrintable ds vs
are_printable [] [] w p t = tt
are_printable [] (v ∷ vs) w p t = absurd p
are_printable (d ∷ ds) [] w p t = absurd p
are_printable (d ∷ ds) (v ∷ vs) w p t = (p.0.of_kind, is_printable d v w.0 p.0 t.0, are_printable ds vs w.1 p.1 t.1)

-- with a value at an index
pub texts_set : (vs : List Value) (i : ℕ) (v : Value) → HaveTexts vs → has_texts v ≡ true → HaveTexts (slice_set vs i v)
texts_set [] i v t h = tt
texts_set (w ∷ vs) zero v t h = (h, t.1)
texts_set (w ∷ vs) (suc i) v t h = (t.0, texts_set vs i v t.1 h)
