-- The made pipeline is sound.
use Rattle.std.proofs.Common.{◌≡◌, ℕ, zero, suc, ◌+◌, ◌-◌, ◌≤◌, Bool, true, false, List, [], ◌∷◌, ◌++◌, map, sum, codes, refl, sym, ap, ◌∙◌, arith}
use Rattle.std.specs.Prelude.{nat_lt, if◌then◌else◌, is_some}
use Rattle.std.specs.List.{list_all}
use Rattle.std.specs.Option.{option_and_then}
use Rattle.std.specs.declared.option.Option.{Option}
use Rattle.std.specs.declared.option.Option.TheVariants.{None, Some}
use Rattle.std.proofs.lemmas.Bool.{and_from}
use Rattle.std.proofs.lemmas.List.Sums.{sum_by-cons}
use Rattle.value_core.specs.FunctionKinds.{counted_kind, kind_given}
use Rattle.value_core.specs.Kinds.{literal_kind, literal_layer_kind}
use Rattle.value_core.specs.Parts.{text_values}
use Rattle.value_core.specs.declared.function.Fun.TheVariants as fun
use Rattle.value_core.specs.declared.value.Kind.{Kind, Kind-F, out-Kind, out-roll-Kind, fold-roll-Kind}
use Rattle.value_core.specs.declared.value.Kind.TheVariants as kind
use Rattle.value_core.specs.declared.value.Value.{Value, Value-F}
use Rattle.value_core.specs.declared.value.Value.TheVariants as value
use Rattle.value_core.specs.Codes.{kind_code}
use Rattle.value_core.proofs.Layers.{out_at}
use Rattle.value_core.proofs.Sames.{same_refl}
use Rattle.term_core.specs.Soundness.{IsSound, NamedKind, Nesting, Typing, bind_kind, build_kind, item_kind, item_layer_kind, kind_parts, kind_parts_step, kinds_from, layer_kind, nesting_of, nesting_step, node_kinds, small, term_kind, wanted_kind}
use Rattle.term_core.specs.declared.program.NodeDecl.{NodeDecl}
use Rattle.term_core.specs.declared.program.Program.{Program}
use Rattle.term_core.specs.declared.program.Term.{Term-F}
use Rattle.session_rules.specs.Commands.{building_node, counting_node, digits_from, made_items, made_program}
use Rattle.made_session.proofs.Within.{build_fold, count_fold, counting, made_within}

-- ---- kinds

-- the kind of the input and of the first node
abbrev pub texts : Kind
texts = kind.List kind.Text

out_texts : out-Kind texts ≡ Kind-F.List kind.Text
out_texts = ap out-Kind (sym (kind.rolls-List kind.Text)) ∙ out-roll-Kind (Kind-F.List kind.Text)

text_parts : kind_parts kind.Text ≡ 1
text_parts = ap kind_parts (sym kind.rolls-Text) ∙ fold-roll-Kind ℕ kind_parts_step Kind-F.Text

num_parts : kind_parts kind.Num ≡ 1
num_parts = ap kind_parts (sym kind.rolls-Num) ∙ fold-roll-Kind ℕ kind_parts_step Kind-F.Num

texts_parts : kind_parts texts ≡ 2
texts_parts = ap kind_parts (sym (kind.rolls-List kind.Text)) ∙ fold-roll-Kind ℕ kind_parts_step (Kind-F.List kind.Text) ∙ ap (λ (n : ℕ). 1 + n) text_parts

small_at : (k : Kind) (m : ℕ) → kind_parts k ≡ m → nat_lt 64 m ≡ false → small k ≡ Some k
small_at k m parts few = ap (λ (b : Bool). if b then None else Some k) (ap (nat_lt 64) parts ∙ few)

item_is : item_kind texts ≡ Some kind.Text
item_is = ap item_layer_kind out_texts

counts_texts : kind_given fun.Count texts ≡ Some kind.Num
unfolding kind_given
counts_texts = ap counted_kind out_texts

text_wanted : wanted_kind kind.Text kind.Text ≡ Some kind.Text
text_wanted = ap (λ (b : Bool). if b then Some kind.Text else None) (same_refl kind_code kind.Text)

module _ (n : ℕ) where
  abbrev p : Program
  p = made_program n

  abbrev vs : List Value
  vs = text_values (digits_from 0 (made_items n))

  literal : literal_kind (value.List vs) ≡ texts
  literal = ap literal_layer_kind (out_at (Value-F.List vs) (value.List vs) (value.rolls-List vs))

  -- one layer of a term over the kinds of the earlier nodes
  abbrev layer : List Kind → Term-F Typing → Typing
  layer earlier x bound = option_and_then small (layer_kind p earlier x bound)

  -- ---- the first node

  abbrev bound : List NamedKind
  bound = (codes "x", kind.Text) ∷ []

  input_typed : layer [] (Term-F.Input (codes "xs")) [] ≡ Some texts
  input_typed = ap (λ (k : Kind). small k) literal ∙ small_at texts 2 texts_parts refl

  var_typed : layer [] (Term-F.Var (codes "x")) bound ≡ Some kind.Text
  var_typed = small_at kind.Text 1 text_parts refl

  abbrev var : Typing
  var = layer [] (Term-F.Var (codes "x"))

  build_typed : layer [] (Term-F.Build (codes "f") var) bound ≡ Some kind.Text
  build_typed =
      ap (λ (o : Option Kind). option_and_then small (build_kind o)) var_typed
      ∙ ap (λ (o : Option Kind). option_and_then small (option_and_then (λ k. Some kind.Text) o)) text_wanted
      ∙ small_at kind.Text 1 text_parts refl

  abbrev input : Typing
  input = layer [] (Term-F.Input (codes "xs"))

  abbrev build : Typing
  build = layer [] (Term-F.Build (codes "f") var)

  abbrev listed : Option Kind → Option Kind
  listed items = option_and_then small (option_and_then (λ a. option_and_then (λ b. Some (kind.List b)) (build (bind_kind [] (codes "x") a))) items)

  list_typed : layer [] (Term-F.ListMap (codes "x") input build) [] ≡ Some texts
  list_typed =
      ap (λ (o : Option Kind). listed (option_and_then item_kind o)) input_typed
      ∙ ap listed item_is
      ∙ ap (λ (o : Option Kind). option_and_then small (option_and_then (λ b. Some (kind.List b)) o)) build_typed
      ∙ small_at texts 2 texts_parts refl

  first_typed : term_kind p [] building_node.term [] ≡ Some texts
  unfolding term_kind
  first_typed = ap (λ (c : Typing). c []) (build_fold (layer [])) ∙ list_typed

  -- ---- the nodes after it

  next_typed : (i : ℕ) (ks : List Kind) → term_kind p (texts ∷ ks) (counting_node i).term [] ≡ Some kind.Num
  unfolding term_kind
  next_typed i ks =
      ap (λ (c : Typing). c []) (count_fold (layer (texts ∷ ks)))
      ∙ ap (λ (o : Option Kind). option_and_then small (option_and_then (kind_given fun.Count) o)) (small_at texts 2 texts_parts refl)
      ∙ ap (λ (o : Option Kind). option_and_then small o) counts_texts
      ∙ small_at kind.Num 1 num_parts refl

  nodes_typed : (a k : ℕ) (ks : List Kind) → is_some (kinds_from p (texts ∷ ks) (counting a k)) ≡ true
  nodes_typed a zero ks = refl
  nodes_typed a (suc k) ks =
      ap (λ (o : Option Kind). is_some (option_and_then (λ l. kinds_from p ((texts ∷ ks) ++ l ∷ []) (counting (a + 1) k)) o)) (next_typed a ks)
      ∙ nodes_typed (a + 1) k (ks ++ kind.Num ∷ [])

  made_typed : is_some (node_kinds p) ≡ true
  unfolding node_kinds
  made_typed =
      ap (λ (o : Option Kind). is_some (option_and_then (λ l. kinds_from p (l ∷ []) (counting 1 (n - 1))) o)) first_typed
      ∙ nodes_typed 1 (n - 1) []

-- ---- nesting

count_nests : (i : ℕ) → nesting_of (counting_node i).term 0 ≡ record { fits = true; deep = 0 }
count_nests i = ap (λ (f : ℕ → Nesting). f 0) (count_fold nesting_step)

first_nests : nesting_of building_node.term 0 ≡ record { fits = true; deep = 0 }
first_nests = ap (λ (f : ℕ → Nesting). f 0) (build_fold nesting_step)

all_fit : (a k : ℕ) → list_all (λ (d : NodeDecl). (nesting_of d.term 0).fits) (counting a k) ≡ true
all_fit a zero = refl
all_fit a (suc k) = and_from ((nesting_of (counting_node a).term 0).fits) _ (ap (λ (r : Nesting). r.fits) (count_nests a)) (all_fit (a + 1) k)

abbrev deep_of : NodeDecl → ℕ
deep_of d = (nesting_of d.term 0).deep

none_deep : (a k : ℕ) → sum (map deep_of (counting a k)) ≡ 0
none_deep a zero = refl
none_deep a (suc k) =
    let one : deep_of (counting_node a) ≡ 0 = ap (λ (r : Nesting). r.deep) (count_nests a) in
    let rest = none_deep (a + 1) k in
    let both : sum (map deep_of (counting a (suc k))) ≡ deep_of (counting_node a) + sum (map deep_of (counting (a + 1) k)) = sum_by-cons (λ n. n) (deep_of (counting_node a)) (map deep_of (counting (a + 1) k)) in
    omega (arith, one, rest, both)

pub made_sound : (n : ℕ) → 1 ≤ n → n ≤ 1000 → IsSound (made_program n)
made_sound n some few =
    let one : deep_of building_node ≡ 0 = ap (λ (r : Nesting). r.deep) first_nests in
    let rest = none_deep 1 (n - 1) in
    let both : sum (map deep_of (made_program n).nodes) ≡ deep_of building_node + sum (map deep_of (counting 1 (n - 1))) = sum_by-cons (λ n. n) (deep_of building_node) (map deep_of (counting 1 (n - 1))) in
    record {
      within = made_within n some few;
      clients = refl;
      workers = refl;
      ops = refl;
      nesting = and_from ((nesting_of building_node.term 0).fits) _ (ap (λ (r : Nesting). r.fits) first_nests) (all_fit 1 (n - 1));
      few_deep = omega (arith, one, rest, both);
      kinds = made_typed n;
    }
