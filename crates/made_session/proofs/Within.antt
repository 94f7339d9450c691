-- The made pipeline is within the limits.
use Rattle.std.proofs.Common.{◌≡◌, ℕ, zero, suc, ◌+◌, ◌-◌, ◌*◌, ◌^◌, ◌<◌, ◌≤◌, ◌%◌, Bool, true, false, List, [], ◌∷◌, ◌++◌, length, map, sum, codes, decimal, refl, sym, ap, ◌∙◌, arith}
use Rattle.std.specs.Prelude.{None, nat_le, nat_lt, ◌&&◌}
use Rattle.std.specs.List.{AllByRecursion, list_all, list_any, range_with_len}
use Rattle.std.specs.Str.{bytes_eq}
use Rattle.std.proofs.lemmas.Bool.{and_from, and_parts, le-leb}
use Rattle.std.proofs.lemmas.Fmt.{decimal_by_steps, decimal_injective, length-decimal-le}
use Rattle.std.proofs.lemmas.List.Sums.{sum_by-cons}
use Rattle.std.proofs.lemmas.List.FromFn.{length-map-range_with_len}
use Rattle.value_core.specs.Names.{is_letter, is_name, is_word_byte}
use Rattle.value_core.specs.Parts.{text_values}
use Rattle.value_core.specs.Values.{weight_of}
use Rattle.value_core.specs.declared.function.Fun.TheVariants as fun
use Rattle.value_core.specs.declared.value.Value.{Value, Value-F, out-Value}
use Rattle.value_core.specs.declared.value.Value.TheVariants as value
use Rattle.value_core.proofs.Basics.{bytes_same, is_nat_lt}
use Rattle.value_core.proofs.Layers.{list_weight, out_at, words_weight}
use Rattle.op_keys.specs.Names.{are_apart}
use Rattle.term_core.specs.Limits.{IsInputWithin, IsNodeWithin, IsWithinLimits, depth_of, greatest, is_input_layer, is_text_layer, parts_of, terms_in, words_step}
use Rattle.term_core.specs.declared.program.NodeDecl.{NodeDecl}
use Rattle.term_core.specs.declared.program.Term.{Term-F, fold-Term, fold-roll-Term}
use Rattle.term_core.specs.declared.program.Term.TheVariants as term
use Rattle.session_rules.specs.Commands.{building_node, counting_node, digits_from, made_items, made_program}

-- a sum from its first number on
first_of : (x : ℕ) (xs : List ℕ) → sum (x ∷ xs) ≡ x + sum xs
first_of x xs = sum_by-cons (λ n. n) x xs

-- ---- terms, layer by layer

module _ {A : Type 0} (step : Term-F A → A) where
  -- the term of a node that counts
  pub count_fold : fold-Term A step (term.Map fun.Count (term.Node (codes "n0"))) ≡ step (Term-F.Map fun.Count (step (Term-F.Node (codes "n0"))))
  count_fold =
      let node : fold-Term A step (term.Node (codes "n0")) ≡ step (Term-F.Node (codes "n0")) = ap (fold-Term A step) (sym (term.rolls-Node (codes "n0"))) ∙ fold-roll-Term A step (Term-F.Node (codes "n0")) in
      ap (fold-Term A step) (sym (term.rolls-Map fun.Count (term.Node (codes "n0")))) ∙ fold-roll-Term A step (Term-F.Map fun.Count (term.Node (codes "n0"))) ∙ ap (λ (a : A). step (Term-F.Map fun.Count a)) node

  -- the term of the first node
  pub build_fold : fold-Term A step building_node.term ≡ step (Term-F.ListMap (codes "x") (step (Term-F.Input (codes "xs"))) (step (Term-F.Build (codes "f") (step (Term-F.Var (codes "x"))))))
  build_fold =
      let var : fold-Term A step (term.Var (codes "x")) ≡ step (Term-F.Var (codes "x")) = ap (fold-Term A step) (sym (term.rolls-Var (codes "x"))) ∙ fold-roll-Term A step (Term-F.Var (codes "x")) in
      let input : fold-Term A step (term.Input (codes "xs")) ≡ step (Term-F.Input (codes "xs")) = ap (fold-Term A step) (sym (term.rolls-Input (codes "xs"))) ∙ fold-roll-Term A step (Term-F.Input (codes "xs")) in
      let build : fold-Term A step (term.Build (codes "f") (term.Var (codes "x"))) ≡ step (Term-F.Build (codes "f") (step (Term-F.Var (codes "x")))) =
      ap (fold-Term A step) (sym (term.rolls-Build (codes "f") (term.Var (codes "x")))) ∙ fold-roll-Term A step (Term-F.Build (codes "f") (term.Var (codes "x"))) ∙ ap (λ (a : A). step (Term-F.Build (codes "f") a)) var in
      ap (fold-Term A step) (sym (term.rolls-ListMap (codes "x") (term.Input (codes "xs")) (term.Build (codes "f") (term.Var (codes "x")))))
      ∙ fold-roll-Term A step (Term-F.ListMap (codes "x") (term.Input (codes "xs")) (term.Build (codes "f") (term.Var (codes "x"))))
      ∙ (λ i. step (Term-F.ListMap (codes "x") (input i) (build i)))

-- ---- numbers as texts

pub short : (i : ℕ) → i ≤ 1000 → length (decimal i) ≤ 4
short i few =
    let below : i < 10 ^ 4 = omega (arith, few) in
    let small : i < 2 ^ 64 = omega (arith, few) in
    length-decimal-le 4 i (omega arith) below small

letter_no : (d : ℕ) → d < 10 → is_letter (48 + d) ≡ false
letter_no d few = ap (λ (b : Bool). b && nat_lt (48 + d) 123) (not_over d few)
  where
    not_over : (d : ℕ) → d < 10 → nat_lt 96 (48 + d) ≡ false
    not_over d few = grind (arith, few)

digit_word : (d : ℕ) → d < 10 → is_word_byte (48 + d) ≡ true
digit_word d few =
    let low : nat_lt 47 (48 + d) ≡ true = is_nat_lt 47 (48 + d) (omega arith) in
    let high : nat_lt (48 + d) 58 ≡ true = is_nat_lt (48 + d) 58 (omega (arith, few)) in
    rw (letter_no d few, low, high) refl

all_append : (xs ys : List ℕ) → list_all is_word_byte xs ≡ true → list_all is_word_byte ys ≡ true → list_all is_word_byte (xs ++ ys) ≡ true
all_append [] ys first second = second
all_append (x ∷ xs) ys first second =
    let parts = and_parts (is_word_byte x) (list_all is_word_byte xs) first in
    and_from (is_word_byte x) (list_all is_word_byte (xs ++ ys)) parts.0 (all_append xs ys parts.1 second)

digits_word : (n : ℕ) → n < 2 ^ 64 → list_all is_word_byte (decimal n) ≡ true
digits_word n small = decimal_by_steps (λ m ds. list_all is_word_byte ds ≡ true)
    (λ m k. and_from (is_word_byte (48 + m)) true (digit_word m k) refl)
    (λ m ds k e. all_append ds ((48 + m % 10) ∷ []) e (and_from (is_word_byte (48 + m % 10)) true (digit_word (m % 10) (omega arith)) refl)) n small

name_good : (i : ℕ) → i ≤ 1000 → is_name (codes "n" ++ decimal i) ≡ true
name_good i few =
    let brief : length (decimal i) ≤ 4 = short i few in
    and_from (is_letter 110) _ refl (and_from (list_all is_word_byte (decimal i)) (nat_le (length (110 ∷ decimal i)) 64) (digits_word i (omega (arith, few))) (le-leb (length (110 ∷ decimal i)) 64 (omega (arith, brief))))

tail_same : (xs ys : List ℕ) → 110 ∷ xs ≡ 110 ∷ ys → xs ≡ ys
tail_same xs ys e = cc

names_differ : (i j : ℕ) → i < j → j ≤ 1000 → bytes_eq (codes "n" ++ decimal i) (codes "n" ++ decimal j) ≡ false
names_differ i j less few = elim (bytes_eq (codes "n" ++ decimal i) (codes "n" ++ decimal j)) as (λ b. bytes_eq (codes "n" ++ decimal i) (codes "n" ++ decimal j) ≡ b → b ≡ false) [
  | true ↦ λ e.
      let same : i ≡ j = decimal_injective i j (omega (arith, less, few)) (omega (arith, few)) (tail_same (decimal i) (decimal j) (bytes_same (codes "n" ++ decimal i) (codes "n" ++ decimal j) e)) in
      let no : ⊥ = omega (arith, same, less) in
      absurd no
  | false ↦ λ e. refl
] refl

-- ---- nodes

abbrev name_of : NodeDecl → List ℕ
name_of d = d.name

abbrev pub counting : ℕ → ℕ → List NodeDecl
counting a k = map counting_node (range_with_len a k)

none_named : (i a k : ℕ) → i < a → a + k ≤ 1001 → list_any (bytes_eq (codes "n" ++ decimal i)) (map name_of (counting a k)) ≡ false
none_named i a zero less few = refl
none_named i a (suc k) less few = rw (names_differ i a less (omega (arith, few)), none_named i (a + 1) k (omega (arith, less)) (omega (arith, few))) refl

names_apart : (a k : ℕ) → a + k ≤ 1001 → are_apart (map name_of (counting a k)) ≡ true
names_apart a zero few = refl
names_apart a (suc k) few = rw (none_named a (a + 1) k (omega arith) (omega (arith, few)), names_apart (a + 1) k (omega (arith, few))) refl

zero_is : decimal 0 ≡ 48 ∷ []
zero_is = decimal_by_steps (λ m ds. m < 10 → ds ≡ (48 + m) ∷ []) (λ m k l. refl) (λ m ds k e l. (let no : ⊥ = omega (arith, k, l) in absurd no)) 0 (omega arith) (omega arith)

first_apart : (a k : ℕ) → 1 ≤ a → a + k ≤ 1001 → list_any (bytes_eq (codes "n0")) (map name_of (counting a k)) ≡ false
first_apart a k some few = ap (λ (t : List ℕ). list_any (bytes_eq (110 ∷ t)) (map name_of (counting a k))) (sym zero_is) ∙ none_named 0 a k (omega (arith, some)) few

two_terms : (i : ℕ) → terms_in (counting_node i).term ≡ 2
two_terms i = count_fold (λ x. 1 + sum (parts_of x))

few_terms : (a k : ℕ) → sum (map (λ (d : NodeDecl). terms_in d.term) (counting a k)) ≡ 2 * k
few_terms a zero = refl
few_terms a (suc k) =
    let one = two_terms a in
    let rest = few_terms (a + 1) k in
    let both : sum (map (λ (d : NodeDecl). terms_in d.term) (counting a (suc k))) ≡ terms_in (counting_node a).term + sum (map (λ (d : NodeDecl). terms_in d.term) (counting (a + 1) k)) = first_of (terms_in (counting_node a).term) (map (λ (d : NodeDecl). terms_in d.term) (counting (a + 1) k)) in
    omega (arith, one, rest, both)

node_within : (i : ℕ) → i ≤ 1000 → IsNodeWithin (counting_node i)
node_within i few =
    let depth : depth_of (counting_node i).term ≡ 2 = count_fold (λ x. 1 + greatest (parts_of x)) in
    record { name = name_good i few; words = count_fold words_step; depth = omega (arith, depth) }

nodes_within : (a k : ℕ) → a + k ≤ 1001 → AllByRecursion IsNodeWithin (counting a k)
nodes_within a zero few = tt
nodes_within a (suc k) few = (node_within a (omega (arith, few)), nodes_within (a + 1) k (omega (arith, few)))

first_within : IsNodeWithin building_node
first_within =
    let depth : depth_of building_node.term ≡ 3 = build_fold (λ x. 1 + greatest (parts_of x)) in
    record { name = refl; words = build_fold words_step; depth = omega (arith, depth) }

-- ---- the input

text_fits : (a k : ℕ) → a + k ≤ 1001 → list_all (λ x. is_text_layer (out-Value x)) (text_values (digits_from a k)) ≡ true
text_fits a zero few = refl
text_fits a (suc k) few =
    let brief : length (decimal a) ≤ 4 = short a (omega (arith, few)) in
    let one : is_text_layer (out-Value (value.Words (decimal a))) ≡ true =
    ap is_text_layer (out_at (Value-F.Words (decimal a)) (value.Words (decimal a)) (value.rolls-Words (decimal a))) ∙ le-leb (length (decimal a)) 65536 (omega (arith, brief)) in
    and_from (is_text_layer (out-Value (value.Words (decimal a)))) _ one (text_fits (a + 1) k (omega (arith, few)))

light : (a k : ℕ) → a + k ≤ 1001 → sum (map weight_of (text_values (digits_from a k))) ≤ 5 * k
light a zero few = omega arith
light a (suc k) few =
    let brief : length (decimal a) ≤ 4 = short a (omega (arith, few)) in
    let one = words_weight (decimal a) in
    let rest = light (a + 1) k (omega (arith, few)) in
    let both : sum (map weight_of (text_values (digits_from a (suc k)))) ≡ weight_of (value.Words (decimal a)) + sum (map weight_of (text_values (digits_from (a + 1) k))) = first_of (weight_of (value.Words (decimal a))) (map weight_of (text_values (digits_from (a + 1) k))) in
    omega (arith, brief, one, rest, both)

pub values_length : (a k : ℕ) → length (text_values (digits_from a k)) ≡ k
values_length a zero = refl
values_length a (suc k) = let rest = values_length (a + 1) k in omega (arith, rest)

pub input_within : (a k : ℕ) → k ≤ 256 → a + k ≤ 1001 → IsInputWithin (record { name = codes "xs"; value = value.List (text_values (digits_from a k)); watch = None })
input_within a k items few =
    let vs : List Value = text_values (digits_from a k) in
    let many : length vs ≡ k = values_length a k in
    let heavy = list_weight vs in
    let rest = light a k few in
    record {
      name = refl;
      value = ap is_input_layer (out_at (Value-F.List vs) (value.List vs) (value.rolls-List vs)) ∙ and_from (nat_le (length vs) 256) _ (le-leb (length vs) 256 (omega (arith, many, items))) (text_fits a k few);
      weight = omega (arith, heavy, rest, items);
    }

-- ---- the whole pipeline

pub made_within : (n : ℕ) → 1 ≤ n → n ≤ 1000 → IsWithinLimits (made_program n)
made_within n some few =
    let count : length (counting 1 (n - 1)) ≡ n - 1 = length-map-range_with_len counting_node 1 (n - 1) in
    let items : made_items n ≤ 256 = omega arith in
    let first : terms_in building_node.term ≡ 4 = build_fold (λ x. 1 + sum (parts_of x)) in
    let rest = few_terms 1 (n - 1) in
    let both : sum (map (λ (d : NodeDecl). terms_in d.term) (made_program n).nodes) ≡ terms_in building_node.term + sum (map (λ (d : NodeDecl). terms_in d.term) (counting 1 (n - 1))) = first_of (terms_in building_node.term) (map (λ (d : NodeDecl). terms_in d.term) (counting 1 (n - 1))) in
    record {
      few_inputs = omega arith;
      few_pools = omega arith;
      few_clients = omega arith;
      few_workers = omega arith;
      few_ops = omega arith;
      few_nodes = omega (arith, count, some, few);
      few_terms = omega (arith, first, rest, few, both);
      inputs_apart = refl;
      pools_apart = refl;
      clients_apart = refl;
      workers_apart = refl;
      ops_apart = refl;
      nodes_apart = rw (first_apart 1 (n - 1) (omega arith) (omega (arith, some, few)), names_apart 1 (n - 1) (omega (arith, some, few))) refl;
      inputs = (input_within 0 (made_items n) items (omega (arith, items)), tt);
      pools = (record { name = refl; hold = omega arith }, tt);
      clients = (record { name = refl; pool = refl; some_rate = omega arith; rate = omega arith }, tt);
      workers = (record { name = refl; pool = refl; some_capacity = omega arith; capacity = omega arith }, tt);
      ops = (
        record {
          name = refl;
          pool = refl;
          client = refl;
          full = omega arith;
          cached = omega arith;
          hint = refl;
          expiry = tt;
          some_words = omega arith;
          few_words = omega arith;
          words = refl;
        },
        tt,
      );
      nodes = (first_within, nodes_within 1 (n - 1) (omega (arith, some, few)));
    }
