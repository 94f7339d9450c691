-- Lists of the made pipeline, one item longer.
use Rattle.std.proofs.lemmas.List.{append-nil}
use Rattle.std.proofs.Common.{append_assoc, zero, suc, ◌≡◌, ℕ, ◌+◌, ◌-◌, ◌≤◌, List, [], ◌∷◌, ◌++◌, map, decimal, refl, sym, ap, ◌∙◌, arith}
use Rattle.std.specs.List.{flat_map, range_with_len}
use Rattle.std.proofs.lemmas.List.FromFn.{map-range_with_len_more}
use Rattle.value_core.specs.declared.value.Value.{Value}
use Rattle.value_core.specs.declared.value.Value.TheVariants as value
use Rattle.value_core.specs.Parts.{text_values}
use Rattle.term_core.specs.declared.program.NodeDecl.{NodeDecl}
use Rattle.session_rules.specs.Commands.{building_node, counting_node, digits_from}

words_append : (xs : List (List ℕ)) (t : List ℕ) → text_values xs ++ value.Words t ∷ [] ≡ text_values (xs ++ t ∷ [])
words_append [] t = refl
words_append (x ∷ xs) t = ap (λ (vs : List Value). value.Words x ∷ vs) (words_append xs t)

pub digits_more : (first n : ℕ) → text_values (digits_from first n) ++ value.Words (decimal (first + n)) ∷ [] ≡ text_values (digits_from first (n + 1))
digits_more first n = words_append (digits_from first n) (decimal (first + n)) ∙ ap text_values (sym (map-range_with_len_more decimal first n (first + n) refl))

pub nodes_more : (n : ℕ) → 1 ≤ n → (building_node ∷ map counting_node (range_with_len 1 (n - 1))) ++ counting_node n ∷ [] ≡ building_node ∷ map counting_node (range_with_len 1 (n + 1 - 1))
nodes_more n some =
    let same : n + 1 - 1 ≡ (n - 1) + 1 = omega (arith, some) in
    ap (λ (ds : List NodeDecl). building_node ∷ ds) (sym (map-range_with_len_more counting_node 1 (n - 1) n (omega (arith, some))) ∙ ap (λ (k : ℕ). map counting_node (range_with_len 1 k)) (sym same))

-- the lines up to one more number
pub flat_more : (f : ℕ → List ℕ) (a n : ℕ) → flat_map f (range_with_len a (n + 1)) ≡ flat_map f (range_with_len a n) ++ f (a + n)
flat_more f a n = ap (λ (k : ℕ). flat_map f (range_with_len a k)) (let same : n + 1 ≡ suc n = omega arith in same) ∙ flat_next f a n
  where
    flat_next : (f : ℕ → List ℕ) (a n : ℕ) → flat_map f (range_with_len a (suc n)) ≡ flat_map f (range_with_len a n) ++ f (a + n)
    flat_next f a zero = append-nil (f a) ∙ ap f (let same : a ≡ a + 0 = omega arith in same)
    flat_next f a (suc n) =
        ap (λ (t : List ℕ). f a ++ t) (flat_next f (a + 1) n)
        ∙ ap (λ (k : ℕ). f a ++ (flat_map f (range_with_len (a + 1) n) ++ f k)) (let same : a + 1 + n ≡ a + suc n = omega arith in same)
        ∙ sym (append_assoc (f a) (flat_map f (range_with_len (a + 1) n)) (f (a + suc n)))
