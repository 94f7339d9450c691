-- What is printed of an input's value is read as that value.
use Rattle.std.proofs.Common.{◌≡◌, ◌≤◌, ℕ, true, cond, List, [], ◌∷◌, ◌++◌, map, length, Some, None, refl, sym, ap, subst, ◌∙◌, append_assoc}
use Rattle.std.proofs.lemmas.List.{length-map}
use Rattle.std.specs.Prelude.{codes, nat_le}
use Rattle.std.specs.Fmt.{decimal}
use Rattle.std.specs.List.{AllByRecursion, list_all}
use Rattle.std.specs.Str.{is_utf8}
use Rattle.value_core.specs.declared.token.Token.{Token}
use Rattle.value_core.specs.declared.token.Token.TheVariants.{Mark, Number, Words}
use Rattle.value_core.specs.declared.value.Outcome.{Outcome}
use Rattle.value_core.specs.declared.value.Value.{Value, Value-F, fold-roll-Value, out-Value, roll-Value, roll-out-Value}
use Rattle.value_core.specs.declared.value.Value.TheVariants as value
use Rattle.value_core.specs.Literals.{ended_literal, item_texts, light, list_literal, list_texts, literal_of, literal_read, with_text}
use Rattle.value_core.specs.Parts.{text_values}
use Rattle.value_core.specs.Printed.{following, outcome_text_step, printed, quoted, separated, value_text_step}
use Rattle.value_core.specs.Texts as texts
use Rattle.value_core.specs.Texts.{no_nul}
use Rattle.value_core.specs.Values.{weight_of}
use Rattle.value_core.proofs.Basics.{and_parts, nat_le_is, not_nat_lt}
use Rattle.term_core.specs.Limits.{is_input_layer, is_text, is_text_layer}
use Rattle.pipe_text.proofs.GoodTokens.{IsGood}
use Rattle.pipe_text.proofs.PrintedLines.{Lexes}
use Rattle.keeper_core.specs.Printables.{IsPrintable, has_texts_layer, is_text_item}
use Rattle.pipe_text.proofs.PrintedLines.{lex_blank, lex_end}
use Rattle.keeper_core.proofs.LexedTexts.{lexed_whole, mark_lexes, number_alone, text_alone, text_lexes}

-- ---- printed forms

words_printed : (t : List ℕ) → printed (value.Words t) ≡ quoted t
words_printed t = ap printed (sym (value.rolls-Words t)) ∙ fold-roll-Value (List ℕ) (List ℕ) outcome_text_step value_text_step (Value-F.Words t)

num_printed : (n : ℕ) → printed (value.Num n) ≡ decimal n
num_printed n = ap printed (sym (value.rolls-Num n)) ∙ fold-roll-Value (List ℕ) (List ℕ) outcome_text_step value_text_step (Value-F.Num n)

list_printed : (xs : List Value) → printed (value.List xs) ≡ codes "[" ++ (separated (map printed xs) ++ codes "]")
list_printed xs = ap printed (sym (value.rolls-List xs)) ∙ fold-roll-Value (List ℕ) (List ℕ) outcome_text_step value_text_step (Value-F.List xs)

texts_printed : (ts : List (List ℕ)) → map printed (text_values ts) ≡ map quoted ts
texts_printed [] = refl
texts_printed (t ∷ ts) = λ i. words_printed t i ∷ texts_printed ts i

-- ---- their tokens

AreGood : List (List ℕ) → Type 0
AreGood = AllByRecursion (λ (t : List ℕ). IsGood (Words t))

-- texts after commas, and the bracket that closes
more_tokens : List (List ℕ) → List Token
more_tokens [] = Mark 93 ∷ []
more_tokens (t ∷ ts) = Mark 44 ∷ Words t ∷ more_tokens ts

-- texts with a comma between two, and the bracket that closes
items : List (List ℕ) → List Token
items [] = Mark 93 ∷ []
items (t ∷ ts) = Words t ∷ more_tokens ts

more_lexes : (ts : List (List ℕ)) → AreGood ts → Lexes (following (map quoted ts) ++ codes "]") (more_tokens ts)
unfolding AreGood more_tokens
more_lexes [] h = mark_lexes 93 [] [] refl lex_end
more_lexes (t ∷ ts) (good, h) =
    let rest : List ℕ = following (map quoted ts) ++ codes "]" in
    let text = text_lexes t rest (more_tokens ts) good (more_lexes ts h) in
    let all = mark_lexes 44 (32 ∷ (quoted t ++ rest)) (Words t ∷ more_tokens ts) refl (lex_blank 32 (quoted t ++ rest) (Words t ∷ more_tokens ts) refl text) in
    subst (λ (l : List ℕ). Lexes (44 ∷ 32 ∷ l) (Mark 44 ∷ Words t ∷ more_tokens ts)) (sym (append_assoc (quoted t) (following (map quoted ts)) (codes "]"))) all

items_lex : (ts : List (List ℕ)) → AreGood ts → Lexes (separated (map quoted ts) ++ codes "]") (items ts)
unfolding AreGood items
items_lex [] h = mark_lexes 93 [] [] refl lex_end
items_lex (t ∷ ts) (good, h) =
    let all = text_lexes t (following (map quoted ts) ++ codes "]") (more_tokens ts) good (more_lexes ts h) in
    subst (λ (l : List ℕ). Lexes l (Words t ∷ more_tokens ts)) (sym (append_assoc (quoted t) (following (map quoted ts)) (codes "]"))) all

list_lexes : (ts : List (List ℕ)) → AreGood ts → Lexes (codes "[" ++ (separated (map quoted ts) ++ codes "]")) (Mark 91 ∷ items ts)
list_lexes ts h = mark_lexes 91 (separated (map quoted ts) ++ codes "]") (items ts) refl (items_lex ts h)

-- ---- the values of the tokens

item_is : (t : List ℕ) (ts : List (List ℕ)) → item_texts (Words t ∷ more_tokens ts) ≡ Some (t ∷ ts)
unfolding more_tokens
item_is t [] = refl
item_is t (u ∷ us) = ap (with_text t) (item_is u us)

list_is : (t : List ℕ) (ts : List (List ℕ)) → list_texts (Words t ∷ more_tokens ts) ≡ Some (t ∷ ts)
unfolding more_tokens
list_is t [] = refl
list_is t (u ∷ us) = item_is t (u ∷ us)

items_read : (ts : List (List ℕ)) → literal_of (Mark 91 ∷ items ts) ≡ list_literal (Some ts)
unfolding items
items_read [] = refl
items_read (t ∷ ts) = ap list_literal (list_is t ts)

-- ---- values

light_is : (v : Value) → weight_of v ≤ 1048576 → light (Some v) ≡ Some v
light_is v h = ap (λ b. cond b None (Some v)) (not_nat_lt 1048576 (weight_of v) h)

tokens_read : (l : List ℕ) (ks : List Token) (v : Value) → Lexes l ks → literal_of ks ≡ Some v → weight_of v ≤ 1048576 → literal_read l ≡ Some v
tokens_read l ks v h e w = let r = lexed_whole l ks h in (λ i. ended_literal (r.1 i) (r.0 i)) ∙ ap light e ∙ light_is v w

words_read : (t : List ℕ) → IsGood (Words t) → weight_of (value.Words t) ≤ 1048576 → literal_read (printed (value.Words t)) ≡ Some (value.Words t)
words_read t good w = ap literal_read (words_printed t) ∙ tokens_read (quoted t) (Words t ∷ []) (value.Words t) (text_alone t good) refl w

num_read : (n : ℕ) → IsGood (Number n) → weight_of (value.Num n) ≤ 1048576 → literal_read (printed (value.Num n)) ≡ Some (value.Num n)
num_read n good w = ap literal_read (num_printed n) ∙ tokens_read (decimal n) (Number n ∷ []) (value.Num n) (number_alone n good) refl w

few_is : (ts : List (List ℕ)) → length ts ≤ 256 → list_literal (Some ts) ≡ Some (value.List (text_values ts))
few_is ts h = ap (λ b. cond b None (Some (value.List (text_values ts)))) (not_nat_lt 256 (length ts) h)

list_read : (ts : List (List ℕ)) → AreGood ts → length ts ≤ 256 → weight_of (value.List (text_values ts)) ≤ 1048576 → literal_read (printed (value.List (text_values ts))) ≡ Some (value.List (text_values ts))
list_read ts good few w =
    let form : printed (value.List (text_values ts)) ≡ codes "[" ++ (separated (map quoted ts) ++ codes "]") =
    list_printed (text_values ts) ∙ ap (λ (xs : List (List ℕ)). codes "[" ++ (separated xs ++ codes "]")) (texts_printed ts) in
    ap literal_read form
    ∙ tokens_read (codes "[" ++ (separated (map quoted ts) ++ codes "]")) (Mark 91 ∷ items ts) (value.List (text_values ts)) (list_lexes ts good) (items_read ts ∙ few_is ts few) w

-- ---- any value of an input

good_text : (t : List ℕ) → is_text t ≡ true → texts.is_text t ≡ true → IsGood (Words t)
good_text t few clean = let p = and_parts (is_utf8 t) (no_nul t) clean in (few, p.0, p.1)

-- an item is a text
item_text_of : (l : Value-F Outcome Value) (x : Value) → roll-Value l ≡ x → is_text_layer l ≡ true → is_text_item l ≡ true → (t : List ℕ) × (value.Words t ≡ x) × IsGood (Words t)
item_text_of (Value-F.Words t) x e few clean = (t, sym (value.rolls-Words t) ∙ e, good_text t few clean)
item_text_of (Value-F.Num n) x e few clean = absurd (cc)
item_text_of Value-F.Unit x e few clean = absurd (cc)
item_text_of (Value-F.Pair a b) x e few clean = absurd (cc)
item_text_of (Value-F.List xs) x e few clean = absurd (cc)
item_text_of (Value-F.Out o) x e few clean = absurd (cc)

-- items that are texts
texts_of : (xs : List Value) → list_all (λ x. is_text_layer (out-Value x)) xs ≡ true → list_all (λ x. is_text_item (out-Value x)) xs ≡ true → (ts : List (List ℕ)) × (text_values ts ≡ xs) × AreGood ts
unfolding AreGood
texts_of [] few clean = ([], refl, tt)
texts_of (x ∷ xs) few clean =
    let p = and_parts (is_text_layer (out-Value x)) (list_all (λ y. is_text_layer (out-Value y)) xs) few in
    let q = and_parts (is_text_item (out-Value x)) (list_all (λ y. is_text_item (out-Value y)) xs) clean in
    let first = item_text_of (out-Value x) x (roll-out-Value x) p.0 q.0 in
    let more = texts_of xs p.1 q.1 in
    (first.0 ∷ more.0, (λ i. first.1 i ∷ more.1 i), (first.2, more.2))

Reads : Value → Type 0
Reads v = literal_read (printed v) ≡ Some v

layer_read : (l : Value-F Outcome Value) (v : Value) → roll-Value l ≡ v → is_input_layer l ≡ true → has_texts_layer l ≡ true → weight_of v ≤ 1048576 → Reads v
unfolding Reads
layer_read (Value-F.Words t) v e few clean w =
    let same : value.Words t ≡ v = sym (value.rolls-Words t) ∙ e in
    subst Reads same (words_read t (good_text t few clean) (subst (λ (x : Value). weight_of x ≤ 1048576) (sym same) w))
layer_read (Value-F.Num n) v e few clean w =
    let same : value.Num n ≡ v = sym (value.rolls-Num n) ∙ e in
    subst Reads same (num_read n few (subst (λ (x : Value). weight_of x ≤ 1048576) (sym same) w))
layer_read (Value-F.List xs) v e within clean w =
    let p = and_parts (nat_le (length xs) 256) (list_all (λ x. is_text_layer (out-Value x)) xs) within in
    let are = texts_of xs p.1 clean in
    let same : value.List (text_values are.0) ≡ v = ap value.List are.1 ∙ sym (value.rolls-List xs) ∙ e in
    let size : length are.0 ≡ length xs = sym (length-map are.0 value.Words) ∙ ap length are.1 in
    let few : length are.0 ≤ 256 = subst (λ (n : ℕ). n ≤ 256) (sym size) (nat_le_is (length xs) 256 p.0) in
    subst Reads same (list_read are.0 are.2 few (subst (λ (x : Value). weight_of x ≤ 1048576) (sym same) w))
layer_read Value-F.Unit v e few clean w = absurd (cc)
layer_read (Value-F.Pair a b) v e few clean w = absurd (cc)
layer_read (Value-F.Out o) v e few clean w = absurd (cc)

pub printed_is_read : (v : Value) → IsPrintable v → literal_read (printed v) ≡ Some v
unfolding Reads
printed_is_read v h = layer_read (out-Value v) v (roll-out-Value v) h.literal.within h.texts h.literal.light
