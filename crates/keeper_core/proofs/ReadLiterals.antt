-- A literal that is read is within the limits of values.
use Rattle.std.proofs.Common.{◌≡◌, ℕ, Bool, true, cond, List, [], ◌∷◌, length, Option, Some, None, refl, ap, subst, ◌∙◌, inl, inr}
use Rattle.std.proofs.lemmas.List.{length-map}
use Rattle.std.specs.Prelude.{◌==◌, ◌&&◌, nat_le, nat_lt}
use Rattle.std.specs.List.{AllByRecursion, list_all}
use Rattle.value_core.specs.declared.lexing.Stop.{Stop}
use Rattle.value_core.specs.declared.lexing.Stop.TheVariants as stop
use Rattle.value_core.specs.declared.token.Token.{Token}
use Rattle.value_core.specs.declared.token.Token.TheVariants.{Name, Number, Words, Mark, LongName, LongText}
use Rattle.value_core.specs.declared.value.Value.{Value, Value-F, out-Value}
use Rattle.value_core.specs.declared.value.Value.TheVariants as value
use Rattle.value_core.specs.Lexing.{lexed}
use Rattle.value_core.specs.Literals.{ended_literal, is_mark_of, item_text, item_texts, light, list_literal, list_texts, literal_of, literal_read, none_left, single_literal, tokens_in, with_text}
use Rattle.value_core.specs.Parts.{text_values}
use Rattle.value_core.specs.Values.{weight_of}
use Rattle.value_core.proofs.Basics.{and_both, cond_is, is_nat_le, nat_lt_not, some_is}
use Rattle.value_core.proofs.Layers.{out_at}
use Rattle.pipe_text.proofs.GoodTokens.{IsGood, all_good}
use Rattle.term_core.specs.Limits.{is_input_layer, is_text_layer}
use Rattle.keeper_core.specs.Openings.{IsLiteralValue}

-- ---- texts of a list

abbrev AreShort : List (List ℕ) → Type 0
AreShort ts = AllByRecursion (λ (t : List ℕ). nat_le (length t) 65536 ≡ true) ts

more_texts : (t : List ℕ) (more : Option (List (List ℕ))) (ts : List (List ℕ)) → nat_le (length t) 65536 ≡ true → ((us : List (List ℕ)) → more ≡ Some us → AreShort us) → with_text t more ≡ Some ts → AreShort ts
more_texts t None ts few rest e = absurd (cc)
more_texts t (Some us) ts few rest e = subst AreShort (some_is (t ∷ us) ts e) (few, rest us refl)

one_text : (t : List ℕ) (ts : List (List ℕ)) → nat_le (length t) 65536 ≡ true → Some (t ∷ []) ≡ Some ts → AreShort ts
one_text t ts few e = subst AreShort (some_is (t ∷ []) ts e) (few, tt)

next_text : (t : List ℕ) (l : Token) (last : Bool) (more : Option (List (List ℕ))) (ts : List (List ℕ)) → nat_le (length t) 65536 ≡ true → ((us : List (List ℕ)) → more ≡ Some us → AreShort us) → item_text (Words t) l last more ≡ Some ts → AreShort ts
next_text t (Mark b) last more ts few rest e = elim (cond_is (b == 44) (with_text t more) (cond (b == 93 && last) (Some (t ∷ [])) None) (Some ts) e) [
  | inl (comma, is) ↦ more_texts t more ts few rest is
  | inr (no_comma, is) ↦ elim (cond_is (b == 93 && last) (Some (t ∷ [])) None (Some ts) is) [
    | inl (closes, one) ↦ one_text t ts few one
    | inr (other, none) ↦ absurd (cc)
  ]
]
next_text t (Name n) last more ts few rest e = absurd (cc)
next_text t (Number n) last more ts few rest e = absurd (cc)
next_text t (Words u) last more ts few rest e = absurd (cc)
next_text t LongName last more ts few rest e = absurd (cc)
next_text t LongText last more ts few rest e = absurd (cc)

first_text : (k l : Token) (last : Bool) (more : Option (List (List ℕ))) (ts : List (List ℕ)) → IsGood k → ((us : List (List ℕ)) → more ≡ Some us → AreShort us) → item_text k l last more ≡ Some ts → AreShort ts
first_text (Words t) l last more ts good rest e = next_text t l last more ts good.0 rest e
first_text (Name n) l last more ts good rest e = absurd (cc)
first_text (Number n) l last more ts good rest e = absurd (cc)
first_text (Mark b) l last more ts good rest e = absurd (cc)
first_text LongName l last more ts good rest e = absurd (cc)
first_text LongText l last more ts good rest e = absurd (cc)

texts_short : (ks : List Token) (ts : List (List ℕ)) → AllByRecursion IsGood ks → item_texts ks ≡ Some ts → AreShort ts
texts_short [] ts good e = absurd (cc)
texts_short (k ∷ []) ts good e = absurd (cc)
texts_short (k ∷ l ∷ ks) ts (first, (second, good)) e = first_text k l (none_left ks) (item_texts ks) ts first (λ us is. texts_short ks us good is) e

list_short : (ks : List Token) (ts : List (List ℕ)) → AllByRecursion IsGood ks → list_texts ks ≡ Some ts → AreShort ts
list_short [] ts good e = absurd (cc)
list_short (k ∷ []) ts good e = elim (cond_is (is_mark_of 93 k) (Some []) None (Some ts) e) [
  | inl (closes, is) ↦ subst AreShort (some_is [] ts is) tt
  | inr (other, none) ↦ absurd (cc)
]
list_short (k ∷ l ∷ ks) ts good e = texts_short (k ∷ l ∷ ks) ts good e

-- ---- values

abbrev IsWithin : Value → Type 0
IsWithin v = is_input_layer (out-Value v) ≡ true

items_short : (ts : List (List ℕ)) → AreShort ts → list_all (λ v. is_text_layer (out-Value v)) (text_values ts) ≡ true
items_short [] h = refl
items_short (t ∷ ts) (few, h) =
    let first : is_text_layer (out-Value (value.Words t)) ≡ true = ap is_text_layer (out_at (Value-F.Words t) (value.Words t) (value.rolls-Words t)) ∙ few in
    and_both (is_text_layer (out-Value (value.Words t))) (list_all (λ v. is_text_layer (out-Value v)) (text_values ts)) first (items_short ts h)

list_within : (o : Option (List (List ℕ))) (v : Value) → ((ts : List (List ℕ)) → o ≡ Some ts → AreShort ts) → list_literal o ≡ Some v → IsWithin v
list_within None v h e = absurd (cc)
list_within (Some ts) v h e = elim (cond_is (nat_lt 256 (length ts)) None (Some (value.List (text_values ts))) (Some v) e) [
  | inl (many, none) ↦ absurd (cc)
  | inr (few, is) ↦
      let size : nat_le (length (text_values ts)) 256 ≡ true = ap (λ (n : ℕ). nat_le n 256) (length-map ts value.Words) ∙ is_nat_le (length ts) 256 (nat_lt_not 256 (length ts) few) in
      let layer : is_input_layer (Value-F.List (text_values ts)) ≡ true = and_both (nat_le (length (text_values ts)) 256) (list_all (λ x. is_text_layer (out-Value x)) (text_values ts)) size (items_short ts (h ts refl)) in
      let list : IsWithin (value.List (text_values ts)) = ap is_input_layer (out_at (Value-F.List (text_values ts)) (value.List (text_values ts)) (value.rolls-List (text_values ts))) ∙ layer in
      subst IsWithin (some_is (value.List (text_values ts)) v is) list
]

single_within : (k : Token) (v : Value) → IsGood k → single_literal k ≡ Some v → IsWithin v
single_within (Words t) v good e = subst IsWithin (some_is (value.Words t) v e) (ap is_input_layer (out_at (Value-F.Words t) (value.Words t) (value.rolls-Words t)) ∙ good.0)
single_within (Number n) v good e = subst IsWithin (some_is (value.Num n) v e) (ap is_input_layer (out_at (Value-F.Num n) (value.Num n) (value.rolls-Num n)) ∙ good)
single_within (Name n) v good e = absurd (cc)
single_within (Mark b) v good e = absurd (cc)
single_within LongName v good e = absurd (cc)
single_within LongText v good e = absurd (cc)

tokens_within : (ks : List Token) (v : Value) → AllByRecursion IsGood ks → literal_of ks ≡ Some v → IsWithin v
tokens_within [] v good e = absurd (cc)
tokens_within (k ∷ []) v (first, good) e = single_within k v first e
tokens_within (k ∷ l ∷ ks) v (first, good) e = elim (cond_is (is_mark_of 91 k) (list_literal (list_texts (l ∷ ks))) None (Some v) e) [
  | inl (opens, is) ↦ list_within (list_texts (l ∷ ks)) v (λ ts are. list_short (l ∷ ks) ts good are) is
  | inr (no_list, none) ↦ absurd (cc)
]

light_within : (o : Option Value) (v : Value) → ((w : Value) → o ≡ Some w → IsWithin w) → light o ≡ Some v → IsLiteralValue v
light_within None v h e = absurd (cc)
light_within (Some w) v h e = elim (cond_is (nat_lt 1048576 (weight_of w)) None (Some w) (Some v) e) [
  | inl (heavy, none) ↦ absurd (cc)
  | inr (fine, is) ↦ subst IsLiteralValue (some_is w v is) (record { within = h w refl; light = nat_lt_not 1048576 (weight_of w) fine })
]

ended_within : (s : Stop) (ks : List Token) (v : Value) → AllByRecursion IsGood ks → ended_literal s ks ≡ Some v → IsLiteralValue v
ended_within (stop.Lex p) ks v good e = absurd (cc)
ended_within (stop.End p) ks v good e = light_within (literal_of ks) v (λ w is. tokens_within ks w good is) e

pub read_within : (bytes : List ℕ) (v : Value) → literal_read bytes ≡ Some v → IsLiteralValue v
read_within bytes v e = ended_within (lexed bytes).stop (tokens_in (lexed bytes).tokens) v (all_good bytes) e
