-- What a line asks for is within the bounds of the engine: its literal is no heavier than the line is long.
use Rattle.std.proofs.Common.{◌≡◌, ℕ, ◌+◌, ◌≤◌, Bool, true, cond, List, [], ◌∷◌, map, length, refl, ap, subst, ◌∙◌, inl, inr, arith}
use Rattle.std.specs.Prelude.{◌==◌, ◌&&◌, nat_le, nat_lt, sum, Option, Some, None}
use Rattle.std.specs.List.{AllByRecursion, list_all}
use Rattle.std.specs.Option.{option_and_then, option_map}
use Rattle.std.proofs.lemmas.List.{length-map}
use Rattle.std.proofs.lemmas.List.Sums.{sum_by-cons}
use Rattle.value_core.specs.declared.lexing.Stop.{Stop}
use Rattle.value_core.specs.declared.lexing.Stop.TheVariants as stop
use Rattle.value_core.specs.declared.token.Token.{Token}
use Rattle.value_core.specs.declared.token.Token.TheVariants.{Name, Number, Words, Mark, LongName, LongText}
use Rattle.value_core.specs.declared.value.Value.{Value, Value-F, out-Value}
use Rattle.value_core.specs.declared.value.Value.TheVariants as value
use Rattle.value_core.specs.Lexing.{lexed}
use Rattle.value_core.specs.Literals.{is_mark_of, item_text, item_texts, list_literal, list_texts, literal_of, none_left, single_literal, tokens_in, with_text}
use Rattle.value_core.specs.Parts.{text_values}
use Rattle.value_core.specs.Values.{weight_of}
use Rattle.value_core.proofs.Basics.{and_both, cond_is, is_nat_le, nat_le_is, nat_lt_not, some_is}
use Rattle.value_core.proofs.Layers.{list_weight, num_weight, out_at, words_weight}
use Rattle.pipe_text.proofs.GoodTokens.{Good, IsGood, bytes_in, bytes_of, good_rest, good_tokens}
use Rattle.term_core.specs.Limits.{is_input_layer, is_text_layer}
use Rattle.core_rules.specs.declared.events.What.{What}
use Rattle.core_rules.specs.declared.events.What.TheVariants as what
use Rattle.engine_rules.specs.Proper.{IsProperWhat}
use Rattle.keeper_core.specs.Openings.{IsLiteralValue}
use Rattle.desk_core.proofs.Openable.{is_light}
use Rattle.io_ends.specs.Lines.{line_limit}
use Rattle.report_text.specs.declared.controls.Control.{Control}
use Rattle.report_text.specs.declared.controls.Control.TheVariants.{Empty, Event, Poll, Jobs, Quit}
use Rattle.report_text.specs.declared.controls.ControlWord.{ControlWord}
use Rattle.report_text.specs.declared.controls.ControlWord.TheVariants as word
use Rattle.report_text.specs.Controls.{alone, asked_by, control_of, control_read, control_word, ended_control, name_in, number_in, rate_in, rebuild_in, set_in, threshold_word}
use Rattle.session_core.specs.inside.ReadLines.{IsProperControl}

-- ---- the texts of a list

-- texts within the limit of a text, which weigh so much at most
record AreLight (ts : List (List ℕ)) (n : ℕ) : Type 0 where
  short : list_all (λ v. is_text_layer (out-Value v)) (text_values ts) ≡ true
  light : sum (map weight_of (text_values ts)) ≤ n

abbrev IsText : List ℕ → Type 0
IsText t = nat_le (length t) 65536 ≡ true

none_light : AreLight [] 0
none_light = record { short = refl; light = omega arith }

more_light : (t : List ℕ) (ts : List (List ℕ)) (n m : ℕ) → IsText t → AreLight ts n → length t + 1 + n ≤ m → AreLight (t ∷ ts) m
more_light t ts n m few h fits =
    let weight = words_weight t in
    let sums = sum_by-cons (λ (x : ℕ). x) (weight_of (value.Words t)) (map weight_of (text_values ts)) in
    let rest = h.light in
    let first : is_text_layer (out-Value (value.Words t)) ≡ true = ap is_text_layer (out_at (Value-F.Words t) (value.Words t) (value.rolls-Words t)) ∙ few in
    record {
      short = and_both (is_text_layer (out-Value (value.Words t))) (list_all (λ v. is_text_layer (out-Value v)) (text_values ts)) first h.short;
      light = omega (arith, weight, sums, rest, fits);
    }

more_texts : (t : List ℕ) (more : Option (List (List ℕ))) (ts : List (List ℕ)) (n m : ℕ) → IsText t → ((us : List (List ℕ)) → more ≡ Some us → AreLight us n) → length t + 1 + n ≤ m → with_text t more ≡ Some ts → AreLight ts m
more_texts t None ts n m few rest fits e = absurd (cc)
more_texts t (Some us) ts n m few rest fits e = subst (λ (x : List (List ℕ)). AreLight x m) (some_is (t ∷ us) ts e) (more_light t us n m few (rest us refl) fits)

one_text : (t : List ℕ) (ts : List (List ℕ)) (n m : ℕ) → IsText t → length t + 1 + n ≤ m → Some (t ∷ []) ≡ Some ts → AreLight ts m
one_text t ts n m few fits e = subst (λ (x : List (List ℕ)). AreLight x m) (some_is (t ∷ []) ts e) (more_light t [] 0 m few none_light (omega (arith, fits)))

next_text : (t : List ℕ) (l : Token) (last : Bool) (more : Option (List (List ℕ))) (ts : List (List ℕ)) (n m : ℕ) → IsText t → ((us : List (List ℕ)) → more ≡ Some us → AreLight us n) → length t + 1 + n ≤ m →
    item_text (Words t) l last more ≡ Some ts → AreLight ts m
next_text t (Mark b) last more ts n m few rest fits e = elim (cond_is (b == 44) (with_text t more) (cond (b == 93 && last) (Some (t ∷ [])) None) (Some ts) e) [
  | inl (comma, is) ↦ more_texts t more ts n m few rest fits is
  | inr (no_comma, is) ↦ elim (cond_is (b == 93 && last) (Some (t ∷ [])) None (Some ts) is) [
    | inl (closes, one) ↦ one_text t ts n m few fits one
    | inr (other, none) ↦ absurd (cc)
  ]
]
next_text t (Name x) last more ts n m few rest fits e = absurd (cc)
next_text t (Number x) last more ts n m few rest fits e = absurd (cc)
next_text t (Words u) last more ts n m few rest fits e = absurd (cc)
next_text t LongName last more ts n m few rest fits e = absurd (cc)
next_text t LongText last more ts n m few rest fits e = absurd (cc)

first_text : (k l : Token) (last : Bool) (more : Option (List (List ℕ))) (ts : List (List ℕ)) (n : ℕ) → IsGood k → ((us : List (List ℕ)) → more ≡ Some us → AreLight us n) → item_text k l last more ≡ Some ts → AreLight ts (bytes_of k + (bytes_of l + n))
first_text (Words t) l last more ts n good rest e = next_text t l last more ts n (length t + 2 + (bytes_of l + n)) good.0 rest (omega arith) e
first_text (Name x) l last more ts n good rest e = absurd (cc)
first_text (Number x) l last more ts n good rest e = absurd (cc)
first_text (Mark b) l last more ts n good rest e = absurd (cc)
first_text LongName l last more ts n good rest e = absurd (cc)
first_text LongText l last more ts n good rest e = absurd (cc)

texts_light : (ks : List Token) (ts : List (List ℕ)) → AllByRecursion IsGood ks → item_texts ks ≡ Some ts → AreLight ts (bytes_in ks)
texts_light [] ts good e = absurd (cc)
texts_light (k ∷ []) ts good e = absurd (cc)
texts_light (k ∷ l ∷ ks) ts (first, (second, good)) e = first_text k l (none_left ks) (item_texts ks) ts (bytes_in ks) first (λ us is. texts_light ks us good is) e

list_light : (ks : List Token) (ts : List (List ℕ)) → AllByRecursion IsGood ks → list_texts ks ≡ Some ts → AreLight ts (bytes_in ks)
list_light [] ts good e = absurd (cc)
list_light (k ∷ []) ts good e = elim (cond_is (is_mark_of 93 k) (Some []) None (Some ts) e) [
  | inl (closes, is) ↦ subst (λ (x : List (List ℕ)). AreLight x (bytes_of k + 0)) (some_is [] ts is) (record { short = refl; light = omega arith })
  | inr (other, none) ↦ absurd (cc)
]
list_light (k ∷ l ∷ ks) ts good e = texts_light (k ∷ l ∷ ks) ts good e

-- ---- values

list_value : (o : Option (List (List ℕ))) (v : Value) (n : ℕ) → n + 1 ≤ 1048576 → ((ts : List (List ℕ)) → o ≡ Some ts → AreLight ts n) → list_literal o ≡ Some v → IsLiteralValue v
list_value None v n fits h e = absurd (cc)
list_value (Some ts) v n fits h e = elim (cond_is (nat_lt 256 (length ts)) None (Some (value.List (text_values ts))) (Some v) e) [
  | inl (many, none) ↦ absurd (cc)
  | inr (few, is) ↦
      let size : nat_le (length (text_values ts)) 256 ≡ true = ap (λ (x : ℕ). nat_le x 256) (length-map ts value.Words) ∙ is_nat_le (length ts) 256 (nat_lt_not 256 (length ts) few) in
      let layer : is_input_layer (Value-F.List (text_values ts)) ≡ true = and_both (nat_le (length (text_values ts)) 256) (list_all (λ x. is_text_layer (out-Value x)) (text_values ts)) size (h ts refl).short in
      let weight = list_weight (text_values ts) in
      let texts = (h ts refl).light in
      subst IsLiteralValue (some_is (value.List (text_values ts)) v is) (record {
        within = ap is_input_layer (out_at (Value-F.List (text_values ts)) (value.List (text_values ts)) (value.rolls-List (text_values ts))) ∙ layer;
        light = omega (arith, weight, texts, fits);
      })
]

words_value : (t : List ℕ) → IsText t → IsLiteralValue (value.Words t)
words_value t few =
    let weight = words_weight t in
    let short = nat_le_is (length t) 65536 few in
    record { within = ap is_input_layer (out_at (Value-F.Words t) (value.Words t) (value.rolls-Words t)) ∙ few; light = omega (arith, weight, short) }

single_value : (k : Token) (v : Value) → IsGood k → single_literal k ≡ Some v → IsLiteralValue v
single_value (Words t) v good e = subst IsLiteralValue (some_is (value.Words t) v e) (words_value t good.0)
single_value (Number n) v good e = subst IsLiteralValue (some_is (value.Num n) v e) (record {
  within = ap is_input_layer (out_at (Value-F.Num n) (value.Num n) (value.rolls-Num n)) ∙ good;
  light = (let weight = num_weight n in omega (arith, weight));
})
single_value (Name n) v good e = absurd (cc)
single_value (Mark b) v good e = absurd (cc)
single_value LongName v good e = absurd (cc)
single_value LongText v good e = absurd (cc)

-- each token takes a byte
some_bytes : (k : Token) → 1 ≤ bytes_of k
some_bytes (Words t) = omega arith
some_bytes (Number n) = omega arith
some_bytes (Name n) = omega arith
some_bytes (Mark b) = omega arith
some_bytes LongName = omega arith
some_bytes LongText = omega arith

literal_value : (ks : List Token) (v : Value) → Good ks → literal_of ks ≡ Some v → IsLiteralValue v
literal_value [] v good e = absurd (cc)
literal_value (k ∷ []) v good e = single_value k v good.each.0 e
literal_value (k ∷ l ∷ ks) v good e = elim (cond_is (is_mark_of 91 k) (list_literal (list_texts (l ∷ ks))) None (Some v) e) [
  | inl (opens, is) ↦
      let small = good.small in
      let some = some_bytes k in
      list_value (list_texts (l ∷ ks)) v (bytes_in (l ∷ ks)) (omega (arith, small, some)) (λ ts are. list_light (l ∷ ks) ts good.each.1 are) is
  | inr (no_list, none) ↦ absurd (cc)
]

-- ---- controls

-- an event that is made of anything
made_proper : {A : Type 0} (make : A → What) (o : Option A) (c : Control) → ((x : A) → o ≡ Some x → IsProperWhat (make x)) → option_map Event (option_map make o) ≡ Some c → IsProperControl c
made_proper make None c proper e = absurd (cc)
made_proper make (Some x) c proper e = subst IsProperControl (some_is (Event (make x)) c e) (proper x refl)

set_proper : (ks : List Token) (c : Control) → Good ks → option_map Event (set_in ks) ≡ Some c → IsProperControl c
set_proper [] c good e = absurd (cc)
set_proper (Name n ∷ ks) c good e = made_proper (what.SetInput n) (literal_of ks) c (λ v is. is_light v (literal_value ks v (good_rest (Name n) ks good) is)) e
set_proper (Number n ∷ ks) c good e = absurd (cc)
set_proper (Words t ∷ ks) c good e = absurd (cc)
set_proper (Mark b ∷ ks) c good e = absurd (cc)
set_proper (LongName ∷ ks) c good e = absurd (cc)
set_proper (LongText ∷ ks) c good e = absurd (cc)

-- of an event that brings no value
abbrev BringsNone : Option What → Type 0
BringsNone None = Unit {0}
BringsNone (Some w) = IsProperWhat w

event_proper : (o : Option What) (c : Control) → BringsNone o → option_map Event o ≡ Some c → IsProperControl c
event_proper None c brings e = absurd (cc)
event_proper (Some w) c brings e = subst IsProperControl (some_is (Event w) c e) brings

rebuild_none : (ks : List Token) → BringsNone (rebuild_in ks)
rebuild_none [] = tt
rebuild_none (Name op ∷ []) = tt
rebuild_none (Name op ∷ Words key ∷ []) = tt
rebuild_none (Name op ∷ Words key ∷ k ∷ ks) = tt
rebuild_none (Name op ∷ Name n ∷ ks) = tt
rebuild_none (Name op ∷ Number n ∷ ks) = tt
rebuild_none (Name op ∷ Mark b ∷ ks) = tt
rebuild_none (Name op ∷ LongName ∷ ks) = tt
rebuild_none (Name op ∷ LongText ∷ ks) = tt
rebuild_none (Number n ∷ ks) = tt
rebuild_none (Words t ∷ ks) = tt
rebuild_none (Mark b ∷ ks) = tt
rebuild_none (LongName ∷ ks) = tt
rebuild_none (LongText ∷ ks) = tt

rate_none : (ks : List Token) → BringsNone (rate_in ks)
rate_none [] = tt
rate_none (Name pool ∷ []) = tt
rate_none (Name pool ∷ Name client ∷ []) = tt
rate_none (Name pool ∷ Name client ∷ Number rate ∷ []) = tt
rate_none (Name pool ∷ Name client ∷ Number rate ∷ k ∷ ks) = tt
rate_none (Name pool ∷ Name client ∷ Name n ∷ ks) = tt
rate_none (Name pool ∷ Name client ∷ Words t ∷ ks) = tt
rate_none (Name pool ∷ Name client ∷ Mark b ∷ ks) = tt
rate_none (Name pool ∷ Name client ∷ LongName ∷ ks) = tt
rate_none (Name pool ∷ Name client ∷ LongText ∷ ks) = tt
rate_none (Name pool ∷ Number n ∷ ks) = tt
rate_none (Name pool ∷ Words t ∷ ks) = tt
rate_none (Name pool ∷ Mark b ∷ ks) = tt
rate_none (Name pool ∷ LongName ∷ ks) = tt
rate_none (Name pool ∷ LongText ∷ ks) = tt
rate_none (Number n ∷ ks) = tt
rate_none (Words t ∷ ks) = tt
rate_none (Mark b ∷ ks) = tt
rate_none (LongName ∷ ks) = tt
rate_none (LongText ∷ ks) = tt

-- what a word goes with
alone_proper : {A : Type 0} (P : A → Type 0) (x y : A) (ks : List Token) → P x → alone x ks ≡ Some y → P y
alone_proper P x y [] proper e = subst P (some_is x y e) proper
alone_proper P x y (k ∷ ks) proper e = absurd (cc)

tick_none : (ks : List Token) → BringsNone (alone what.Tick ks)
tick_none [] = tt
tick_none (k ∷ ks) = tt

asked_proper : (w : ControlWord) (ks : List Token) (c : Control) → Good ks → asked_by w ks ≡ Some c → IsProperControl c
asked_proper word.Set ks c good e = set_proper ks c good e
asked_proper word.Tick ks c good e = event_proper (alone what.Tick ks) c (tick_none ks) e
asked_proper word.Level ks c good e = made_proper what.SetLevel (option_and_then threshold_word (name_in ks)) c (λ x is. tt) e
asked_proper word.Confirm ks c good e = made_proper what.Confirm (number_in ks) c (λ x is. tt) e
asked_proper word.Cancel ks c good e = made_proper what.Cancel (number_in ks) c (λ x is. tt) e
asked_proper word.Rebuild ks c good e = event_proper (rebuild_in ks) c (rebuild_none ks) e
asked_proper word.Pause ks c good e = made_proper what.Pause (name_in ks) c (λ x is. tt) e
asked_proper word.Resume ks c good e = made_proper what.Resume (name_in ks) c (λ x is. tt) e
asked_proper word.Rate ks c good e = event_proper (rate_in ks) c (rate_none ks) e
asked_proper word.Poll ks c good e = alone_proper IsProperControl Poll c ks tt e
asked_proper word.Jobs ks c good e = alone_proper IsProperControl Jobs c ks tt e
asked_proper word.Quit ks c good e = alone_proper IsProperControl Quit c ks tt e

word_proper : (o : Option ControlWord) (ks : List Token) (c : Control) → Good ks → option_and_then (λ w. asked_by w ks) o ≡ Some c → IsProperControl c
word_proper None ks c good e = absurd (cc)
word_proper (Some w) ks c good e = asked_proper w ks c good e

tokens_proper : (ks : List Token) (c : Control) → Good ks → control_of ks ≡ Some c → IsProperControl c
tokens_proper [] c good e = subst IsProperControl (some_is Empty c e) tt
tokens_proper (Name n ∷ ks) c good e = word_proper (control_word n) ks c (good_rest (Name n) ks good) e
tokens_proper (Number n ∷ ks) c good e = absurd (cc)
tokens_proper (Words t ∷ ks) c good e = absurd (cc)
tokens_proper (Mark b ∷ ks) c good e = absurd (cc)
tokens_proper (LongName ∷ ks) c good e = absurd (cc)
tokens_proper (LongText ∷ ks) c good e = absurd (cc)

ended_proper : (s : Stop) (ks : List Token) (c : Control) → Good ks → ended_control s ks ≡ Some c → IsProperControl c
ended_proper (stop.Lex p) ks c good e = absurd (cc)
ended_proper (stop.End p) ks c good e = tokens_proper ks c good e

-- the control of a line that isn't too long
pub control_proper : (line : List ℕ) (c : Control) → length line ≤ line_limit → control_read line ≡ Some c → IsProperControl c
control_proper line c few e = ended_proper (lexed line).stop (tokens_in (lexed line).tokens) c (good_tokens line (omega (arith, few))) e
