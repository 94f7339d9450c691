-- A term has one spelling, and it is printed as it is spelled.
use Rattle.std.proofs.Common.{◌≡◌, ℕ, List, [], ◌∷◌, ◌++◌, map, refl, sym, ap, ◌∙◌}
use Rattle.std.specs.Prelude.{codes}
use Rattle.std.specs.List.{AllByRecursion, flat_map}
use Rattle.value_core.specs.declared.token.Token.{Token}
use Rattle.value_core.specs.declared.token.Token.TheVariants.{Name, Number, Words, Mark, LongName, LongText}
use Rattle.value_core.specs.declared.value.Value.{Value, Value-F}
use Rattle.value_core.specs.declared.value.Value.TheVariants as value
use Rattle.value_core.specs.Parts.{text_values}
use Rattle.term_core.specs.declared.program.Term.{Term, Term-F, roll-Term, map-Term, fold-roll-Term}
use Rattle.term_core.specs.declared.program.Term.TheVariants as term
use Rattle.pipe_text.specs.declared.fault.LimitName.{LimitName}
use Rattle.pipe_text.specs.declared.words.BodyWord.{BodyWord}
use Rattle.pipe_text.specs.declared.words.BodyWord.TheVariants as word
use Rattle.pipe_text.specs.Words.{fun_letters, kind_letters}
use Rattle.pipe_text.specs.Files.{file_limits}
use Rattle.pipe_text.specs.Grammar.{NameIs, TextIs, NumberIs, Texts, Items, list_of, IsLiteral, is_text, is_number, is_unit, is_list, form, What, one, many, Spells, is_return, is_fail, is_input, is_node, is_var, is_map, is_pair, is_bind, is_list_map, is_list_iter, is_catch, is_state, is_gate, is_all, is_build, is_output, no_more, one_more}
use Rattle.pipe_text.specs.Printing.{item_layer, item_tokens, more_items, items_tokens, literal_layer, literal_tokens, term_tokens, term_tokens_step}
use Rattle.value_core.proofs.Layers.{out_at}

-- ---- names, texts and numbers

-- a token that has bytes
abbrev pub IsShort : Token → Type 0
IsShort LongName = ⊥
IsShort LongText = ⊥
IsShort k = Unit {0}

abbrev pub AllShort : List Token → Type 0
AllShort = AllByRecursion IsShort

pub each_both : (P : Token → Type 0) (ks ls : List Token) → AllByRecursion P ks → AllByRecursion P ls → AllByRecursion P (ks ++ ls)
each_both P [] ls h g = g
each_both P (k ∷ ks) ls (one_is, h) g = (one_is, each_both P ks ls h g)

-- the one token of a name in a file
pub name_is : (n : List ℕ) (k : Token) → NameIs file_limits n k → (k ≡ Name n) × IsShort k
name_is n (Name m) e = (ap Name (sym e), tt)
name_is n LongName (long, none) = absurd cc
name_is n (Words m) e = absurd e
name_is n (Number m) e = absurd e
name_is n (Mark m) e = absurd e
name_is n LongText e = absurd e

pub text_is : (t : List ℕ) (k : Token) → TextIs file_limits t k → (k ≡ Words t) × IsShort k
text_is t (Words m) e = (ap Words (sym e), tt)
text_is t LongText (long, none) = absurd cc
text_is t (Name m) e = absurd e
text_is t (Number m) e = absurd e
text_is t (Mark m) e = absurd e
text_is t LongName e = absurd e

pub number_is : (what : LimitName) (n : ℕ) (k : Token) → NumberIs file_limits what n k → (k ≡ Number n) × IsShort k
number_is what n (Number m) (e, fits) = (ap Number (sym e), tt)
number_is what n (Name m) e = absurd e
number_is what n (Words m) e = absurd e
number_is what n (Mark m) e = absurd e
number_is what n LongName e = absurd e
number_is what n LongText e = absurd e

-- ---- literals

-- the tokens are these, and none is too long
abbrev pub Are : List Token → List Token → Type 0
Are ks ls = (ks ≡ ls) × AllShort ks

item_is : (t : List ℕ) → item_tokens (value.Words t) ≡ Words t ∷ []
item_is t = ap item_layer (out_at (Value-F.Words t) (value.Words t) (value.rolls-Words t))

more_are : (ts : List (List ℕ)) (ks : List Token) → Texts (Mark 44 ∷ []) (Mark 93 ∷ []) file_limits ts ks → Are ks (more_items (text_values ts))
more_are [] ks e = rw e (refl, (tt, tt))
more_are (t ∷ ts) ks (k, more, parts, is, rest) =
    let one_is = text_is t k is in
    let later = more_are ts more rest in
    rw parts ((λ i. Mark 44 ∷ one_is.0 i ∷ later.0 i) ∙ ap (λ (l : List Token). Mark 44 ∷ (l ++ more_items (text_values ts))) (sym (item_is t)), (tt, (one_is.1, later.1)))

pub items_are : (ts : List (List ℕ)) (ks : List Token) → Items file_limits ts ks → Are ks (items_tokens (text_values ts))
items_are [] ks e = rw e (refl, (tt, tt))
items_are (t ∷ ts) ks (k, more, parts, is, few, rest) =
    let one_is = text_is t k is in
    let later = more_are ts more rest in
    rw parts ((λ i. one_is.0 i ∷ later.0 i) ∙ ap (λ (l : List Token). l ++ more_items (text_values ts)) (sym (item_is t)), (one_is.1, later.1))

pub words_tokens : (t : List ℕ) → literal_tokens (value.Words t) ≡ Words t ∷ []
words_tokens t = ap literal_layer (out_at (Value-F.Words t) (value.Words t) (value.rolls-Words t))

pub num_tokens : (n : ℕ) → literal_tokens (value.Num n) ≡ Number n ∷ []
num_tokens n = ap literal_layer (out_at (Value-F.Num n) (value.Num n) (value.rolls-Num n))

pub list_tokens : (ts : List (List ℕ)) → literal_tokens (list_of ts) ≡ Mark 91 ∷ items_tokens (text_values ts)
list_tokens ts = ap literal_layer (out_at (Value-F.List (text_values ts)) (list_of ts) (value.rolls-List (text_values ts)))

unit_tokens : literal_tokens value.Unit ≡ Name (codes "unit") ∷ []
unit_tokens = ap literal_layer (out_at Value-F.Unit value.Unit value.rolls-Unit)

pub literal_are : (v : Value) (ks : List Token) → IsLiteral file_limits v ks → Are ks (literal_tokens v)
literal_are v ks (is_text t k e) = let is = text_is t k e in (ap (λ (l : Token). l ∷ []) is.0 ∙ sym (words_tokens t), (is.1, tt))
literal_are v ks (is_number n) = (sym (num_tokens n), (tt, tt))
literal_are v ks is_unit = (sym unit_tokens, (tt, tt))
literal_are v ks (is_list ts more items) = let are = items_are ts more items in (ap (λ (l : List Token). Mark 91 ∷ l) are.0 ∙ sym (list_tokens ts), (tt, are.1))

-- ---- terms

abbrev pub tokens_of : What → List Token
tokens_of (one t) = term_tokens t
tokens_of (many ts) = flat_map (λ ks. ks) (map term_tokens ts)

layer_tokens : (x : Term-F Term) (t : Term) → roll-Term x ≡ t → term_tokens t ≡ term_tokens_step (map-Term Term (List Token) term_tokens x)
layer_tokens x t e = ap term_tokens (sym e) ∙ fold-roll-Term (List Token) term_tokens_step x

form_are : (w : BodyWord) (ks ls : List Token) (x : Term-F Term) (t : Term) → roll-Term x ≡ t → term_tokens_step (map-Term Term (List Token) term_tokens x) ≡ form w ls → Are ks ls → Are (form w ks) (term_tokens t)
form_are w ks ls x t e step (is, short) = (ap (form w) is ∙ sym step ∙ sym (layer_tokens x t e), (tt, (tt, each_both IsShort ks (Mark 41 ∷ []) short (tt, tt))))

pub both_are : (ka la kb lb : List Token) → Are ka la → Are kb lb → Are (ka ++ kb) (la ++ lb)
both_are ka la kb lb (is, short) (same, brief) = ((λ i. is i ++ same i), each_both IsShort ka kb short brief)

pub following_are : (k l : Token) (ks ls : List Token) → (k ≡ l) × IsShort k → Are ks ls → Are (k ∷ ks) (l ∷ ls)
following_are k l ks ls (is, short) (same, brief) = ((λ i. is i ∷ same i), (short, brief))

pub none_are : Are [] []
none_are = (refl, tt)

-- In a file a term is spelled by the tokens that it is printed with, and they are not too long.
pub spelled_are : (d m : ℕ) (w : What) (ks : List Token) → Spells file_limits d m w ks → Are ks (tokens_of w)
spelled_are d m w ks (is_return c v k x) = form_are word.Return k (literal_tokens v) (Term-F.Return v) (term.Return v) (term.rolls-Return v) refl (literal_are v k x)
spelled_are d m w ks (is_fail c f t k x) =
    form_are word.Fail (Name (kind_letters f) ∷ k ∷ []) (Name (kind_letters f) ∷ Words t ∷ []) (Term-F.Fail f t) (term.Fail f t) (term.rolls-Fail f t) refl (following_are _ _ (k ∷ []) (Words t ∷ []) (refl, tt) (following_are k (Words t) [] [] (text_is t k x) none_are))
spelled_are d m w ks (is_input c n k x) = form_are word.Input (k ∷ []) (Name n ∷ []) (Term-F.Input n) (term.Input n) (term.rolls-Input n) refl (following_are k (Name n) [] [] (name_is n k x) none_are)
spelled_are d m w ks (is_node c n k x) = form_are word.Node (k ∷ []) (Name n ∷ []) (Term-F.Node n) (term.Node n) (term.rolls-Node n) refl (following_are k (Name n) [] [] (name_is n k x) none_are)
spelled_are d m w ks (is_var c n k x) = form_are word.Var (k ∷ []) (Name n ∷ []) (Term-F.Var n) (term.Var n) (term.rolls-Var n) refl (following_are k (Name n) [] [] (name_is n k x) none_are)
spelled_are d m w ks (is_map c i f a ka x) =
    form_are word.Map (Name (fun_letters f) ∷ ka) (Name (fun_letters f) ∷ term_tokens a) (Term-F.Map f a) (term.Map f a) (term.rolls-Map f a) refl (following_are _ _ ka (term_tokens a) (refl, tt) (spelled_are c i (one a) ka x))
spelled_are d m w ks (is_pair c i j a b ka kb x y) =
    form_are word.Pair (ka ++ kb) (term_tokens a ++ term_tokens b) (Term-F.Pair a b) (term.Pair a b) (term.rolls-Pair a b) refl (both_are ka (term_tokens a) kb (term_tokens b) (spelled_are c i (one a) ka x) (spelled_are c j (one b) kb y))
spelled_are d m w ks (is_bind c i j z k a b ka kb h x y) =
    form_are word.Bind (k ∷ (ka ++ kb)) (Name z ∷ (term_tokens a ++ term_tokens b)) (Term-F.Bind z a b) (term.Bind z a b) (term.rolls-Bind z a b) refl
    (following_are k (Name z) (ka ++ kb) (term_tokens a ++ term_tokens b) (name_is z k h) (both_are ka (term_tokens a) kb (term_tokens b) (spelled_are c i (one a) ka x) (spelled_are c j (one b) kb y)))
spelled_are d m w ks (is_list_map c i j z k a b ka kb h x y) =
    form_are word.ListMap (k ∷ (ka ++ kb)) (Name z ∷ (term_tokens a ++ term_tokens b)) (Term-F.ListMap z a b) (term.ListMap z a b) (term.rolls-ListMap z a b) refl
    (following_are k (Name z) (ka ++ kb) (term_tokens a ++ term_tokens b) (name_is z k h) (both_are ka (term_tokens a) kb (term_tokens b) (spelled_are c i (one a) ka x) (spelled_are c j (one b) kb y)))
spelled_are d m w ks (is_list_iter c i j z k a b ka kb h x y) =
    form_are word.ListIter (k ∷ (ka ++ kb)) (Name z ∷ (term_tokens a ++ term_tokens b)) (Term-F.ListIter z a b) (term.ListIter z a b) (term.rolls-ListIter z a b) refl
    (following_are k (Name z) (ka ++ kb) (term_tokens a ++ term_tokens b) (name_is z k h) (both_are ka (term_tokens a) kb (term_tokens b) (spelled_are c i (one a) ka x) (spelled_are c j (one b) kb y)))
spelled_are d m w ks (is_catch c i a ka x) = form_are word.Catch ka (term_tokens a) (Term-F.Catch a) (term.Catch a) (term.rolls-Catch a) refl (spelled_are c i (one a) ka x)
spelled_are d m w ks (is_state c i a ka x) = form_are word.State ka (term_tokens a) (Term-F.State a) (term.State a) (term.rolls-State a) refl (spelled_are c i (one a) ka x)
spelled_are d m w ks (is_gate c i j a b ka kb x y) =
    form_are word.Gate (ka ++ kb) (term_tokens a ++ term_tokens b) (Term-F.Gate a b) (term.Gate a b) (term.rolls-Gate a b) refl (both_are ka (term_tokens a) kb (term_tokens b) (spelled_are c i (one a) ka x) (spelled_are c j (one b) kb y))
spelled_are d m w ks (is_all c i ts k x) = form_are word.All k (flat_map (λ (l : List Token). l) (map term_tokens ts)) (Term-F.All ts) (term.All ts) (term.rolls-All ts) refl (spelled_are c i (many ts) k x)
spelled_are d m w ks (is_build c i n k a ka h x) =
    form_are word.Build (k ∷ ka) (Name n ∷ term_tokens a) (Term-F.Build n a) (term.Build n a) (term.rolls-Build n a) refl (following_are k (Name n) ka (term_tokens a) (name_is n k h) (spelled_are c i (one a) ka x))
spelled_are d m w ks (is_output c i j z k a b ka kb h x y) =
    form_are word.Output (k ∷ (ka ++ kb)) (Name z ∷ (term_tokens a ++ term_tokens b)) (Term-F.Output z a b) (term.Output z a b) (term.rolls-Output z a b) refl
    (following_are k (Name z) (ka ++ kb) (term_tokens a ++ term_tokens b) (name_is z k h) (both_are ka (term_tokens a) kb (term_tokens b) (spelled_are c i (one a) ka x) (spelled_are c j (one b) kb y)))
spelled_are d m w ks (no_more c) = none_are
spelled_are d m w ks (one_more c i j a more ka k x y) = both_are ka (term_tokens a) k (flat_map (λ (l : List Token). l) (map term_tokens more)) (spelled_are c i (one a) ka x) (spelled_are c j (many more) k y)
