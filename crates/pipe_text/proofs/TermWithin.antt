-- A term that is spelled by tokens in form is within the limits.
use Rattle.std.proofs.Common.{◌≡◌, ℕ, suc, ◌+◌, ◌≤◌, Bool, true, List, [], ◌∷◌, ◌++◌, map, length, refl, sym, ap, subst, ◌∙◌, arith}
use Rattle.std.specs.Prelude.{nat_le, sum, ◌^◌, nat_lt}
use Rattle.std.specs.List.{list_all}
use Rattle.std.proofs.lemmas.Bool.Decides.{nat_tests}
use Rattle.std.proofs.lemmas.List.Sums.{sum_by-cons}
use Rattle.value_core.specs.declared.token.Token.{Token}
use Rattle.value_core.specs.declared.token.Token.TheVariants.{Name, Number, Words, Mark, LongName, LongText}
use Rattle.value_core.specs.declared.value.Value.{Value, Value-F, out-Value}
use Rattle.value_core.specs.declared.value.Value.TheVariants as value
use Rattle.value_core.specs.Parts.{text_values}
use Rattle.value_core.specs.Values.{weight_of}
use Rattle.term_core.specs.declared.program.Term.{Term, Term-F, roll-Term, map-Term, fold-roll-Term}
use Rattle.term_core.specs.declared.program.Term.TheVariants as term
use Rattle.value_core.specs.Names.{is_name}
use Rattle.term_core.specs.Limits.{is_text as fits_text, is_text_layer, is_input_layer, is_literal_layer, is_literal, words_step, has_good_words, parts_of, greatest, terms_in, depth_of}
use Rattle.pipe_text.specs.declared.words.BodyWord.{BodyWord}
use Rattle.pipe_text.specs.declared.words.BodyWord.TheVariants as word
use Rattle.pipe_text.specs.Words.{fun_letters, kind_letters}
use Rattle.pipe_text.specs.Files.{file_limits}
use Rattle.pipe_text.specs.Grammar.{NameIs, TextIs, Texts, Items, list_of, IsLiteral, is_text, is_number, is_unit, is_list, form, What, one, many, Spells, is_return, is_fail, is_input, is_node, is_var, is_map, is_pair, is_bind, is_list_map, is_list_iter, is_catch, is_state, is_gate, is_all, is_build, is_output, no_more, one_more}
use Rattle.pipe_text.proofs.GoodTokens.{IsGood, bytes_of, bytes_in, Good, bytes_append, good_left, good_right, good_rest, good_first}
use Rattle.value_core.proofs.Basics.{and_both, is_nat_le}
use Rattle.value_core.proofs.Layers.{list_weight, num_weight, out_at, unit_weight, words_weight}

-- ---- names and texts

pub name_good : (n : List ℕ) (k : Token) → NameIs file_limits n k → IsGood k → is_name n ≡ true
name_good n (Name m) e g = rw e g
name_good n LongName (long, none) g = absurd cc
name_good n (Words m) e g = absurd e
name_good n (Number m) e g = absurd e
name_good n (Mark m) e g = absurd e
name_good n LongText e g = absurd e

pub text_good : (t : List ℕ) (k : Token) → TextIs file_limits t k → IsGood k → fits_text t ≡ true
text_good t (Words m) e g = rw e g.0
text_good t LongText (long, none) g = absurd cc
text_good t (Name m) e g = absurd e
text_good t (Number m) e g = absurd e
text_good t (Mark m) e g = absurd e
text_good t LongName e g = absurd e

pub text_bytes : (t : List ℕ) (k : Token) → TextIs file_limits t k → length t + 2 ≤ bytes_of k
text_bytes t (Words m) e = rw e (omega arith)
text_bytes t LongText (long, none) = absurd cc
text_bytes t (Name m) e = absurd e
text_bytes t (Number m) e = absurd e
text_bytes t (Mark m) e = absurd e
text_bytes t LongName e = absurd e

-- ---- literals

abbrev pub TextsWithin : List (List ℕ) → ℕ → Type 0
TextsWithin ts n = (list_all (λ x. is_text_layer (out-Value x)) (text_values ts) ≡ true) × (sum (map weight_of (text_values ts)) ≤ n) × (length (text_values ts) ≡ length ts)

one_more_within : (t : List ℕ) (ts : List (List ℕ)) (n : ℕ) → fits_text t ≡ true → TextsWithin ts n → TextsWithin (t ∷ ts) (length t + 1 + n)
one_more_within t ts n g (all, few, same) =
    let weight = words_weight t in
    let sums = sum_by-cons (λ x. x) (weight_of (value.Words t)) (map weight_of (text_values ts)) in (
      and_both _ _ (rw (out_at (Value-F.Words t) (value.Words t) (value.rolls-Words t)) g) all,
      omega (arith, few, weight, sums),
      ap suc same,
    )

texts_within : (before following : List Token) (ts : List (List ℕ)) (ks : List Token) → Texts before following file_limits ts ks → Good ks → TextsWithin ts (bytes_in ks)
texts_within before following [] ks e g = (refl, omega arith, refl)
texts_within before following (t ∷ ts) ks (k, more, parts, is, rest) g =
    let following_good = good_right before (k ∷ more) (subst Good parts g) in
    let later = texts_within before following ts more rest (good_rest k more following_good) in
    let here = one_more_within t ts (bytes_in more) (text_good t k is (good_first k more following_good)) later in
    let some = text_bytes t k is in
    let sum_of = bytes_append before (k ∷ more) in
    let whole : bytes_in ks ≡ bytes_in (before ++ k ∷ more) = ap bytes_in parts in
    let few = here.1 in
    (here.0, omega (arith, few, some, sum_of, whole), here.2)

-- the texts of a list: not too many, each within the limit, and together no longer than a literal may be
abbrev pub ItemsWithin : List (List ℕ) → Type 0
ItemsWithin ts = (list_all (λ x. is_text_layer (out-Value x)) (text_values ts) ≡ true) × (1 + sum (map weight_of (text_values ts)) ≤ 1048576) × (length (text_values ts) ≤ 256)

items_within : (ts : List (List ℕ)) (k : Token) (ks : List Token) → Items file_limits ts ks → Good (k ∷ ks) → ItemsWithin ts
items_within [] k ks e g = (refl, omega arith, omega arith)
items_within (t ∷ ts) k ks (j, more, parts, is, few, rest) g =
    let good : Good (j ∷ more) = subst Good parts (good_rest k ks g) in
    let later = texts_within (Mark 44 ∷ []) (Mark 93 ∷ []) ts more rest (good_rest j more good) in
    let here = one_more_within t ts (bytes_in more) (text_good t j is (good_first j more good)) later in
    let some = text_bytes t j is in
    let small = good.small in
    let fits = here.1 in
    let same = here.2 in
    (here.0, omega (arith, fits, some, small), omega (arith, same, few))

pub list_layer : (ts : List (List ℕ)) → ItemsWithin ts → is_input_layer (out-Value (list_of ts)) ≡ true
list_layer ts (all, few, count) = rw (out_at (Value-F.List (text_values ts)) (list_of ts) (value.rolls-List (text_values ts))) (and_both _ _ (is_nat_le (length (text_values ts)) 256 count) all)

pub list_light : (ts : List (List ℕ)) → ItemsWithin ts → weight_of (list_of ts) ≤ 1048576
list_light ts (all, few, count) = let w = list_weight (text_values ts) in omega (arith, w, few)

pub words_layer : (t : List ℕ) → fits_text t ≡ true → is_input_layer (out-Value (value.Words t)) ≡ true
words_layer t g = rw (out_at (Value-F.Words t) (value.Words t) (value.rolls-Words t)) g

pub words_text_layer : (t : List ℕ) → fits_text t ≡ true → is_text_layer (out-Value (value.Words t)) ≡ true
words_text_layer t g = rw (out_at (Value-F.Words t) (value.Words t) (value.rolls-Words t)) g

pub words_light : (t : List ℕ) → fits_text t ≡ true → weight_of (value.Words t) ≤ 1048576
words_light t g = let w = words_weight t in let few : length t ≤ 65536 = grind (arith, nat_tests, g) in omega (arith, w, few)

pub num_layer : (n : ℕ) → nat_lt n (2 ^ 64) ≡ true → is_input_layer (out-Value (value.Num n)) ≡ true
num_layer n bits = rw (out_at (Value-F.Num n) (value.Num n) (value.rolls-Num n)) bits

pub num_light : (n : ℕ) → weight_of (value.Num n) ≤ 1048576
num_light n = let w = num_weight n in omega (arith, w)

words_literal : (t : List ℕ) → fits_text t ≡ true → is_literal (value.Words t) ≡ true
words_literal t g = and_both _ _ (rw (out_at (Value-F.Words t) (value.Words t) (value.rolls-Words t)) g) (is_nat_le _ _ (words_light t g))

num_literal : (n : ℕ) → nat_lt n (2 ^ 64) ≡ true → is_literal (value.Num n) ≡ true
num_literal n bits = and_both _ _ (rw (out_at (Value-F.Num n) (value.Num n) (value.rolls-Num n)) bits) (is_nat_le _ _ (num_light n))

unit_literal : is_literal value.Unit ≡ true
unit_literal = and_both (is_literal_layer (out-Value value.Unit)) (nat_le (weight_of value.Unit) 1048576) (rw (out_at Value-F.Unit value.Unit value.rolls-Unit) refl) (is_nat_le _ _ (let w = unit_weight in omega (arith, w)))

list_literal : (ts : List (List ℕ)) → ItemsWithin ts → is_literal (list_of ts) ≡ true
list_literal ts w = and_both _ _ (rw (out_at (Value-F.List (text_values ts)) (list_of ts) (value.rolls-List (text_values ts))) (and_both _ _ (is_nat_le (length (text_values ts)) 256 w.2) w.0)) (is_nat_le _ _ (list_light ts w))

pub literal_within : (v : Value) (ks : List Token) → IsLiteral file_limits v ks → Good ks → is_literal v ≡ true
literal_within v ks (is_text t k e) g = words_literal t (text_good t k e (good_first k [] g))
literal_within v ks (is_number n) g = num_literal n (good_first (Number n) [] g)
literal_within v ks is_unit g = unit_literal
literal_within v ks (is_list ts more items) g = list_literal ts (items_within ts (Mark 91) more items g)

pub list_within : (ts : List (List ℕ)) (k : Token) (ks : List Token) → Items file_limits ts ks → Good (k ∷ ks) → ItemsWithin ts
list_within ts k ks items g = items_within ts k ks items g

-- ---- terms

abbrev pub Within : ℕ → ℕ → What → Type 0
Within d m (one t) = (terms_in t ≡ m) × (depth_of t ≤ d) × (has_good_words t ≡ true)
Within d m (many ts) = (sum (map terms_in ts) ≡ m) × (greatest (map depth_of ts) ≤ d) × (list_all (λ b. b) (map has_good_words ts) ≡ true)

layer : (d m : ℕ) (x : Term-F Term) (t : Term) → roll-Term x ≡ t → sum (parts_of (map-Term Term ℕ terms_in x)) ≡ m → greatest (parts_of (map-Term Term ℕ depth_of x)) ≤ d → words_step (map-Term Term Bool has_good_words x) ≡ true → Within (suc d) (1 + m) (one t)
layer d m x t e count deep words =
    let terms : terms_in t ≡ 1 + sum (parts_of (map-Term Term ℕ terms_in x)) = ap terms_in (sym e) ∙ fold-roll-Term ℕ (λ y. 1 + sum (parts_of y)) x in
    let depth : depth_of t ≡ 1 + greatest (parts_of (map-Term Term ℕ depth_of x)) = ap depth_of (sym e) ∙ fold-roll-Term ℕ (λ y. 1 + greatest (parts_of y)) x in
    (omega (arith, terms, count), omega (arith, depth, deep), ap has_good_words (sym e) ∙ fold-roll-Term Bool words_step x ∙ words)

leaf : (d : ℕ) (x : Term-F Term) (t : Term) → roll-Term x ≡ t → parts_of (map-Term Term ℕ terms_in x) ≡ [] → parts_of (map-Term Term ℕ depth_of x) ≡ [] → words_step (map-Term Term Bool has_good_words x) ≡ true → Within (suc d) 1 (one t)
leaf d x t e none_terms none_depth words = layer d 0 x t e (rw none_terms refl) (rw none_depth (omega arith)) words

good_form : (w : BodyWord) (ks : List Token) → Good (form w ks) → Good ks
good_form w ks g = good_left ks (Mark 41 ∷ []) (good_rest _ _ (good_rest _ _ g))

two_counts : (a b m n : ℕ) → a ≡ m → b ≡ n → sum (a ∷ b ∷ []) ≡ m + n
two_counts a b m n e h = omega (arith, e, h)

one_count : (a m : ℕ) → a ≡ m → sum (a ∷ []) ≡ m
one_count a m e = omega (arith, e)

two_deep : (a b d : ℕ) → a ≤ d → b ≤ d → greatest (a ∷ b ∷ []) ≤ d
two_deep a b d e h = omega (arith, e, h)

one_deep : (a d : ℕ) → a ≤ d → greatest (a ∷ []) ≤ d
one_deep a d e = omega (arith, e)

more_within : (d m n : ℕ) (a : Term) (ts : List Term) → Within d m (one a) → Within d n (many ts) → Within d (m + n) (many (a ∷ ts))
more_within d m n a ts (c, deep, g) (cs, deeper, gs) =
    let sums = sum_by-cons (λ x. x) (terms_in a) (map terms_in ts) in
    (omega (arith, c, cs, sums), omega (arith, deep, deeper), and_both _ _ g gs)

-- a term of two others after what stands before them
two_within : (d m n : ℕ) (a b : Term) (x : Term-F Term) (t : Term) → roll-Term x ≡ t → parts_of (map-Term Term ℕ terms_in x) ≡ terms_in a ∷ terms_in b ∷ [] → parts_of (map-Term Term ℕ depth_of x) ≡ depth_of a ∷ depth_of b ∷ []
    → words_step (map-Term Term Bool has_good_words x) ≡ true → Within d m (one a) → Within d n (one b) → Within (suc d) (1 + (m + n)) (one t)
two_within d m n a b x t e ps qs words (c1, d1, g1) (c2, d2, g2) = layer d (m + n) x t e (rw ps (two_counts (terms_in a) (terms_in b) m n c1 c2)) (rw qs (two_deep (depth_of a) (depth_of b) d d1 d2)) words

one_within : (d m : ℕ) (a : Term) (x : Term-F Term) (t : Term) → roll-Term x ≡ t → parts_of (map-Term Term ℕ terms_in x) ≡ terms_in a ∷ [] → parts_of (map-Term Term ℕ depth_of x) ≡ depth_of a ∷ []
    → words_step (map-Term Term Bool has_good_words x) ≡ true → Within d m (one a) → Within (suc d) (1 + m) (one t)
one_within d m a x t e ps qs words (c, deep, g) = layer d m x t e (rw ps (one_count (terms_in a) m c)) (rw qs (one_deep (depth_of a) d deep)) words

-- What is spelled by tokens in form has just so many terms, at most so many inside one another, and names, texts and literals within the limits.
pub spelled_within : (d m : ℕ) (w : What) (ks : List Token) → Spells file_limits d m w ks → Good ks → Within d m w
spelled_within d m w ks (is_return c v k x) g = leaf c (Term-F.Return v) (term.Return v) (term.rolls-Return v) refl refl (literal_within v k x (good_form word.Return k g))
spelled_within d m w ks (is_fail c f t k x) g = leaf c (Term-F.Fail f t) (term.Fail f t) (term.rolls-Fail f t) refl refl (text_good t k x (good_first k [] (good_rest (Name (kind_letters f)) (k ∷ []) (good_form word.Fail (Name (kind_letters f) ∷ k ∷ []) g))))
spelled_within d m w ks (is_input c n k x) g = leaf c (Term-F.Input n) (term.Input n) (term.rolls-Input n) refl refl (name_good n k x (good_first k [] (good_form word.Input (k ∷ []) g)))
spelled_within d m w ks (is_node c n k x) g = leaf c (Term-F.Node n) (term.Node n) (term.rolls-Node n) refl refl (name_good n k x (good_first k [] (good_form word.Node (k ∷ []) g)))
spelled_within d m w ks (is_var c n k x) g = leaf c (Term-F.Var n) (term.Var n) (term.rolls-Var n) refl refl (name_good n k x (good_first k [] (good_form word.Var (k ∷ []) g)))
spelled_within d m w ks (is_map c i f a ka x) g = let r = spelled_within c i (one a) ka x (good_rest (Name (fun_letters f)) ka (good_form word.Map (Name (fun_letters f) ∷ ka) g)) in one_within c i a (Term-F.Map f a) (term.Map f a) (term.rolls-Map f a) refl refl r.2 r
spelled_within d m w ks (is_pair c i j a b ka kb x y) g =
    let good = good_form word.Pair (ka ++ kb) g in
    let r = spelled_within c i (one a) ka x (good_left ka kb good) in
    let q = spelled_within c j (one b) kb y (good_right ka kb good) in
    two_within c i j a b (Term-F.Pair a b) (term.Pair a b) (term.rolls-Pair a b) refl refl (and_both _ _ r.2 q.2) r q
spelled_within d m w ks (is_bind c i j z k a b ka kb h x y) g =
    let good = good_form word.Bind (k ∷ (ka ++ kb)) g in
    let rest = good_rest k (ka ++ kb) good in
    let r = spelled_within c i (one a) ka x (good_left ka kb rest) in
    let q = spelled_within c j (one b) kb y (good_right ka kb rest) in
    two_within c i j a b (Term-F.Bind z a b) (term.Bind z a b) (term.rolls-Bind z a b) refl refl (and_both _ _ (name_good z k h (good_first k (ka ++ kb) good)) (and_both _ _ r.2 q.2)) r q
spelled_within d m w ks (is_list_map c i j z k a b ka kb h x y) g =
    let good = good_form word.ListMap (k ∷ (ka ++ kb)) g in
    let rest = good_rest k (ka ++ kb) good in
    let r = spelled_within c i (one a) ka x (good_left ka kb rest) in
    let q = spelled_within c j (one b) kb y (good_right ka kb rest) in
    two_within c i j a b (Term-F.ListMap z a b) (term.ListMap z a b) (term.rolls-ListMap z a b) refl refl (and_both _ _ (name_good z k h (good_first k (ka ++ kb) good)) (and_both _ _ r.2 q.2)) r q
spelled_within d m w ks (is_list_iter c i j z k a b ka kb h x y) g =
    let good = good_form word.ListIter (k ∷ (ka ++ kb)) g in
    let rest = good_rest k (ka ++ kb) good in
    let r = spelled_within c i (one a) ka x (good_left ka kb rest) in
    let q = spelled_within c j (one b) kb y (good_right ka kb rest) in
    two_within c i j a b (Term-F.ListIter z a b) (term.ListIter z a b) (term.rolls-ListIter z a b) refl refl (and_both _ _ (name_good z k h (good_first k (ka ++ kb) good)) (and_both _ _ r.2 q.2)) r q
spelled_within d m w ks (is_catch c i a ka x) g = let r = spelled_within c i (one a) ka x (good_form word.Catch ka g) in one_within c i a (Term-F.Catch a) (term.Catch a) (term.rolls-Catch a) refl refl r.2 r
spelled_within d m w ks (is_state c i a ka x) g = let r = spelled_within c i (one a) ka x (good_form word.State ka g) in one_within c i a (Term-F.State a) (term.State a) (term.rolls-State a) refl refl r.2 r
spelled_within d m w ks (is_gate c i j a b ka kb x y) g =
    let good = good_form word.Gate (ka ++ kb) g in
    let r = spelled_within c i (one a) ka x (good_left ka kb good) in
    let q = spelled_within c j (one b) kb y (good_right ka kb good) in
    two_within c i j a b (Term-F.Gate a b) (term.Gate a b) (term.rolls-Gate a b) refl refl (and_both _ _ r.2 q.2) r q
spelled_within d m w ks (is_all c i ts k x) g = let r = spelled_within c i (many ts) k x (good_form word.All k g) in layer c i (Term-F.All ts) (term.All ts) (term.rolls-All ts) r.0 r.1 r.2
spelled_within d m w ks (is_build c i n k a ka h x) g =
    let good = good_form word.Build (k ∷ ka) g in
    let r = spelled_within c i (one a) ka x (good_rest k ka good) in
    one_within c i a (Term-F.Build n a) (term.Build n a) (term.rolls-Build n a) refl refl (and_both _ _ (name_good n k h (good_first k ka good)) r.2) r
spelled_within d m w ks (is_output c i j z k a b ka kb h x y) g =
    let good = good_form word.Output (k ∷ (ka ++ kb)) g in
    let rest = good_rest k (ka ++ kb) good in
    let r = spelled_within c i (one a) ka x (good_left ka kb rest) in
    let q = spelled_within c j (one b) kb y (good_right ka kb rest) in
    two_within c i j a b (Term-F.Output z a b) (term.Output z a b) (term.rolls-Output z a b) refl refl (and_both _ _ (name_good z k h (good_first k (ka ++ kb) good)) (and_both _ _ r.2 q.2)) r q
spelled_within d m w ks (no_more c) g = (refl, omega arith, refl)
spelled_within d m w ks (one_more c i j a more ka k x y) g = more_within c i j a more (spelled_within c i (one a) ka x (good_left ka k g)) (spelled_within c j (many more) k y (good_right ka k g))
