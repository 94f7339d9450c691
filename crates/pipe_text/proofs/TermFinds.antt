-- What is read as a term is spelled so.
use Rattle.std.proofs.Common.{◌≡◌, ℕ, zero, suc, ◌+◌, ◌-◌, ◌<◌, ◌≤◌, false, List, [], ◌∷◌, ◌++◌, length, refl, ◌∙◌, append_assoc, arith, inl, inr}
use Rattle.std.specs.Prelude.{◌==◌, Ok, Option, Some, None, codes}
use Rattle.std.proofs.lemmas.Bool.Decides.{nat_tests}
use Rattle.std.proofs.lemmas.List.{append-nil}
use Rattle.value_core.specs.declared.token.Token.{Token}
use Rattle.value_core.specs.declared.token.Token.TheVariants.{Name, Number, Words, Mark, LongName, LongText}
use Rattle.value_core.specs.declared.value.Value.{Value}
use Rattle.value_core.specs.declared.value.Value.TheVariants as value
use Rattle.term_core.specs.declared.program.Term.{Term}
use Rattle.term_core.specs.declared.program.Term.TheVariants as term
use Rattle.pipe_text.specs.declared.words.BodyWord.{BodyWord}
use Rattle.pipe_text.specs.declared.words.BodyWord.TheVariants as word
use Rattle.pipe_text.specs.declared.fault.LimitName.{LimitName}
use Rattle.pipe_text.specs.declared.fault.LimitName.TheVariants as limit
use Rattle.pipe_text.specs.Words.{body_letters, body_word, fun_letters, fun_word, kind_letters, kind_word}
use Rattle.value_core.specs.Literals.{is_mark_of}
use Rattle.pipe_text.specs.inside.Readers.{Reader, give, seq, mark_at, chosen, word_at, keyword_at, only, is_string}
use Rattle.pipe_text.specs.Grammar.{Limits, NameIs, TextIs, NumberIs, is_within, Texts, Items, list_of, IsLiteral, is_text, is_number, is_unit, is_list, form, one, many, Spells, is_return, is_fail, is_input, is_node, is_var, is_map, is_pair, is_bind, is_list_map, is_list_iter, is_catch, is_state, is_gate, is_all, is_build, is_output, no_more, one_more}
use Rattle.pipe_text.specs.inside.TermReading.{name_choice, name_at, text_choice, text_at, number_choice, number_at, room_choice, room_at, item_choice, item_at, command_word_at, with_text_read, texts_at, items_at, literal_choice, literal_at, Counted, open_choice, open_at, two_at, part_at, with_part, parts_at, body_at, term_at}
use Rattle.pipe_text.proofs.Finding.{Finds, finds_same, Nothing, finds_give, Then, finds_seq, Dressed, finds_as, FindsFor, for_if, finds_by, finds_one, Either, finds_peek, Single, IsMark, finds_mark, IsWord, finds_word}
use Rattle.pipe_text.proofs.WordLaws.{body_letters_are, fun_letters_are, kind_letters_are, only_letters}
use Rattle.value_core.proofs.Basics.{nat_is}

-- a word in its letters
abbrev pub Lettered : {W : Type 0} → (W → List ℕ) → W → List Token → Type 0
Lettered letters w ks = ks ≡ Name (letters w) ∷ []

lettered : {W : Type 0} (find : List ℕ → Option W) (letters : W → List ℕ) → ((n : List ℕ) (w : W) → find n ≡ Some w → n ≡ letters w) → (w : W) (ks : List Token) → Single (IsWord find) w ks → Lettered letters w ks
lettered find letters are w ks (k, parts, (n, is, found)) = parts ∙ (λ i. is i ∷ []) ∙ (λ i. Name (are n w found i) ∷ [])

pub finds_letters : {W : Type 0} (find : List ℕ → Option W) (letters : W → List ℕ) → ((n : List ℕ) (w : W) → find n ≡ Some w → n ≡ letters w) → Finds (word_at find) (Lettered letters)
finds_letters find letters are = finds_same (word_at find) (Single (IsWord find)) (Lettered letters) (finds_word find) (lettered find letters are)

-- ---- names and texts

abbrev pub OneName : Limits → List ℕ → List Token → Type 0
OneName lim n ks = (k : Token) × (ks ≡ k ∷ []) × NameIs lim n k

abbrev pub OneText : Limits → List ℕ → List Token → Type 0
OneText lim n ks = (k : Token) × (ks ≡ k ∷ []) × TextIs lim n k

name_for : (lim : Limits) (k : Token) → FindsFor (name_choice lim k) (λ n more. OneName lim n (k ∷ more))
name_for lim (Name m) = finds_one (λ n more. OneName lim n (Name m ∷ more)) m (Name m, refl, refl)
name_for lim LongName = for_if (lim.lifted limit.Name) _ _ _ (λ e. finds_one (λ n more. OneName lim n (LongName ∷ more)) [] (LongName, refl, (e, refl))) (λ e. tt)
name_for lim (Number m) = tt
name_for lim (Words m) = tt
name_for lim (Mark m) = tt
name_for lim LongText = tt

pub finds_name : (lim : Limits) → Finds (name_at lim) (OneName lim)
finds_name lim = finds_by (name_choice lim) (OneName lim) (name_for lim)

text_for : (lim : Limits) (k : Token) → FindsFor (text_choice lim k) (λ n more. OneText lim n (k ∷ more))
text_for lim (Words m) = finds_one (λ n more. OneText lim n (Words m ∷ more)) m (Words m, refl, refl)
text_for lim LongText = for_if (lim.lifted limit.Text) _ _ _ (λ e. finds_one (λ n more. OneText lim n (LongText ∷ more)) [] (LongText, refl, (e, refl))) (λ e. tt)
text_for lim (Number m) = tt
text_for lim (Name m) = tt
text_for lim (Mark m) = tt
text_for lim LongName = tt

pub finds_text : (lim : Limits) → Finds (text_at lim) (OneText lim)
finds_text lim = finds_by (text_choice lim) (OneText lim) (text_for lim)

pub finds_keyword : (letters : List ℕ) → Finds (keyword_at letters) (Lettered (λ u. letters))
finds_keyword letters = finds_letters (only letters) (λ u. letters) (only_letters letters)

abbrev pub OneNumber : Limits → LimitName → ℕ → List Token → Type 0
OneNumber lim what n ks = (k : Token) × (ks ≡ k ∷ []) × NumberIs lim what n k

number_for : (lim : Limits) (what : LimitName) (k : Token) → FindsFor (number_choice lim what k) (λ n more. OneNumber lim what n (k ∷ more))
number_for lim what (Number m) = for_if (is_within lim what m) _ _ _ (λ e. finds_one (λ n more. OneNumber lim what n (Number m ∷ more)) m (Number m, refl, (refl, e))) (λ e. tt)
number_for lim what (Name m) = tt
number_for lim what (Words m) = tt
number_for lim what (Mark m) = tt
number_for lim what LongName = tt
number_for lim what LongText = tt

pub finds_number : (lim : Limits) (what : LimitName) → Finds (number_at lim what) (OneNumber lim what)
finds_number lim what = finds_by (number_choice lim what) (OneNumber lim what) (number_for lim what)

-- ---- lists and literals

pub some_left : (n : ℕ) → (n == 0) ≡ false → 0 < n
some_left n e = grind (arith, nat_tests)

-- a text, for which there is room
abbrev RoomText : Limits → ℕ → List ℕ → List Token → Type 0
RoomText lim n t ks = OneText lim t ks × (0 < n)

room_for : (lim : Limits) (what : LimitName) (n : ℕ) (k : Token) → FindsFor (room_choice lim what n k) (λ t more. RoomText lim n t (k ∷ more))
room_for lim what n (Words m) = for_if (n == 0) _ _ _ (λ e. tt) (λ e. finds_one (λ t more. RoomText lim n t (Words m ∷ more)) m ((Words m, refl, refl), some_left n e))
room_for lim what n LongText = for_if (lim.lifted limit.Text) _ _ _ (λ l. for_if (n == 0) _ _ _ (λ e. tt) (λ e. finds_one (λ t more. RoomText lim n t (LongText ∷ more)) [] ((LongText, refl, (l, refl)), some_left n e))) (λ e. tt)
room_for lim what n (Number m) = tt
room_for lim what n (Name m) = tt
room_for lim what n (Mark m) = tt
room_for lim what n LongName = tt

finds_room : (lim : Limits) (what : LimitName) (n : ℕ) → Finds (room_at lim what n) (RoomText lim n)
finds_room lim what n = finds_by (room_choice lim what n) (RoomText lim n) (room_for lim what n)

-- the end of the texts, or one more for which there is room
abbrev pub TextLang : List Token → List Token → Limits → ℕ → Option (List ℕ) → List Token → Type 0
TextLang before following lim n None ks = ks ≡ following
TextLang before following lim n (Some t) ks = (k : Token) × (ks ≡ before ++ k ∷ []) × TextIs lim t k × (0 < n)

abbrev pub ItemLang : Limits → ℕ → Option (List ℕ) → List Token → Type 0
ItemLang = TextLang (Mark 44 ∷ []) (Mark 93 ∷ [])

item_of : (lim : Limits) (n m : ℕ) → m ≡ 44 → (o : Option (List ℕ)) (more : List Token) → Dressed (λ t. Some t) (RoomText lim n) o more → ItemLang lim n o (Mark m ∷ more)
item_of lim n m is o more (t, o_is, ((k, parts, l), some)) = rw (o_is, is, parts) (k, refl, l, some)

text_item : (lim : Limits) (n m : ℕ) → m ≡ 44 → Finds (seq (room_at lim limit.List n) (λ t. give (Some t))) (λ o more. ItemLang lim n o (Mark m ∷ more))
text_item lim n m is = finds_same _ (Dressed (λ t. Some t) (RoomText lim n)) (λ o more. ItemLang lim n o (Mark m ∷ more)) (finds_as (room_at lim limit.List n) (λ t. Some t) (RoomText lim n) (finds_room lim limit.List n)) (item_of lim n m is)

item_for : (lim : Limits) (n : ℕ) (k : Token) → FindsFor (item_choice lim n k) (λ o more. ItemLang lim n o (k ∷ more))
item_for lim n (Mark m) = for_if (m == 93) _ _ _ (λ e. finds_one (λ o more. ItemLang lim n o (Mark m ∷ more)) None (rw (nat_is m 93 e) refl))
    (λ d. for_if (m == 44) _ _ _ (λ e. text_item lim n m (nat_is m 44 e)) (λ e. tt))
item_for lim n (Words m) = tt
item_for lim n LongText = tt
item_for lim n (Number m) = tt
item_for lim n (Name m) = tt
item_for lim n LongName = tt

pub finds_item : (lim : Limits) (n : ℕ) → Finds (item_at lim n) (ItemLang lim n)
unfolding item_at
finds_item lim n = finds_by (item_choice lim n) (ItemLang lim n) (item_for lim n)

abbrev pub WordLang : Limits → ℕ → Option (List ℕ) → List Token → Type 0
WordLang = TextLang [] []

word_of : (lim : Limits) (n : ℕ) (o : Option (List ℕ)) (ks : List Token) → Dressed (λ t. Some t) (RoomText lim n) o ks → WordLang lim n o ks
word_of lim n o ks (t, o_is, ((k, parts, l), some)) = rw (o_is, parts) (k, refl, l, some)

no_word : (lim : Limits) (n : ℕ) (o : Option (List ℕ)) (ks : List Token) → Nothing None o ks → WordLang lim n o ks
no_word lim n o ks (is, none) = rw is none

pub either : {A : Type 0} (L M N : A → List Token → Type 0) → ((a : A) (ks : List Token) → L a ks → N a ks) → ((a : A) (ks : List Token) → M a ks → N a ks) → (a : A) (ks : List Token) → Either L M a ks → N a ks
either L M N f g a ks (inl l) = f a ks l
either L M N f g a ks (inr m) = g a ks m

pub finds_command_word : (lim : Limits) (n : ℕ) → Finds (command_word_at lim n) (WordLang lim n)
unfolding command_word_at
finds_command_word lim n = finds_same _ (Either (Dressed (λ t. Some t) (RoomText lim n)) (Nothing None)) (WordLang lim n)
    (finds_peek is_string (seq (room_at lim limit.Words n) (λ t. give (Some t))) (give None) (Dressed (λ t. Some t) (RoomText lim n)) (Nothing None) (finds_as (room_at lim limit.Words n) (λ t. Some t) (RoomText lim n) (finds_room lim limit.Words n)) (finds_give None))
    (either _ _ (WordLang lim n) (word_of lim n) (no_word lim n))

abbrev pub TextsLang : List Token → List Token → Limits → ℕ → List (List ℕ) → List Token → Type 0
TextsLang before following lim n ts ks = (length ts ≤ n) × Texts before following lim ts ks

abbrev AfterText : List Token → List Token → Limits → ℕ → Option (List ℕ) → List (List ℕ) → List Token → Type 0
AfterText before following lim n None ts ks = (ts ≡ []) × (ks ≡ [])
AfterText before following lim n (Some t) ts ks = Dressed (λ xs. t ∷ xs) (TextsLang before following lim n) ts ks

after_text : (before following : List Token) (lim : Limits) (n : ℕ) (r : Reader (List (List ℕ))) → Finds r (TextsLang before following lim n) → (o : Option (List ℕ)) → Finds (with_text_read o r) (AfterText before following lim n o)
after_text before following lim n r x None = finds_give []
after_text before following lim n r x (Some t) = finds_as r (λ xs. t ∷ xs) (TextsLang before following lim n) x

texts_of : (before following : List Token) (lim : Limits) (n : ℕ) (ts : List (List ℕ)) (ks : List Token) → Then (TextLang before following lim (suc n)) (AfterText before following lim n) ts ks → TextsLang before following lim (suc n) ts ks
texts_of before following lim n ts ks (None, k1, k2, parts, item, (is, none)) = rw (is, parts, item, none) (omega arith, append-nil following)
texts_of before following lim n ts ks (Some t, k1, k2, parts, (k, item, l, some), (xs, is, (few, rest))) = rw (is, parts, item) (omega (arith, few), (k, k2, append_assoc before (k ∷ []) k2, l, rest))

abbrev AfterLast : Option (List ℕ) → List (List ℕ) → List Token → Type 0
AfterLast None ts ks = (ts ≡ []) × (ks ≡ [])
AfterLast (Some t) ts ks = Dressed (λ xs. t ∷ xs) (Nothing []) ts ks

after_last : (o : Option (List ℕ)) → Finds (with_text_read o (give [])) (AfterLast o)
after_last None = finds_give []
after_last (Some t) = finds_as (give []) (λ xs. t ∷ xs) (Nothing []) (finds_give [])

last_of : (before following : List Token) (lim : Limits) (ts : List (List ℕ)) (ks : List Token) → Then (TextLang before following lim 0) AfterLast ts ks → TextsLang before following lim 0 ts ks
last_of before following lim ts ks (None, k1, k2, parts, item, (is, none)) = rw (is, parts, item, none) (omega arith, append-nil following)
last_of before following lim ts ks (Some t, k1, k2, parts, (k, item, l, some), rest) = absurd (omega arith)

pub finds_texts : (before following : List Token) (lim : Limits) (r : ℕ → Reader (Option (List ℕ))) → ((n : ℕ) → Finds (r n) (TextLang before following lim n)) → (n : ℕ) → Finds (texts_at r n) (TextsLang before following lim n)
unfolding texts_at
finds_texts before following lim r x zero = finds_same _ (Then (TextLang before following lim 0) AfterLast) (TextsLang before following lim 0) (finds_seq (r 0) (λ o. with_text_read o (give [])) (TextLang before following lim 0) AfterLast (x 0) after_last) (last_of before following lim)
finds_texts before following lim r x (suc n) = finds_same _ (Then (TextLang before following lim (suc n)) (AfterText before following lim n)) (TextsLang before following lim (suc n))
    (finds_seq (r (suc n)) (λ o. with_text_read o (texts_at r n)) (TextLang before following lim (suc n)) (AfterText before following lim n) (x (suc n)) (after_text before following lim n (texts_at r n) (finds_texts before following lim r x n))) (texts_of before following lim n)

no_text : (lim : Limits) (ts : List (List ℕ)) (ks : List Token) → Dressed (λ u. []) (Single (IsMark 93)) ts ks → Items lim ts ks
no_text lim ts ks (u, is, (k, parts, mark)) = rw (is, parts, mark) refl

some_text : (lim : Limits) (ts : List (List ℕ)) (ks : List Token) → Then (OneText lim) (λ t. Dressed (λ xs. t ∷ xs) (TextsLang (Mark 44 ∷ []) (Mark 93 ∷ []) lim lim.more_items)) ts ks → Items lim ts ks
some_text lim ts ks (t, k1, k2, parts, (k, item, l), (xs, is, (few, rest))) = rw (is, parts, item) (k, k2, refl, l, few, rest)

pub finds_items : (lim : Limits) → Finds (items_at lim) (Items lim)
unfolding items_at
finds_items lim =
    let none : Reader (List (List ℕ)) = seq (mark_at 93) (λ u. give []) in
    let more : Reader (List (List ℕ)) = texts_at (item_at lim) lim.more_items in
    let some : Reader (List (List ℕ)) = seq (text_at lim) (λ t. seq more (λ ts. give (t ∷ ts))) in
    let M : List (List ℕ) → List Token → Type 0 = TextsLang (Mark 44 ∷ []) (Mark 93 ∷ []) lim lim.more_items in
    finds_same _ (Either (Dressed (λ u. []) (Single (IsMark 93))) (Then (OneText lim) (λ t. Dressed (λ xs. t ∷ xs) M))) (Items lim)
    (finds_peek (is_mark_of 93) none some (Dressed (λ u. []) (Single (IsMark 93))) (Then (OneText lim) (λ t. Dressed (λ xs. t ∷ xs) M)) (finds_as (mark_at 93) (λ u. []) (Single (IsMark 93)) (finds_mark 93))
    (finds_seq (text_at lim) (λ t. seq more (λ ts. give (t ∷ ts))) (OneText lim) (λ t. Dressed (λ xs. t ∷ xs) M) (finds_text lim)
    (λ t. finds_as more (λ xs. t ∷ xs) M (finds_texts (Mark 44 ∷ []) (Mark 93 ∷ []) lim (item_at lim) (finds_item lim) lim.more_items))))
    (either _ _ (Items lim) (no_text lim) (some_text lim))

list_of_items : (lim : Limits) (m : ℕ) → m ≡ 91 → (v : Value) (more : List Token) → Dressed list_of (Items lim) v more → IsLiteral lim v (Mark m ∷ more)
list_of_items lim m mark v more (ts, is, items) = rw (mark, is) (is_list ts more items)

unit_found : (lim : Limits) (n : List ℕ) (o : Option (Unit {0})) → only (codes "unit") n ≡ o → FindsFor (chosen (λ u. Ok (give value.Unit)) o) (λ v more. IsLiteral lim v (Name n ∷ more))
unit_found lim n None e = tt
unit_found lim n (Some u) e = finds_one (λ v more. IsLiteral lim v (Name n ∷ more)) value.Unit (rw (only_letters (codes "unit") n u e) is_unit)

literal_for : (lim : Limits) (k : Token) → FindsFor (literal_choice lim k) (λ v more. IsLiteral lim v (k ∷ more))
literal_for lim (Words m) = finds_one (λ v more. IsLiteral lim v (Words m ∷ more)) (value.Words m) (is_text m (Words m) refl)
literal_for lim LongText = for_if (lim.lifted limit.Text) _ _ _ (λ e. finds_one (λ v more. IsLiteral lim v (LongText ∷ more)) (value.Words []) (is_text [] LongText (e, refl))) (λ e. tt)
literal_for lim (Number m) = finds_one (λ v more. IsLiteral lim v (Number m ∷ more)) (value.Num m) (is_number m)
literal_for lim (Name m) = unit_found lim m (only (codes "unit") m) refl
literal_for lim (Mark m) = for_if (m == 91) _ _ _ (λ e. finds_same _ (Dressed list_of (Items lim)) (λ v more. IsLiteral lim v (Mark m ∷ more)) (finds_as (items_at lim) list_of (Items lim) (finds_items lim)) (list_of_items lim m (nat_is m 91 e))) (λ e. tt)
literal_for lim LongName = tt

finds_literal : (lim : Limits) → Finds (literal_at lim) (IsLiteral lim)
unfolding literal_at
finds_literal lim = finds_by (literal_choice lim) (IsLiteral lim) (literal_for lim)

-- ---- terms

abbrev pub TermLang : Limits → ℕ → ℕ → Counted → List Token → Type 0
TermLang lim d n x ks = (x.1 ≤ n) × Spells lim d x.1 (one x.0) ks

abbrev pub Opened : ℕ → ℕ → Unit {0} → List Token → Type 0
Opened d n u ks = (ks ≡ Mark 40 ∷ []) × (0 < d) × (0 < n)

open_for : (d n : ℕ) (k : Token) → FindsFor (open_choice d n k) (λ u more. Opened d n u (k ∷ more))
open_for d n (Mark m) = for_if (m == 40) _ _ _ (λ e. for_if (n == 0) _ _ _ (λ z. tt) (λ z. for_if (d == 0) _ _ _ (λ y. tt) (λ y. finds_one (λ u more. Opened d n u (Mark m ∷ more)) tt ((λ i. Mark (nat_is m 40 e i) ∷ []), some_left d y, some_left n z)))) (λ e. tt)
open_for d n (Words m) = tt
open_for d n LongText = tt
open_for d n (Number m) = tt
open_for d n (Name m) = tt
open_for d n LongName = tt

pub finds_open : (d n : ℕ) → Finds (open_at d n) (Opened d n)
finds_open d n = finds_by (open_choice d n) (Opened d n) (open_for d n)

-- two terms
abbrev TermPair : Limits → ℕ → ℕ → (Term × Term) × ℕ → List Token → Type 0
TermPair lim d n p ks = (i j : ℕ) × (ka kb : List Token) × (ks ≡ ka ++ kb) × (p.1 ≡ i + j) × (i + j ≤ n) × Spells lim d i (one p.0.0) ka × Spells lim d j (one p.0.1) kb

two_of : (lim : Limits) (d n : ℕ) (p : (Term × Term) × ℕ) (ks : List Token) → Then (TermLang lim d n) (λ a. Dressed (λ b. ((a.0, b.0), a.1 + b.1)) (TermLang lim d (n - a.1))) p ks → TermPair lim d n p ks
two_of lim d n p ks (a, k1, k2, parts, (fits, x), (b, is, (more, y))) = rw is (a.1, b.1, k1, k2, parts, refl, omega (arith, fits, more), x, y)

finds_two : (lim : Limits) (d n : ℕ) (r : ℕ → Reader Counted) → ((left : ℕ) → Finds (r left) (TermLang lim d left)) → Finds (two_at r n) (TermPair lim d n)
unfolding two_at
finds_two lim d n r x =
    finds_same _ (Then (TermLang lim d n) (λ a. Dressed (λ b. ((a.0, b.0), a.1 + b.1)) (TermLang lim d (n - a.1)))) (TermPair lim d n)
    (finds_seq (r n) (λ a. seq (r (n - a.1)) (λ b. give ((a.0, b.0), a.1 + b.1))) (TermLang lim d n) (λ a. Dressed (λ b. ((a.0, b.0), a.1 + b.1)) (TermLang lim d (n - a.1))) (x n)
    (λ a. finds_as (r (n - a.1)) (λ b. ((a.0, b.0), a.1 + b.1)) (TermLang lim d (n - a.1)) (x (n - a.1))))
    (two_of lim d n)

-- terms as long as there are some
abbrev pub PartLang : Limits → ℕ → ℕ → Option Counted → List Token → Type 0
PartLang lim d n None ks = ks ≡ []
PartLang lim d n (Some a) ks = TermLang lim d n a ks

part_of : (lim : Limits) (d n : ℕ) (o : Option Counted) (ks : List Token) → Dressed (λ a. Some a) (TermLang lim d n) o ks → PartLang lim d n o ks
part_of lim d n o ks (a, is, l) = rw is l

no_part_of : (lim : Limits) (d n : ℕ) (o : Option Counted) (ks : List Token) → Nothing None o ks → PartLang lim d n o ks
no_part_of lim d n o ks (is, none) = rw is none

pub finds_part : (lim : Limits) (d n : ℕ) (r : ℕ → Reader Counted) → ((left : ℕ) → Finds (r left) (TermLang lim d left)) → Finds (part_at r n) (PartLang lim d n)
unfolding part_at
finds_part lim d n r x = finds_same _ (Either (Dressed (λ a. Some a) (TermLang lim d n)) (Nothing None)) (PartLang lim d n)
    (finds_peek (is_mark_of 40) (seq (r n) (λ a. give (Some a))) (give None) (Dressed (λ a. Some a) (TermLang lim d n)) (Nothing None) (finds_as (r n) (λ a. Some a) (TermLang lim d n) (x n)) (finds_give None))
    (either _ _ (PartLang lim d n) (part_of lim d n) (no_part_of lim d n))

abbrev Parts : Limits → ℕ → ℕ → List Term × ℕ → List Token → Type 0
Parts lim d n x ks = (x.1 ≤ n) × Spells lim d x.1 (many x.0) ks

abbrev AfterPart : Limits → ℕ → ℕ → Option Counted → List Term × ℕ → List Token → Type 0
AfterPart lim d n None = Nothing ([], 0)
AfterPart lim d n (Some a) = Dressed (λ x. (a.0 ∷ x.0, a.1 + x.1)) (Parts lim d (n - a.1))

after_part : (lim : Limits) (d n : ℕ) (q : ℕ → Reader (List Term × ℕ)) → ((used : ℕ) → Finds (q used) (Parts lim d (n - used))) → (o : Option Counted) → Finds (with_part o q) (AfterPart lim d n o)
after_part lim d n q x None = finds_give ([], 0)
after_part lim d n q x (Some a) = finds_as (q a.1) (λ y. (a.0 ∷ y.0, a.1 + y.1)) (Parts lim d (n - a.1)) (x a.1)

parts_of : (lim : Limits) (d n : ℕ) (x : List Term × ℕ) (ks : List Token) → Then (PartLang lim d n) (AfterPart lim d n) x ks → Parts lim d n x ks
parts_of lim d n x ks (None, k1, k2, parts, none, (is, nil)) = rw (is, parts, none, nil) (omega arith, no_more d)
parts_of lim d n x ks (Some a, k1, k2, parts, (fits, l), (y, is, (more, rest))) = rw (is, parts) (omega (arith, fits, more), one_more d a.1 y.1 a.0 y.0 k1 k2 l rest)

nothing_left : (lim : Limits) (d n : ℕ) (x : List Term × ℕ) (ks : List Token) → Nothing ([], 0) x ks → Parts lim d n x ks
nothing_left lim d n x ks (is, nil) = rw (is, nil) (omega arith, no_more d)

finds_parts : (lim : Limits) (d m n : ℕ) (r : ℕ → Reader Counted) → ((left : ℕ) → Finds (r left) (TermLang lim d left)) → Finds (parts_at r m n) (Parts lim d n)
unfolding parts_at
finds_parts lim d zero n r x = finds_same _ (Then (PartLang lim d n) (AfterPart lim d n)) (Parts lim d n)
    (finds_seq (part_at r n) (λ o. with_part o (λ used. give ([], 0))) (PartLang lim d n) (AfterPart lim d n) (finds_part lim d n r x) (after_part lim d n (λ used. give ([], 0)) (λ used. finds_same _ (Nothing ([], 0)) (Parts lim d (n - used)) (finds_give ([], 0)) (nothing_left lim d (n - used))))) (parts_of lim d n)
finds_parts lim d (suc m) n r x = finds_same _ (Then (PartLang lim d n) (AfterPart lim d n)) (Parts lim d n)
    (finds_seq (part_at r n) (λ o. with_part o (λ used. parts_at r m (n - used))) (PartLang lim d n) (AfterPart lim d n) (finds_part lim d n r x) (after_part lim d n (λ used. parts_at r m (n - used)) (λ used. finds_parts lim d m (n - used) r x))) (parts_of lim d n)

abbrev BodyLang : Limits → ℕ → ℕ → BodyWord → Counted → List Token → Type 0
BodyLang lim d n w x ks = (x.1 ≤ 1 + n) × Spells lim (suc d) x.1 (one x.0) (form w ks)

returns : (lim : Limits) (d n : ℕ) (x : Counted) (ks : List Token) → Dressed (λ v. (term.Return v, 1)) (IsLiteral lim) x ks → BodyLang lim d n word.Return x ks
returns lim d n x ks (v, is, l) = rw is (omega arith, is_return d v ks l)

fails : (lim : Limits) (d n : ℕ) (x : Counted) (ks : List Token) → Then (Lettered kind_letters) (λ f. Dressed (λ t. (term.Fail f t, 1)) (OneText lim)) x ks → BodyLang lim d n word.Fail x ks
fails lim d n x ks (f, k1, k2, parts, letters, (t, is, (k, more, l))) = rw (is, parts, letters, more) (omega arith, is_fail d f t k l)

inputs : (lim : Limits) (d n : ℕ) (x : Counted) (ks : List Token) → Dressed (λ y. (term.Input y, 1)) (OneName lim) x ks → BodyLang lim d n word.Input x ks
inputs lim d n x ks (y, is, (k, parts, l)) = rw (is, parts) (omega arith, is_input d y k l)

nodes : (lim : Limits) (d n : ℕ) (x : Counted) (ks : List Token) → Dressed (λ y. (term.Node y, 1)) (OneName lim) x ks → BodyLang lim d n word.Node x ks
nodes lim d n x ks (y, is, (k, parts, l)) = rw (is, parts) (omega arith, is_node d y k l)

vars : (lim : Limits) (d n : ℕ) (x : Counted) (ks : List Token) → Dressed (λ y. (term.Var y, 1)) (OneName lim) x ks → BodyLang lim d n word.Var x ks
vars lim d n x ks (y, is, (k, parts, l)) = rw (is, parts) (omega arith, is_var d y k l)

maps : (lim : Limits) (d n : ℕ) (x : Counted) (ks : List Token) → Then (Lettered fun_letters) (λ f. Dressed (λ a. (term.Map f a.0, 1 + a.1)) (TermLang lim d n)) x ks → BodyLang lim d n word.Map x ks
maps lim d n x ks (f, k1, k2, parts, letters, (a, is, (fits, l))) = rw (is, parts, letters) (omega (arith, fits), is_map d a.1 f a.0 k2 l)

-- a form of one term, of two, of a name and one or two: g builds it, and rule says that it is spelled so
abbrev pub OneRule : Limits → ℕ → BodyWord → (Term → Term) → Type 0
OneRule lim d w g = (m : ℕ) (a : Term) (ka : List Token) → Spells lim d m (one a) ka → Spells lim (suc d) (1 + m) (one (g a)) (form w ka)

abbrev pub TwoRule : Limits → ℕ → BodyWord → (Term → Term → Term) → Type 0
TwoRule lim d w g = (m k : ℕ) (a b : Term) (ka kb : List Token) → Spells lim d m (one a) ka → Spells lim d k (one b) kb → Spells lim (suc d) (1 + (m + k)) (one (g a b)) (form w (ka ++ kb))

abbrev pub NamedRule : Limits → ℕ → BodyWord → (List ℕ → Term → Term → Term) → Type 0
NamedRule lim d w g = (m k : ℕ) (x : List ℕ) (t : Token) (a b : Term) (ka kb : List Token) → NameIs lim x t → Spells lim d m (one a) ka → Spells lim d k (one b) kb → Spells lim (suc d) (1 + (m + k)) (one (g x a b)) (form w (t ∷ (ka ++ kb)))

one_form : (lim : Limits) (d n : ℕ) (w : BodyWord) (g : Term → Term) → OneRule lim d w g → (x : Counted) (ks : List Token) → Dressed (λ a. (g a.0, 1 + a.1)) (TermLang lim d n) x ks → BodyLang lim d n w x ks
one_form lim d n w g rule x ks (a, is, (fits, l)) = rw is (omega (arith, fits), rule a.1 a.0 ks l)

two_form : (lim : Limits) (d n : ℕ) (w : BodyWord) (g : Term → Term → Term) → TwoRule lim d w g → (x : Counted) (ks : List Token) → Dressed (λ p. (g p.0.0 p.0.1, 1 + p.1)) (TermPair lim d n) x ks → BodyLang lim d n w x ks
two_form lim d n w g rule x ks (p, is, (i, j, ka, kb, parts, sum, fits, l, r)) = rw (is, parts, sum) (omega (arith, fits), rule i j p.0.0 p.0.1 ka kb l r)

named_form : (lim : Limits) (d n : ℕ) (w : BodyWord) (g : List ℕ → Term → Term → Term) → NamedRule lim d w g → (x : Counted) (ks : List Token) → Then (OneName lim) (λ y. Dressed (λ p. (g y p.0.0 p.0.1, 1 + p.1)) (TermPair lim d n)) x ks → BodyLang lim d n w x ks
named_form lim d n w g rule x ks (y, k1, k2, split, (t, t_is, name), (p, is, (i, j, ka, kb, parts, sum, fits, l, r))) = rw (is, split, t_is, parts, sum) (omega (arith, fits), rule i j y t p.0.0 p.0.1 ka kb name l r)

builds : (lim : Limits) (d n : ℕ) (x : Counted) (ks : List Token) → Then (OneName lim) (λ y. Dressed (λ a. (term.Build y a.0, 1 + a.1)) (TermLang lim d n)) x ks → BodyLang lim d n word.Build x ks
builds lim d n x ks (y, k1, k2, split, (t, t_is, name), (a, is, (fits, l))) = rw (is, split, t_is) (omega (arith, fits), is_build d a.1 y t a.0 k2 name l)

alls : (lim : Limits) (d n : ℕ) (x : Counted) (ks : List Token) → Dressed (λ y. (term.All y.0, 1 + y.1)) (Parts lim d n) x ks → BodyLang lim d n word.All x ks
alls lim d n x ks (y, is, (fits, l)) = rw is (omega (arith, fits), is_all d y.1 y.0 ks l)

finds_one_form : (lim : Limits) (d n : ℕ) (w : BodyWord) (g : Term → Term) (r : ℕ → Reader Counted) → ((left : ℕ) → Finds (r left) (TermLang lim d left)) → OneRule lim d w g → Finds (seq (r n) (λ a. give (g a.0, 1 + a.1))) (BodyLang lim d n w)
finds_one_form lim d n w g r x rule = finds_same _ (Dressed (λ a. (g a.0, 1 + a.1)) (TermLang lim d n)) (BodyLang lim d n w) (finds_as (r n) (λ a. (g a.0, 1 + a.1)) (TermLang lim d n) (x n)) (one_form lim d n w g rule)

finds_two_form : (lim : Limits) (d n : ℕ) (w : BodyWord) (g : Term → Term → Term) (r : ℕ → Reader Counted) → ((left : ℕ) → Finds (r left) (TermLang lim d left)) → TwoRule lim d w g → Finds (seq (two_at r n) (λ p. give (g p.0.0 p.0.1, 1 + p.1))) (BodyLang lim d n w)
finds_two_form lim d n w g r x rule = finds_same _ (Dressed (λ p. (g p.0.0 p.0.1, 1 + p.1)) (TermPair lim d n)) (BodyLang lim d n w) (finds_as (two_at r n) (λ p. (g p.0.0 p.0.1, 1 + p.1)) (TermPair lim d n) (finds_two lim d n r x)) (two_form lim d n w g rule)

finds_named_form : (lim : Limits) (d n : ℕ) (w : BodyWord) (g : List ℕ → Term → Term → Term) (r : ℕ → Reader Counted) → ((left : ℕ) → Finds (r left) (TermLang lim d left)) → NamedRule lim d w g → Finds (seq (name_at lim) (λ y. seq (two_at r n) (λ p. give (g y p.0.0 p.0.1, 1 + p.1)))) (BodyLang lim d n w)
finds_named_form lim d n w g r x rule = finds_same _ (Then (OneName lim) (λ y. Dressed (λ p. (g y p.0.0 p.0.1, 1 + p.1)) (TermPair lim d n))) (BodyLang lim d n w)
    (finds_seq (name_at lim) (λ y. seq (two_at r n) (λ p. give (g y p.0.0 p.0.1, 1 + p.1))) (OneName lim) (λ y. Dressed (λ p. (g y p.0.0 p.0.1, 1 + p.1)) (TermPair lim d n)) (finds_name lim) (λ y. finds_as (two_at r n) (λ p. (g y p.0.0 p.0.1, 1 + p.1)) (TermPair lim d n) (finds_two lim d n r x)))
    (named_form lim d n w g rule)

finds_named_leaf : (lim : Limits) (d n : ℕ) (w : BodyWord) (g : List ℕ → Counted) → ((x : Counted) (ks : List Token) → Dressed g (OneName lim) x ks → BodyLang lim d n w x ks) → Finds (seq (name_at lim) (λ y. give (g y))) (BodyLang lim d n w)
finds_named_leaf lim d n w g to = finds_same _ (Dressed g (OneName lim)) (BodyLang lim d n w) (finds_as (name_at lim) g (OneName lim) (finds_name lim)) to

finds_body : (lim : Limits) (d n : ℕ) (r : ℕ → Reader Counted) → ((left : ℕ) → Finds (r left) (TermLang lim d left)) → (w : BodyWord) → Finds (body_at lim r n w) (BodyLang lim d n w)
unfolding body_at
finds_body lim d n r x word.Return = finds_same _ (Dressed (λ v. (term.Return v, 1)) (IsLiteral lim)) (BodyLang lim d n word.Return) (finds_as (literal_at lim) (λ v. (term.Return v, 1)) (IsLiteral lim) (finds_literal lim)) (returns lim d n)
finds_body lim d n r x word.Fail = finds_same _ (Then (Lettered kind_letters) (λ f. Dressed (λ t. (term.Fail f t, 1)) (OneText lim))) (BodyLang lim d n word.Fail)
    (finds_seq (word_at kind_word) (λ f. seq (text_at lim) (λ t. give (term.Fail f t, 1))) (Lettered kind_letters) (λ f. Dressed (λ t. (term.Fail f t, 1)) (OneText lim)) (finds_letters kind_word kind_letters kind_letters_are) (λ f. finds_as (text_at lim) (λ t. (term.Fail f t, 1)) (OneText lim) (finds_text lim)))
    (fails lim d n)
finds_body lim d n r x word.Input = finds_named_leaf lim d n word.Input (λ y. (term.Input y, 1)) (inputs lim d n)
finds_body lim d n r x word.Node = finds_named_leaf lim d n word.Node (λ y. (term.Node y, 1)) (nodes lim d n)
finds_body lim d n r x word.Var = finds_named_leaf lim d n word.Var (λ y. (term.Var y, 1)) (vars lim d n)
finds_body lim d n r x word.Map = finds_same _ (Then (Lettered fun_letters) (λ f. Dressed (λ a. (term.Map f a.0, 1 + a.1)) (TermLang lim d n))) (BodyLang lim d n word.Map)
    (finds_seq (word_at fun_word) (λ f. seq (r n) (λ a. give (term.Map f a.0, 1 + a.1))) (Lettered fun_letters) (λ f. Dressed (λ a. (term.Map f a.0, 1 + a.1)) (TermLang lim d n)) (finds_letters fun_word fun_letters fun_letters_are) (λ f. finds_as (r n) (λ a. (term.Map f a.0, 1 + a.1)) (TermLang lim d n) (x n)))
    (maps lim d n)
finds_body lim d n r x word.Pair = finds_two_form lim d n word.Pair term.Pair r x (is_pair d)
finds_body lim d n r x word.Bind = finds_named_form lim d n word.Bind term.Bind r x (is_bind d)
finds_body lim d n r x word.ListMap = finds_named_form lim d n word.ListMap term.ListMap r x (is_list_map d)
finds_body lim d n r x word.ListIter = finds_named_form lim d n word.ListIter term.ListIter r x (is_list_iter d)
finds_body lim d n r x word.Catch = finds_one_form lim d n word.Catch term.Catch r x (is_catch d)
finds_body lim d n r x word.State = finds_one_form lim d n word.State term.State r x (is_state d)
finds_body lim d n r x word.Gate = finds_two_form lim d n word.Gate term.Gate r x (is_gate d)
finds_body lim d n r x word.All = finds_same _ (Dressed (λ y. (term.All y.0, 1 + y.1)) (Parts lim d n)) (BodyLang lim d n word.All) (finds_as (parts_at r n n) (λ y. (term.All y.0, 1 + y.1)) (Parts lim d n) (finds_parts lim d n n r x)) (alls lim d n)
finds_body lim d n r x word.Build = finds_same _ (Then (OneName lim) (λ y. Dressed (λ a. (term.Build y a.0, 1 + a.1)) (TermLang lim d n))) (BodyLang lim d n word.Build)
    (finds_seq (name_at lim) (λ y. seq (r n) (λ a. give (term.Build y a.0, 1 + a.1))) (OneName lim) (λ y. Dressed (λ a. (term.Build y a.0, 1 + a.1)) (TermLang lim d n)) (finds_name lim) (λ y. finds_as (r n) (λ a. (term.Build y a.0, 1 + a.1)) (TermLang lim d n) (x n)))
    (builds lim d n)
finds_body lim d n r x word.Output = finds_named_form lim d n word.Output term.Output r x (is_output d)

abbrev Closed : Limits → ℕ → ℕ → BodyWord → Counted → List Token → Type 0
Closed lim d n w = Then (BodyLang lim d n w) (λ x. Dressed (λ u. x) (Single (IsMark 41)))

abbrev WholeLang : Limits → ℕ → ℕ → Counted → List Token → Type 0
WholeLang lim d n = Then (Opened (suc d) n) (λ u. Then (Lettered body_letters) (Closed lim d (n - 1)))

whole_of : (lim : Limits) (d n : ℕ) (x : Counted) (ks : List Token) → WholeLang lim d n x ks → TermLang lim (suc d) n x ks
whole_of lim d n x ks (u, k1, k2, parts, (opens, deep, some), (w, k3, k4, parts2, letters, (y, k5, k6, parts3, (fits, l), (v, is, (k, parts4, mark))))) =
    rw (is, parts, opens, parts2, letters, parts3, parts4, mark) (omega (arith, fits, some), l)

-- What is read as a term is spelled so, within the limits.
pub finds_term : (lim : Limits) (d n : ℕ) → Finds (term_at lim d n) (TermLang lim d n)
unfolding term_at
finds_term lim zero n = finds_same _ (Dressed (λ u. (term.All [], 1)) (Opened 0 n)) (TermLang lim 0 n) (finds_as (open_at 0 n) (λ u. (term.All [], 1)) (Opened 0 n) (finds_open 0 n)) (λ x ks l. absurd (omega (arith, l.2.1)))
finds_term lim (suc d) n = finds_same _ (WholeLang lim d n) (TermLang lim (suc d) n)
    (finds_seq (open_at (suc d) n) _ (Opened (suc d) n) (λ u. Then (Lettered body_letters) (Closed lim d (n - 1))) (finds_open (suc d) n)
    (λ u. finds_seq (word_at body_word) _ (Lettered body_letters) (Closed lim d (n - 1)) (finds_letters body_word body_letters body_letters_are)
    (λ w. finds_seq (body_at lim (term_at lim d) (n - 1) w) _ (BodyLang lim d (n - 1) w) (λ x. Dressed (λ u. x) (Single (IsMark 41))) (finds_body lim d (n - 1) (term_at lim d) (λ left. finds_term lim d left) w)
    (λ x. finds_as (mark_at 41) (λ u. x) (Single (IsMark 41)) (finds_mark 41)))))
    (whole_of lim d n)
