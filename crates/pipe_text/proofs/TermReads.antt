-- What a term is spelled by is read.
use Rattle.std.proofs.Common.{◌≡◌, ℕ, zero, suc, ◌+◌, ◌-◌, ◌<◌, ◌≤◌, Bool, true, false, List, [], ◌∷◌, ◌++◌, length, refl, sym, subst, append_assoc, arith}
use Rattle.std.specs.Prelude.{◌==◌, ◌||◌, Ok, Option, Some, None, codes}
use Rattle.std.proofs.lemmas.Bool.Decides.{nat_tests}
use Rattle.std.proofs.lemmas.List.{append-nil}
use Rattle.value_core.specs.declared.token.Token.{Token}
use Rattle.value_core.specs.declared.token.Token.TheVariants.{Name, Number, Words, Mark, LongName, LongText}
use Rattle.value_core.specs.declared.value.Value.{Value}
use Rattle.value_core.specs.declared.value.Value.TheVariants as value
use Rattle.term_core.specs.declared.program.Term.{Term}
use Rattle.term_core.specs.declared.program.Term.TheVariants as term
use Rattle.pipe_text.specs.declared.words.BodyWord.{BodyWord}
use Rattle.pipe_text.specs.declared.words.BodyWord.TheVariants as word
use Rattle.value_core.specs.declared.lexing.TokenAt.{TokenAt}
use Rattle.value_core.specs.declared.lexing.Stop.{Stop}
use Rattle.pipe_text.specs.declared.fault.LimitName.{LimitName}
use Rattle.pipe_text.specs.declared.fault.LimitName.TheVariants as limit
use Rattle.pipe_text.specs.Words.{body_letters, body_word, fun_letters, fun_word, kind_letters, kind_word}
use Rattle.value_core.specs.Literals.{tokens_in, is_mark_of}
use Rattle.pipe_text.specs.inside.Readers.{Reader, give, seq, mark_at, word_at, is_string, next_passes}
use Rattle.pipe_text.specs.Grammar.{Limits, NameIs, TextIs, NumberIs, is_within, Texts, Items, list_of, IsLiteral, is_text, is_number, is_unit, is_list, form, What, one, many, Spells, is_return, is_fail, is_input, is_node, is_var, is_map, is_pair, is_bind, is_list_map, is_list_iter, is_catch, is_state, is_gate, is_all, is_build, is_output, no_more, one_more}
use Rattle.pipe_text.specs.inside.TermReading.{name_choice, name_at, text_choice, text_at, number_choice, number_at, room_choice, room_at, item_choice, item_at, command_word_at, with_text_read, texts_at, items_at, literal_choice, literal_at, Counted, open_choice, open_at, two_at, part_at, parts_at, body_at, term_at}
use Rattle.pipe_text.proofs.Exactly.{ReadsIf, Any, Takes, reads_if, reads_give, reads_seq, reads_then, reads_as, reads_branch, reads_yes, reads_no, reads_mark, reads_word, cons_is, nil_of}
use Rattle.pipe_text.proofs.WordLaws.{body_word_is, fun_word_is, kind_word_is}

-- what the one allows, the other does
pub record Under (lim wide : Limits) : Type 0 where
  pub items : lim.more_items ≤ wide.more_items
  pub words : lim.more_words ≤ wide.more_words
  pub lifted : (what : LimitName) → lim.lifted what ≡ true → wide.lifted what ≡ true

pub under_refl : (l : Limits) → Under l l
under_refl l = record { items = omega arith; words = omega arith; lifted = λ what e. e }

-- ---- names, texts and numbers

pub reads_name : (lim wide : Limits) (n : List ℕ) (k : Token) → Under lim wide → NameIs lim n k → Takes (name_at wide) n (k ∷ [])
reads_name lim wide n (Name m) u e = reads_branch Any (name_choice wide) (give n) (Name m) n [] (rw e refl) (reads_give Any n)
reads_name lim wide n LongName u (long, none) = reads_branch Any (name_choice wide) (give n) LongName n [] (rw (u.lifted limit.Name long, none) refl) (reads_give Any n)
reads_name lim wide n (Number m) u e = absurd e
reads_name lim wide n (Words m) u e = absurd e
reads_name lim wide n (Mark m) u e = absurd e
reads_name lim wide n LongText u e = absurd e

pub reads_text : (lim wide : Limits) (n : List ℕ) (k : Token) → Under lim wide → TextIs lim n k → Takes (text_at wide) n (k ∷ [])
reads_text lim wide n (Words m) u e = reads_branch Any (text_choice wide) (give n) (Words m) n [] (rw e refl) (reads_give Any n)
reads_text lim wide n LongText u (long, none) = reads_branch Any (text_choice wide) (give n) LongText n [] (rw (u.lifted limit.Text long, none) refl) (reads_give Any n)
reads_text lim wide n (Number m) u e = absurd e
reads_text lim wide n (Name m) u e = absurd e
reads_text lim wide n (Mark m) u e = absurd e
reads_text lim wide n LongName u e = absurd e

or_wider : (x y z : Bool) → (x ≡ true → y ≡ true) → (x || z) ≡ true → (y || z) ≡ true
or_wider true y z h e = rw (h refl) refl
or_wider false true z h e = refl
or_wider false false z h e = e

pub within_wider : (lim wide : Limits) (what : LimitName) (n : ℕ) → Under lim wide → is_within lim what n ≡ true → is_within wide what n ≡ true
within_wider lim wide what n u e = or_wider (lim.lifted what) (wide.lifted what) _ (u.lifted what) e

pub reads_number : (lim wide : Limits) (what : LimitName) (n : ℕ) (k : Token) → Under lim wide → NumberIs lim what n k → Takes (number_at wide what) n (k ∷ [])
reads_number lim wide what n (Number m) u (is, fits) =
    let w : is_within wide what m ≡ true = subst (λ (i : ℕ). is_within wide what i ≡ true) is (within_wider lim wide what n u fits) in
    reads_branch Any (number_choice wide what) (give n) (Number m) n [] (rw (w, is) refl) (reads_give Any n)
reads_number lim wide what n (Name m) u e = absurd e
reads_number lim wide what n (Words m) u e = absurd e
reads_number lim wide what n (Mark m) u e = absurd e
reads_number lim wide what n LongName u e = absurd e
reads_number lim wide what n LongText u e = absurd e

-- ---- a form

some_is : (n : ℕ) → 0 < n → (n == 0) ≡ false
some_is n h = grind (arith, nat_tests)

opens : (d n : ℕ) → 0 < n → open_choice (suc d) n (Mark 40) ≡ Ok (give tt)
opens d n some = rw (some_is n some, some_is (suc d) (omega arith)) refl

-- what follows begins with the closing bracket
abbrev pub Closes : List TokenAt → Type 0
Closes rest = (t : TokenAt) × (more : List TokenAt) × (rest ≡ t ∷ more) × (t.token ≡ Mark 41)

mark_closes : (front rest : List TokenAt) → tokens_in front ≡ Mark 41 ∷ [] → Any rest → Closes (front ++ rest)
mark_closes [] rest e p = absurd cc
mark_closes (t ∷ front) rest e p = (t, front ++ rest, refl, (cons_is t.token (Mark 41) (tokens_in front) [] e).0)

reads_form : (lim : Limits) (d left : ℕ) (w : BodyWord) (x : Counted) (ks : List Token) → 0 < left → ReadsIf Closes (body_at lim (term_at lim d) (left - 1) w) x ks → Takes (term_at lim (suc d) left) x (form w ks)
unfolding term_at
reads_form lim d left w x ks some body =
    reads_then Any (open_at (suc d) left) _ tt x (Mark 40 ∷ []) (Name (body_letters w) ∷ (ks ++ Mark 41 ∷ []))
    (reads_branch Any (open_choice (suc d) left) (give tt) (Mark 40) tt [] (opens d left some) (reads_give Any tt))
    (reads_then Any (word_at body_word) _ w x (Name (body_letters w) ∷ []) (ks ++ Mark 41 ∷ [])
    (reads_word body_word (body_letters w) w (body_word_is w))
    (reads_seq Any Closes (body_at lim (term_at lim d) (left - 1) w) _ x x ks (Mark 41 ∷ []) mark_closes body
    (reads_as Any (mark_at 41) (λ u. x) tt (Mark 41 ∷ []) (reads_mark Any 41 refl))))

-- ---- lists and literals

reads_room : (lim wide : Limits) (what : LimitName) (m : ℕ) (n : List ℕ) (k : Token) → Under lim wide → 0 < m → TextIs lim n k → Takes (room_at wide what m) n (k ∷ [])
reads_room lim wide what m n (Words t) u some e = reads_branch Any (room_choice wide what m) (give n) (Words t) n [] (rw (some_is m some, e) refl) (reads_give Any n)
reads_room lim wide what m n LongText u some (long, none) = reads_branch Any (room_choice wide what m) (give n) LongText n [] (rw (u.lifted limit.Text long, some_is m some, none) refl) (reads_give Any n)
reads_room lim wide what m n (Number t) u some e = absurd e
reads_room lim wide what m n (Name t) u some e = absurd e
reads_room lim wide what m n (Mark t) u some e = absurd e
reads_room lim wide what m n LongName u some e = absurd e

-- what reads one text of a list or a command: the end of them, or one more where there is room
abbrev Stops : (List TokenAt → Type 0) → (ℕ → Reader (Option (List ℕ))) → List Token → Type 0
Stops P r following = (n : ℕ) → ReadsIf P (r n) None following

abbrev GoesOnWith : Limits → (ℕ → Reader (Option (List ℕ))) → List Token → Type 0
GoesOnWith lim r before = (n : ℕ) (t : List ℕ) (k : Token) → 0 < n → TextIs lim t k → Takes (r n) (Some t) (before ++ k ∷ [])

reads_none_more : (P : List TokenAt → Type 0) (r : Reader (Option (List ℕ))) (q : Reader (List (List ℕ))) (following : List Token) → ReadsIf P r None following → ReadsIf P (seq r (λ o. with_text_read o q)) [] following
reads_none_more P r q following x = subst (λ (l : List Token). ReadsIf P (seq r (λ o. with_text_read o q)) [] l) (append-nil following)
    (reads_seq P P r (λ o. with_text_read o q) None [] following [] (λ front rest e p. rw (nil_of front e) p) x (reads_give P []))

pub reads_texts : (P : List TokenAt → Type 0) (before following : List Token) (lim : Limits) (r : ℕ → Reader (Option (List ℕ))) → Stops P r following → GoesOnWith lim r before
    → (ts : List (List ℕ)) (n : ℕ) (ks : List Token) → length ts ≤ n → Texts before following lim ts ks → ReadsIf P (texts_at r n) ts ks
unfolding texts_at
reads_texts P before following lim r stops goes [] zero ks h e = rw e (reads_none_more P (r 0) (give []) following (stops 0))
reads_texts P before following lim r stops goes [] (suc n) ks h e = rw e (reads_none_more P (r (suc n)) (texts_at r n) following (stops (suc n)))
reads_texts P before following lim r stops goes (t ∷ ts) zero ks h e = absurd (omega arith)
reads_texts P before following lim r stops goes (t ∷ ts) (suc n) ks h (k, more, parts, is, rest) =
    rw (parts, sym (append_assoc before (k ∷ []) more)) (reads_then P (r (suc n)) (λ o. with_text_read o (texts_at r n)) (Some t) (t ∷ ts) (before ++ k ∷ []) more (goes (suc n) t k (omega arith) is)
    (reads_as P (texts_at r n) (λ x. t ∷ x) ts more (reads_texts P before following lim r stops goes ts n more (omega arith) rest)))

reads_end : (wide : Limits) → Stops Any (item_at wide) (Mark 93 ∷ [])
unfolding item_at
reads_end wide n = reads_branch Any (item_choice wide n) (give None) (Mark 93) None [] refl (reads_give Any None)

reads_item : (lim wide : Limits) → Under lim wide → GoesOnWith lim (item_at wide) (Mark 44 ∷ [])
unfolding item_at
reads_item lim wide u n t k some e =
    reads_branch Any (item_choice wide n) (seq (room_at wide limit.List n) (λ x. give (Some x))) (Mark 44) (Some t) (k ∷ []) refl
    (reads_as Any (room_at wide limit.List n) (λ x. Some x) t (k ∷ []) (reads_room lim wide limit.List n t k u some e))

no_bracket : (lim : Limits) (t : List ℕ) (k : Token) → TextIs lim t k → is_mark_of 93 k ≡ false
no_bracket lim t (Words m) e = refl
no_bracket lim t LongText e = refl
no_bracket lim t (Number m) e = absurd e
no_bracket lim t (Name m) e = absurd e
no_bracket lim t (Mark m) e = absurd e
no_bracket lim t LongName e = absurd e

pub reads_items : (lim wide : Limits) (ts : List (List ℕ)) (ks : List Token) → Under lim wide → Items lim ts ks → Takes (items_at wide) ts ks
unfolding items_at
reads_items lim wide [] ks u e =
    let some : Reader (List (List ℕ)) = seq (text_at wide) (λ x. seq (texts_at (item_at wide) wide.more_items) (λ xs. give (x ∷ xs))) in
    rw e (reads_yes Any (is_mark_of 93) (seq (mark_at 93) (λ x. give [])) some (Mark 93) [] [] refl (reads_as Any (mark_at 93) (λ x. []) tt (Mark 93 ∷ []) (reads_mark Any 93 refl)))
reads_items lim wide (t ∷ ts) ks u (k, more, parts, is, few, rest) =
    let fits : length ts ≤ wide.more_items = let wider = u.items in omega (arith, wider, few) in
    let next : List ℕ → Reader (List (List ℕ)) = λ x. seq (texts_at (item_at wide) wide.more_items) (λ xs. give (x ∷ xs)) in
    rw parts (reads_no Any (is_mark_of 93) (seq (mark_at 93) (λ x. give [])) (seq (text_at wide) next) k (t ∷ ts) more (no_bracket lim t k is)
    (reads_then Any (text_at wide) next t (t ∷ ts) (k ∷ []) more (reads_text lim wide t k u is)
    (reads_as Any (texts_at (item_at wide) wide.more_items) (λ x. t ∷ x) ts more (reads_texts Any (Mark 44 ∷ []) (Mark 93 ∷ []) lim (item_at wide) (reads_end wide) (reads_item lim wide u) ts wide.more_items more fits rest))))

-- no string comes next
abbrev pub NoString : List TokenAt → Type 0
NoString rest = next_passes is_string rest ≡ false

raw_no_word : (wide : Limits) (n : ℕ) (s : Stop) (front rest : List TokenAt) → tokens_in front ≡ [] → NoString rest → command_word_at wide n s (front ++ rest) ≡ Ok (None, rest)
unfolding command_word_at
raw_no_word wide n s [] rest e p = rw p refl
raw_no_word wide n s (t ∷ front) rest e p = absurd cc

pub reads_no_word : (wide : Limits) → Stops NoString (command_word_at wide) []
reads_no_word wide n = record { reads = raw_no_word wide n }

is_a_string : (lim : Limits) (t : List ℕ) (k : Token) → TextIs lim t k → is_string k ≡ true
is_a_string lim t (Words m) e = refl
is_a_string lim t LongText e = refl
is_a_string lim t (Number m) e = absurd e
is_a_string lim t (Name m) e = absurd e
is_a_string lim t (Mark m) e = absurd e
is_a_string lim t LongName e = absurd e

pub reads_one_word : (lim wide : Limits) → Under lim wide → GoesOnWith lim (command_word_at wide) []
unfolding command_word_at
reads_one_word lim wide u n t k some e =
    reads_yes Any is_string (seq (room_at wide limit.Words n) (λ x. give (Some x))) (give None) k (Some t) [] (is_a_string lim t k e)
    (reads_as Any (room_at wide limit.Words n) (λ x. Some x) t (k ∷ []) (reads_room lim wide limit.Words n t k u some e))

reads_literal : (lim wide : Limits) (v : Value) (ks : List Token) → Under lim wide → IsLiteral lim v ks → Takes (literal_at wide) v ks
unfolding literal_at
reads_literal lim wide v ks u (is_text t (Words m) e) = rw e (reads_branch Any (literal_choice wide) (give (value.Words m)) (Words m) (value.Words m) [] refl (reads_give Any (value.Words m)))
reads_literal lim wide v ks u (is_text t LongText (long, none)) = rw none (reads_branch Any (literal_choice wide) (give (value.Words [])) LongText (value.Words []) [] (rw (u.lifted limit.Text long) refl) (reads_give Any (value.Words [])))
reads_literal lim wide v ks u (is_text t (Number m) e) = absurd e
reads_literal lim wide v ks u (is_text t (Name m) e) = absurd e
reads_literal lim wide v ks u (is_text t (Mark m) e) = absurd e
reads_literal lim wide v ks u (is_text t LongName e) = absurd e
reads_literal lim wide v ks u (is_number n) = reads_branch Any (literal_choice wide) (give (value.Num n)) (Number n) (value.Num n) [] refl (reads_give Any (value.Num n))
reads_literal lim wide v ks u is_unit = reads_branch Any (literal_choice wide) (give value.Unit) (Name (codes "unit")) value.Unit [] refl (reads_give Any value.Unit)
reads_literal lim wide v ks u (is_list ts more items) =
    reads_branch Any (literal_choice wide) (seq (items_at wide) (λ x. give (list_of x))) (Mark 91) (list_of ts) more refl
    (reads_as Any (items_at wide) list_of ts more (reads_items lim wide ts more u items))

-- ---- terms

form_above : (lim : Limits) (d e left : ℕ) (w : BodyWord) (x : Counted) (ks : List Token) → suc d ≤ e → 0 < left → ((f : ℕ) → d ≤ f → ReadsIf Closes (body_at lim (term_at lim f) (left - 1) w) x ks) → Takes (term_at lim e left) x (form w ks)
form_above lim d zero left w x ks deep some body = absurd (omega arith)
form_above lim d (suc e) left w x ks deep some body = reads_form lim e left w x ks some (body e (omega arith))

abbrev pub ReadsAll : (ℕ → Reader Counted) → Term → ℕ → List Token → Type 0
ReadsAll r t m ks = (left : ℕ) → m ≤ left → Takes (r left) (t, m) ks

reads_two : (r : ℕ → Reader Counted) (n m k : ℕ) (a b : Term) (ka kb : List Token) → m + k ≤ n → ReadsAll r a m ka → ReadsAll r b k kb → Takes (two_at r n) ((a, b), m + k) (ka ++ kb)
unfolding two_at
reads_two r n m k a b ka kb fits x y =
    reads_then Any (r n) _ (a, m) ((a, b), m + k) ka kb (x n (omega arith)) (reads_as Any (r (n - m)) (λ z. ((a, z.0), m + z.1)) (b, k) kb (y (n - m) (omega arith)))

abbrev pub Begun : ℕ → What → List Token → Type 0
Begun m (one t) ks = (0 < m) × (more : List Token) × (ks ≡ Mark 40 ∷ more)
Begun m (many ts) ks = Unit {0}

pub begun : (lim : Limits) (d m : ℕ) (w : What) (ks : List Token) → Spells lim d m w ks → Begun m w ks
begun lim d m w ks (is_return c v k x) = (omega arith, _, refl)
begun lim d m w ks (is_fail c f t k x) = (omega arith, _, refl)
begun lim d m w ks (is_input c n k x) = (omega arith, _, refl)
begun lim d m w ks (is_node c n k x) = (omega arith, _, refl)
begun lim d m w ks (is_var c n k x) = (omega arith, _, refl)
begun lim d m w ks (is_map c i f a ka x) = (omega arith, _, refl)
begun lim d m w ks (is_pair c i j a b ka kb x y) = (omega arith, _, refl)
begun lim d m w ks (is_bind c i j z k a b ka kb h x y) = (omega arith, _, refl)
begun lim d m w ks (is_list_map c i j z k a b ka kb h x y) = (omega arith, _, refl)
begun lim d m w ks (is_list_iter c i j z k a b ka kb h x y) = (omega arith, _, refl)
begun lim d m w ks (is_catch c i a ka x) = (omega arith, _, refl)
begun lim d m w ks (is_state c i a ka x) = (omega arith, _, refl)
begun lim d m w ks (is_gate c i j a b ka kb x y) = (omega arith, _, refl)
begun lim d m w ks (is_all c i ts k x) = (omega arith, _, refl)
begun lim d m w ks (is_build c i n k a ka h x) = (omega arith, _, refl)
begun lim d m w ks (is_output c i j z k a b ka kb h x y) = (omega arith, _, refl)
begun lim d m w ks (no_more c) = tt
begun lim d m w ks (one_more c i j a more ka k x y) = tt

raw_none : (r : ℕ → Reader Counted) (n : ℕ) (s : Stop) (front rest : List TokenAt) → tokens_in front ≡ [] → Closes rest → part_at r n s (front ++ rest) ≡ Ok (None, rest)
unfolding part_at
raw_none r n s [] rest e (t, more, is, mark) = let no_open : is_mark_of 40 t.token ≡ false = rw mark refl in rw (is, no_open) refl
raw_none r n s (x ∷ front) rest e c = absurd cc

part_none : (r : ℕ → Reader Counted) (n : ℕ) → ReadsIf Closes (part_at r n) None []
part_none r n = record { reads = raw_none r n }

part_some : (r : ℕ → Reader Counted) (n : ℕ) (x : Counted) (more : List Token) → Takes (r n) x (Mark 40 ∷ more) → Takes (part_at r n) (Some x) (Mark 40 ∷ more)
unfolding part_at
part_some r n x more h = reads_yes Any (is_mark_of 40) (seq (r n) (λ a. give (Some a))) (give None) (Mark 40) (Some x) more refl (reads_as Any (r n) (λ a. Some a) x (Mark 40 ∷ more) h)

reads_no_parts : (r : ℕ → Reader Counted) (fuel n : ℕ) → ReadsIf Closes (parts_at r fuel n) ([], 0) []
unfolding parts_at
reads_no_parts r zero n = reads_seq Closes Closes (part_at r n) _ None ([], 0) [] [] (λ front rest e p. rw (nil_of front e) p) (part_none r n) (reads_give Closes ([], 0))
reads_no_parts r (suc m) n = reads_seq Closes Closes (part_at r n) _ None ([], 0) [] [] (λ front rest e p. rw (nil_of front e) p) (part_none r n) (reads_give Closes ([], 0))

reads_one_part : (r : ℕ → Reader Counted) (fuel n m k : ℕ) (a : Term) (as_more : List Term) (ka ks more : List Token) → ka ≡ Mark 40 ∷ more → 0 < m → m + k ≤ n → n ≤ fuel → ReadsAll r a m ka
    → ((fuel' n' : ℕ) → k ≤ n' → n' ≤ fuel' → ReadsIf Closes (parts_at r fuel' n') (as_more, k) ks) → ReadsIf Closes (parts_at r fuel n) (a ∷ as_more, m + k) (ka ++ ks)
unfolding parts_at
reads_one_part r zero n m k a as_more ka ks more opened some fits fuelled x y = absurd (omega arith)
reads_one_part r (suc fuel) n m k a as_more ka ks more opened some fits fuelled x y =
    let first : Takes (part_at r n) (Some (a, m)) ka = rw opened (part_some r n (a, m) more (subst (λ (l : List Token). Takes (r n) (a, m) l) opened (x n (omega arith)))) in
    reads_then Closes (part_at r n) _ (Some (a, m)) (a ∷ as_more, m + k) ka ks first
    (reads_as Closes (parts_at r fuel (n - m)) (λ z. (a ∷ z.0, m + z.1)) (as_more, k) ks (y fuel (n - m) (omega arith) (omega arith)))

abbrev pub Wanted : Limits → ℕ → ℕ → What → List Token → Type 0
Wanted wide d m (one t) ks = (e left : ℕ) → d ≤ e → m ≤ left → Takes (term_at wide e left) (t, m) ks
Wanted wide d m (many ts) ks = (e fuel left : ℕ) → d ≤ e → m ≤ left → left ≤ fuel → ReadsIf Closes (parts_at (term_at wide e) fuel left) (ts, m) ks

leaf : (wide : Limits) (d : ℕ) (w : BodyWord) (t : Term) (ks : List Token) → ((f n : ℕ) → Takes (body_at wide (term_at wide f) n w) (t, 1) ks) → Wanted wide (suc d) 1 (one t) (form w ks)
leaf wide d w t ks body e left deep fits = form_above wide d e left w (t, 1) ks deep (omega arith) (λ f le. reads_if Closes _ _ ks (body f (left - 1)))

inner : (wide : Limits) (d m : ℕ) (w : BodyWord) (t : Term) (ks : List Token) → ((f n : ℕ) → d ≤ f → m ≤ n → ReadsIf Closes (body_at wide (term_at wide f) n w) (t, 1 + m) ks) → Wanted wide (suc d) (1 + m) (one t) (form w ks)
inner wide d m w t ks body e left deep fits = form_above wide d e left w (t, 1 + m) ks deep (omega arith) (λ f le. body f (left - 1) le (omega arith))

-- a name, and two terms
named_two : (lim wide : Limits) (n m k f d : ℕ) (x : List ℕ) (t : Token) (a b : Term) (ka kb : List Token) (g : List ℕ → Term → Term → Term) → Under lim wide → NameIs lim x t → m + k ≤ n → d ≤ f → Wanted wide d m (one a) ka → Wanted wide d k (one b) kb
    → ReadsIf {A = Counted} Closes (seq (name_at wide) (λ y. seq (two_at (term_at wide f) n) (λ p. give (g y p.0.0 p.0.1, 1 + p.1)))) (g x a b, 1 + (m + k)) (t ∷ (ka ++ kb))
named_two lim wide n m k f d x t a b ka kb g u name fits deep ra rb =
    reads_then Closes (name_at wide) _ x (g x a b, 1 + (m + k)) (t ∷ []) (ka ++ kb) (reads_name lim wide x t u name)
    (reads_if Closes _ _ (ka ++ kb) (reads_as Any (two_at (term_at wide f) n) (λ p. (g x p.0.0 p.0.1, 1 + p.1)) ((a, b), m + k) (ka ++ kb)
    (reads_two (term_at wide f) n m k a b ka kb fits (λ left h. ra f left deep h) (λ left h. rb f left deep h))))

plain_two : (wide : Limits) (n m k f d : ℕ) (a b : Term) (ka kb : List Token) (g : Term → Term → Term) → m + k ≤ n → d ≤ f → Wanted wide d m (one a) ka → Wanted wide d k (one b) kb
    → ReadsIf {A = Counted} Closes (seq (two_at (term_at wide f) n) (λ p. give (g p.0.0 p.0.1, 1 + p.1))) (g a b, 1 + (m + k)) (ka ++ kb)
plain_two wide n m k f d a b ka kb g fits deep ra rb =
    reads_if Closes _ _ (ka ++ kb) (reads_as Any (two_at (term_at wide f) n) (λ p. (g p.0.0 p.0.1, 1 + p.1)) ((a, b), m + k) (ka ++ kb)
    (reads_two (term_at wide f) n m k a b ka kb fits (λ left h. ra f left deep h) (λ left h. rb f left deep h)))

plain_one : (wide : Limits) (n m f d : ℕ) (a : Term) (ka : List Token) (g : Term → Term) → m ≤ n → d ≤ f → Wanted wide d m (one a) ka → ReadsIf {A = Counted} Closes (seq (term_at wide f n) (λ x. give (g x.0, 1 + x.1))) (g a, 1 + m) ka
plain_one wide n m f d a ka g fits deep ra = reads_if Closes _ _ ka (reads_as Any (term_at wide f n) (λ x. (g x.0, 1 + x.1)) (a, m) ka (ra f n deep fits))

-- What a term is spelled by is read, at these limits and all wider ones.
pub all_read : (lim wide : Limits) (d m : ℕ) (w : What) (ks : List Token) → Under lim wide → Spells lim d m w ks → Wanted wide d m w ks
unfolding body_at
all_read lim wide d m w ks u (is_return c v k x) = leaf wide c word.Return (term.Return v) k (λ f n. reads_as Any (literal_at wide) (λ y. (term.Return y, 1)) v k (reads_literal lim wide v k u x))
all_read lim wide d m w ks u (is_fail c f t k x) =
    leaf wide c word.Fail (term.Fail f t) (Name (kind_letters f) ∷ k ∷ []) (λ g n. reads_then Any (word_at kind_word) _ f (term.Fail f t, 1) (Name (kind_letters f) ∷ []) (k ∷ []) (reads_word kind_word (kind_letters f) f (kind_word_is f))
    (reads_as Any (text_at wide) (λ y. (term.Fail f y, 1)) t (k ∷ []) (reads_text lim wide t k u x)))
all_read lim wide d m w ks u (is_input c n k x) = leaf wide c word.Input (term.Input n) (k ∷ []) (λ f left. reads_as Any (name_at wide) (λ y. (term.Input y, 1)) n (k ∷ []) (reads_name lim wide n k u x))
all_read lim wide d m w ks u (is_node c n k x) = leaf wide c word.Node (term.Node n) (k ∷ []) (λ f left. reads_as Any (name_at wide) (λ y. (term.Node y, 1)) n (k ∷ []) (reads_name lim wide n k u x))
all_read lim wide d m w ks u (is_var c n k x) = leaf wide c word.Var (term.Var n) (k ∷ []) (λ f left. reads_as Any (name_at wide) (λ y. (term.Var y, 1)) n (k ∷ []) (reads_name lim wide n k u x))
all_read lim wide d m w ks u (is_map c i f a ka x) =
    inner wide c i word.Map (term.Map f a) (Name (fun_letters f) ∷ ka) (λ g n deep fits. reads_then Closes (word_at fun_word) _ f (term.Map f a, 1 + i) (Name (fun_letters f) ∷ []) ka (reads_word fun_word (fun_letters f) f (fun_word_is f))
    (plain_one wide n i g c a ka (λ y. term.Map f y) fits deep (all_read lim wide c i (one a) ka u x)))
all_read lim wide d m w ks u (is_pair c i j a b ka kb x y) =
    inner wide c (i + j) word.Pair (term.Pair a b) (ka ++ kb) (λ f n deep fits. plain_two wide n i j f c a b ka kb term.Pair fits deep (all_read lim wide c i (one a) ka u x) (all_read lim wide c j (one b) kb u y))
all_read lim wide d m w ks u (is_bind c i j z k a b ka kb h x y) =
    inner wide c (i + j) word.Bind (term.Bind z a b) (k ∷ (ka ++ kb)) (λ f n deep fits. named_two lim wide n i j f c z k a b ka kb term.Bind u h fits deep (all_read lim wide c i (one a) ka u x) (all_read lim wide c j (one b) kb u y))
all_read lim wide d m w ks u (is_list_map c i j z k a b ka kb h x y) =
    inner wide c (i + j) word.ListMap (term.ListMap z a b) (k ∷ (ka ++ kb)) (λ f n deep fits. named_two lim wide n i j f c z k a b ka kb term.ListMap u h fits deep (all_read lim wide c i (one a) ka u x) (all_read lim wide c j (one b) kb u y))
all_read lim wide d m w ks u (is_list_iter c i j z k a b ka kb h x y) =
    inner wide c (i + j) word.ListIter (term.ListIter z a b) (k ∷ (ka ++ kb)) (λ f n deep fits. named_two lim wide n i j f c z k a b ka kb term.ListIter u h fits deep (all_read lim wide c i (one a) ka u x) (all_read lim wide c j (one b) kb u y))
all_read lim wide d m w ks u (is_catch c i a ka x) = inner wide c i word.Catch (term.Catch a) ka (λ f n deep fits. plain_one wide n i f c a ka term.Catch fits deep (all_read lim wide c i (one a) ka u x))
all_read lim wide d m w ks u (is_state c i a ka x) = inner wide c i word.State (term.State a) ka (λ f n deep fits. plain_one wide n i f c a ka term.State fits deep (all_read lim wide c i (one a) ka u x))
all_read lim wide d m w ks u (is_gate c i j a b ka kb x y) =
    inner wide c (i + j) word.Gate (term.Gate a b) (ka ++ kb) (λ f n deep fits. plain_two wide n i j f c a b ka kb term.Gate fits deep (all_read lim wide c i (one a) ka u x) (all_read lim wide c j (one b) kb u y))
all_read lim wide d m w ks u (is_all c i ts k x) =
    inner wide c i word.All (term.All ts) k (λ f n deep fits. reads_as Closes (parts_at (term_at wide f) n n) (λ y. (term.All y.0, 1 + y.1)) (ts, i) k (all_read lim wide c i (many ts) k u x f n n deep fits (omega arith)))
all_read lim wide d m w ks u (is_build c i n k a ka h x) =
    inner wide c i word.Build (term.Build n a) (k ∷ ka) (λ f left deep fits. reads_then Closes (name_at wide) _ n (term.Build n a, 1 + i) (k ∷ []) ka (reads_name lim wide n k u h)
    (plain_one wide left i f c a ka (λ y. term.Build n y) fits deep (all_read lim wide c i (one a) ka u x)))
all_read lim wide d m w ks u (is_output c i j z k a b ka kb h x y) =
    inner wide c (i + j) word.Output (term.Output z a b) (k ∷ (ka ++ kb)) (λ f n deep fits. named_two lim wide n i j f c z k a b ka kb term.Output u h fits deep (all_read lim wide c i (one a) ka u x) (all_read lim wide c j (one b) kb u y))
all_read lim wide d m w ks u (no_more c) = λ e fuel left deep fits fuelled. reads_no_parts (term_at wide e) fuel left
all_read lim wide d m w ks u (one_more c i j a more ka k x y) = λ e fuel left deep fits fuelled.
    let b = begun lim c i (one a) ka x in
    reads_one_part (term_at wide e) fuel left i j a more ka k b.1 b.2 b.0 fits fuelled (λ l h. all_read lim wide c i (one a) ka u x e l deep h) (λ fuel' l h g. all_read lim wide c j (many more) k u y e fuel' l deep h g)
