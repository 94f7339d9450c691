-- How the scan of a string and of blank space goes on.
use Rattle.std.proofs.Common.{◌≡◌, ◌<◌, ◌≤◌, ℕ, zero, suc, ◌+◌, ◌*◌, subst, Bool, true, false, cond, List, [], ◌∷◌, ◌++◌, length, get_or, drop, take, refl, sym, ap, ◌∙◌, append_assoc, arith}
use Rattle.std.specs.Prelude.{Option, Some, None, ◌==◌, ◌&&◌, ◌||◌, if◌then◌else◌, not, nat_lt, ◌^◌, Result, Err}
use Rattle.std.specs.List.{prefix_len, list_all, take_while}
use Rattle.std.specs.Str.{all_ascii_digits, IsAscii}
use Rattle.std.proofs.lemmas.Bool.Decides.{nat_tests}
use Rattle.std.specs.Str.{is_utf8, IsUtf8}
use Rattle.std.proofs.lemmas.Str.{IsUtf8-from_is_utf8, is_utf8-from_IsUtf8, IsUtf8-from_ascii}
use Rattle.std.proofs.lemmas.Str.Ascii.{IsAscii-nil, IsAscii-cons}
use Rattle.std.proofs.lemmas.Str.Parse.{parse_digits, numerals_by_value, tells_all_ascii_digits}
use Rattle.std.proofs.lemmas.List.{drop-drop}
use Rattle.std.proofs.lemmas.List.Sums.{take_while-cons, prefix_len-le-length}
use Rattle.std.specs.Str.Parse.{ParsesUnsigned, digits_value}
use Rattle.std.specs.Char.{is_ascii_digit}
use Rattle.value_core.specs.declared.strings.Mode.{Mode}
use Rattle.value_core.specs.declared.strings.Mode.TheVariants.{Plain, Slash, Hex, Digit}
use Rattle.value_core.specs.declared.strings.Step.{Step}
use Rattle.value_core.specs.declared.strings.Step.TheVariants.{Ends, Adds, Turns, Wrong}
use Rattle.value_core.specs.Texts.{no_nul}
use Rattle.value_core.specs.Names.{is_letter, is_name, is_word_byte}
use Rattle.value_core.specs.Strings.{with_byte, later, go_on, step, is_hex, hex_value, is_control, body_at}
use Rattle.value_core.specs.Tokens.{gap, is_blank, in_line, line, number_of}
use Rattle.value_core.proofs.Basics.{and_both, and_parts, nat_lt_is, not_true, or_left}

pub not_utf8 : (bs : List ℕ) → ¬ (IsUtf8 bs) → is_utf8 bs ≡ false
not_utf8 bs bad = not_true (is_utf8 bs) (λ e. bad (IsUtf8-from_is_utf8 bs e))

-- what was read before, and what is read from here
abbrev pub prefixed : List ℕ → ℕ → Option (List ℕ × ℕ) → Option (List ℕ × ℕ)
prefixed t n None = None
prefixed t n (Some x) = Some (t ++ x.0, n + x.1)

pub prefixed_byte : (t : List ℕ) (n c : ℕ) (o : Option (List ℕ × ℕ)) → prefixed t n (with_byte c o) ≡ prefixed (t ++ c ∷ []) (n + 1) o
prefixed_byte t n c None = refl
prefixed_byte t n c (Some x) = (λ i. Some (sym (append_assoc t (c ∷ []) x.0) i, (let e : n + (x.1 + 1) ≡ n + 1 + x.1 = omega arith in e) i))

pub prefixed_later : (t : List ℕ) (n : ℕ) (o : Option (List ℕ × ℕ)) → prefixed t n (later o) ≡ prefixed t (n + 1) o
prefixed_later t n None = refl
prefixed_later t n (Some x) = (λ i. Some (t ++ x.0, (let e : n + (x.1 + 1) ≡ n + 1 + x.1 = omega arith in e) i))

-- a comment is passed whole
pub gap_passed : (n : ℕ) (bs : List ℕ) → n ≤ length bs → gap n bs ≡ n + gap 0 (drop n bs)
gap_passed zero bs h = sym (omega arith)
gap_passed (suc n) [] h = absurd (omega arith)
gap_passed (suc n) (b ∷ bs) h = let rest = gap_passed n bs (omega arith) in omega (arith, rest)

-- ---- no string has a zero byte

adds_some : Step → Type 0
adds_some (Adds c) = (c == 0) ≡ false
adds_some s = Unit {0}

is_ends : adds_some Ends
unfolding adds_some
is_ends = tt

is_wrong : adds_some Wrong
unfolding adds_some
is_wrong = tt

is_turns : (m : Mode) → adds_some (Turns m)
unfolding adds_some
is_turns m = tt

is_adds : (c : ℕ) → (c == 0) ≡ false → adds_some (Adds c)
unfolding adds_some
is_adds c e = e

if_some : (b : Bool) (x y : Step) → (b ≡ true → adds_some x) → (b ≡ false → adds_some y) → adds_some (cond b x y)
if_some true x y f g = f refl
if_some false x y f g = g refl

high_some : (b : ℕ) → (nat_lt b 32 || b == 127) ≡ false → (b == 0) ≡ false
high_some b e = grind (arith, nat_tests)

mark_some : (b : ℕ) → (b == 34 || b == 92) ≡ true → (b == 0) ≡ false
mark_some b e = grind (arith, nat_tests)

control_some : (c : ℕ) → is_control c ≡ true → (c == 0) ≡ false
control_some c e = grind (arith, nat_tests)

step_some : (m : Mode) (b : ℕ) → adds_some (step m b)
step_some Plain b =
    let high : Step = if nat_lt b 32 || b == 127 then Wrong else Adds b in
    if_some (b == 34) Ends (if b == 92 then Turns Slash else high) (λ e. is_ends) (λ e. if_some (b == 92) (Turns Slash) high (λ e. is_turns Slash)
    (λ e. if_some (nat_lt b 32 || b == 127) Wrong (Adds b) (λ e. is_wrong) (λ h. is_adds b (high_some b h))))
step_some Slash b =
    let hex : Step = if b == 120 then Turns Hex else Wrong in
    let return : Step = if b == 114 then Adds 13 else hex in
    let tab : Step = if b == 116 then Adds 9 else return in
    let line : Step = if b == 110 then Adds 10 else tab in
    if_some (b == 34 || b == 92) (Adds b) line (λ e. is_adds b (mark_some b e)) (λ e. if_some (b == 110) (Adds 10) tab (λ e. is_adds 10 refl)
    (λ e. if_some (b == 116) (Adds 9) return (λ e. is_adds 9 refl) (λ e. if_some (b == 114) (Adds 13) hex (λ e. is_adds 13 refl)
    (λ e. if_some (b == 120) (Turns Hex) Wrong (λ e. is_turns Hex) (λ e. is_wrong)))))
step_some Hex b = if_some _ _ _ (λ e. is_turns _) (λ e. is_wrong)
step_some (Digit h) b =
    if_some _ _ _ (λ e. is_adds (16 * h + hex_value b) (control_some (16 * h + hex_value b) (and_parts (nat_lt h 8) _ (and_parts (is_hex b) _ e).1).1)) (λ e. is_wrong)

abbrev Clean : Option (List ℕ × ℕ) → Type 0
Clean None = Unit {0}
Clean (Some x) = no_nul x.0 ≡ true

clean_byte : (c : ℕ) (o : Option (List ℕ × ℕ)) → (c == 0) ≡ false → Clean o → Clean (with_byte c o)
clean_byte c None h x = tt
clean_byte c (Some o) h x = rw (h, x) refl

clean_later : (o : Option (List ℕ × ℕ)) → Clean o → Clean (later o)
clean_later None x = tt
clean_later (Some o) x = x

clean_step : (s : Step) (f : Mode → Option (List ℕ × ℕ)) → adds_some s → ((m : Mode) → Clean (f m)) → Clean (go_on s f)
unfolding adds_some
clean_step Ends f h x = refl
clean_step (Adds c) f h x = clean_byte c (f Plain) h (x Plain)
clean_step (Turns m) f h x = clean_later (f m) (x m)
clean_step Wrong f h x = tt

clean_body : (m : Mode) (bs : List ℕ) → Clean (body_at m bs)
clean_body m [] = tt
clean_body m (b ∷ bs) = clean_step (step m b) (λ n. body_at n bs) (step_some m b) (λ n. clean_body n bs)

clean_is : (o : Option (List ℕ × ℕ)) (t : List ℕ) (n : ℕ) → Clean o → o ≡ Some (t, n) → no_nul t ≡ true
clean_is None t n x e = absurd cc
clean_is (Some y) t n x e = let is : y.0 ≡ t = cc in rw is at x

pub body_no_nul : (m : Mode) (bs t : List ℕ) (n : ℕ) → body_at m bs ≡ Some (t, n) → no_nul t ≡ true
body_no_nul m bs t n e = clean_is (body_at m bs) t n (clean_body m bs) e

-- ---- words

word_byte_small : (b : ℕ) → is_word_byte b ≡ true → (b < 128) × ((b == 0) ≡ false)
word_byte_small b e = (grind (arith, nat_tests), grind (arith, nat_tests))

pub word_no_nul : (w : List ℕ) → list_all is_word_byte w ≡ true → no_nul w ≡ true
word_no_nul [] e = refl
word_no_nul (b ∷ bs) e = let p = and_parts (is_word_byte b) (list_all is_word_byte bs) e in rw ((word_byte_small b p.0).1, word_no_nul bs p.1) refl

word_ascii : (w : List ℕ) → list_all is_word_byte w ≡ true → IsAscii w
word_ascii [] e = IsAscii-nil
word_ascii (b ∷ bs) e = let p = and_parts (is_word_byte b) (list_all is_word_byte bs) e in IsAscii-cons b bs (word_byte_small b p.0).0 (word_ascii bs p.1)

pub word_utf8 : (w : List ℕ) → list_all is_word_byte w ≡ true → is_utf8 w ≡ true
word_utf8 w e = is_utf8-from_IsUtf8 w (IsUtf8-from_ascii w (word_ascii w e))

pub name_word : (n : List ℕ) → is_name n ≡ true → list_all is_word_byte n ≡ true
name_word [] e = absurd cc
name_word (b ∷ bs) e =
    let h = and_parts (is_letter b) _ e in
    and_both (is_word_byte b) (list_all is_word_byte bs) (or_left (is_letter b) _ h.0) (and_parts (list_all is_word_byte bs) _ h.1).0

pub name_utf8 : (n : List ℕ) → is_name n ≡ true → is_utf8 n ≡ true
name_utf8 n e = word_utf8 n (name_word n e)

pub name_no_nul : (n : List ℕ) → is_name n ≡ true → no_nul n ≡ true
name_no_nul n e = word_no_nul n (name_word n e)

passes_or : (p : ℕ → Bool) (x : ℕ) (xs : List ℕ) (b : Bool) → p x ≡ b → list_all p xs ≡ true → list_all p (cond b (x ∷ xs) []) ≡ true
passes_or p x xs true e h = rw (e, h) refl
passes_or p x xs false e h = refl

pub run_passes : (p : ℕ → Bool) (xs : List ℕ) → list_all p (take (prefix_len p xs) xs) ≡ true
run_passes p [] = refl
run_passes p (x ∷ xs) = subst (λ (l : List ℕ). list_all p l ≡ true) (sym (take_while-cons p x xs)) (passes_or p x (take_while p xs) (p x) refl (run_passes p xs))

pub run_some : (p : ℕ → Bool) (x : ℕ) (xs : List ℕ) → p x ≡ true → 0 < prefix_len p (x ∷ xs)
run_some p x xs e = rw e (omega arith)

-- ---- numbers

digit_small : (b : ℕ) → is_ascii_digit b ≡ true → b < 128
digit_small b e = grind (arith, nat_tests)

digits_ascii : (w : List ℕ) → all_ascii_digits w ≡ true → IsAscii w
digits_ascii [] e = IsAscii-nil
digits_ascii (b ∷ bs) e = let p = and_parts (is_ascii_digit b) (all_ascii_digits bs) e in IsAscii-cons b bs (digit_small b p.0) (digits_ascii bs p.1)

pub digits_utf8 : (w : List ℕ) → all_ascii_digits w ≡ true → IsUtf8 w
digits_utf8 w e = IsUtf8-from_ascii w (digits_ascii w e)

if_big : (a b c : Bool) (o : Option ℕ) → c ≡ false → cond (a && (b && c)) o None ≡ None
if_big true true c o e = rw e refl
if_big true false c o e = refl
if_big false b c o e = refl

big_is : (w : List ℕ) → nat_lt (digits_value 10 w) (2 ^ 64) ≡ false → number_of w ≡ None
big_is [] e = refl
big_is (b ∷ bs) e = if_big (all_ascii_digits (b ∷ bs)) (not (b == 48) || nat_lt (length bs) 1) _ _ e

pub too_big : {E : Type 0} (w : List ℕ) (r : Result ℕ E) (e : E) → all_ascii_digits w ≡ true → 0 < length w → ParsesUnsigned 64 10 w r → r ≡ Err e → number_of w ≡ None
too_big w r e digits some parses is =
    let parsed = parse_digits (numerals_by_value _ tells_all_ascii_digits) 64 w r parses digits in
    big_is w (not_true _ (λ small. let no_number = rw is at parsed in no_number (some, nat_lt_is _ _ small)))

-- ---- blank space

pub gap_more : (bs : List ℕ) (at len : ℕ) → gap 0 (drop at bs) ≡ len + gap 0 (drop len (drop at bs)) → at + gap 0 (drop at bs) ≡ at + (len + gap 0 (drop (at + len) bs))
gap_more bs at len e = let d : drop len (drop at bs) ≡ drop (at + len) bs = drop-drop len at bs in ap (λ (n : ℕ). at + n) (e ∙ ap (λ (l : List ℕ). len + gap 0 l) d)

pub gap_comment : (b : ℕ) (bs : List ℕ) → is_blank b ≡ false → b ≡ 35 → is_utf8 (line bs) ≡ true → gap 0 (b ∷ bs) ≡ prefix_len in_line bs + 1 + gap 0 (drop (prefix_len in_line bs + 1) (b ∷ bs))
gap_comment b bs blank hash text =
    let n = prefix_len in_line bs in
    let all = gap_passed n bs (prefix_len-le-length in_line bs) in
    let e : n + 1 ≡ suc n = omega arith in
    rw (blank, hash, text, e, all) (omega arith)

pub gap_comment_at : (bs : List ℕ) (n : ℕ) → 1 ≤ length bs → is_blank (get_or bs 0 0) ≡ false → get_or bs 0 0 ≡ 35 → n ≡ prefix_len in_line (drop 1 bs) → is_utf8 (take n (drop 1 bs)) ≡ true → gap 0 bs ≡ n + 1 + gap 0 (drop (n + 1) bs)
gap_comment_at [] n some blank hash is text = absurd (omega arith)
gap_comment_at (b ∷ bs) n some blank hash is text =
    let named : is_utf8 (line bs) ≡ true = rw is at text in
    rw is (gap_comment b bs blank hash named)
