-- Lines of tokens are read as these tokens.
use Rattle.std.proofs.Common.{◌≡◌, ℕ, zero, suc, ◌+◌, ◌<◌, Bool, true, false, cond, List, [], ◌∷◌, ◌++◌, length, drop, refl, sym, ap, subst, ◌∙◌, append_assoc, length-append, arith}
use Rattle.std.specs.Prelude.{◌==◌, ◌||◌, ◌&&◌, codes, Option, Some, None, Result, Ok}
use Rattle.std.specs.List.{AllByRecursion, flat_map}
use Rattle.std.proofs.lemmas.Bool.Decides.{nat_tests}
use Rattle.std.proofs.lemmas.List.{drop_at}
use Rattle.value_core.specs.declared.lexing.Stop.TheVariants as stop
use Rattle.value_core.specs.declared.lexing.Tokens.{Tokens}
use Rattle.value_core.specs.declared.token.Next.{Next}
use Rattle.value_core.specs.declared.token.Next.TheVariants.{Found, End}
use Rattle.value_core.specs.declared.token.Token.{Token}
use Rattle.value_core.specs.declared.token.Token.TheVariants.{Name, Number, Words, Mark, LongName, LongText}
use Rattle.value_core.specs.Lexing.{lexed_next, lexed_from, lexed}
use Rattle.value_core.specs.Literals.{tokens_in}
use Rattle.value_core.specs.Names.{is_word_byte}
use Rattle.value_core.specs.Tokens.{is_blank, is_mark, gap, token_at, found_at, next_at}
use Rattle.pipe_text.specs.Printing.{token_text, opens, closes, space_before, spaced, line_text}
use Rattle.pipe_text.proofs.GoodTokens.{IsGood}
use Rattle.pipe_text.proofs.TermTokens.{IsShort}
use Rattle.pipe_text.proofs.Lexemes.{Stops, MayFollow, token_read, token_some}

-- ---- the next token

first_byte : (m w q : Bool) (x y z : Option (Token × ℕ)) (t : Token × ℕ) → cond m x (cond w y (cond q z None)) ≡ Some t → (m || (w || q)) ≡ true
first_byte true w q x y z t e = refl
first_byte false true q x y z t e = refl
first_byte false false true x y z t e = refl
first_byte false false false x y z t e = absurd cc

seen_byte : (b : ℕ) → (is_mark b || (is_word_byte b || b == 34)) ≡ true → (is_blank b ≡ false) × ((b == 35) ≡ false)
seen_byte b e = (grind (arith, nat_tests), grind (arith, nat_tests))

no_gap : (blank hash text : Bool) (m n : ℕ) → blank ≡ false → hash ≡ false → cond blank m (cond (hash && text) n 0) ≡ 0
no_gap blank hash text m n e h = rw (e, h) refl

-- where a token begins there is no gap
token_gap : (l : List ℕ) (t : Token × ℕ) → token_at l ≡ Some t → gap 0 l ≡ 0
token_gap [] t e = absurd cc
token_gap (b ∷ bs) t e = let seen = seen_byte b (first_byte (is_mark b) (is_word_byte b) (b == 34) _ _ _ t e) in no_gap (is_blank b) (b == 35) _ _ _ seen.0 seen.1

found_is : (offset : ℕ) (l : List ℕ) (t : Token × ℕ) → token_at l ≡ Some t → found_at offset l (token_at l) ≡ Ok (Found t.0 offset (offset + t.1))
found_is offset [] t e = absurd cc
found_is offset (b ∷ bs) t e = ap (found_at offset (b ∷ bs)) e

-- what is found at an offset
found_from : List ℕ → ℕ → Result Next ℕ
found_from bytes offset = found_at offset (drop offset bytes) (token_at (drop offset bytes))

next_is : (bytes : List ℕ) (from offset : ℕ) → from + gap 0 (drop from bytes) ≡ offset → next_at bytes from ≡ found_from bytes offset
unfolding found_from
next_is bytes from offset e = ap (λ (p : ℕ). found_at p (drop p bytes) (token_at (drop p bytes))) e

gap_is : (front l : List ℕ) (n : ℕ) → gap 0 l ≡ n → length front + gap 0 (drop (length front) (front ++ l)) ≡ length front + n
gap_is front l n e = ap (λ (m : ℕ). length front + m) (ap (gap 0) (drop_at front l (length front) refl) ∙ e)

next_read : (front l : List ℕ) (k : Token) (n : ℕ) → token_at l ≡ Some (k, n) → next_at (front ++ l) (length front) ≡ Ok (Found k (length front) (length front + n))
unfolding found_from
next_read front l k n e =
    let here : length front + 0 ≡ length front = omega arith in
    next_is (front ++ l) (length front) (length front) (gap_is front l 0 (token_gap l (k, n) e) ∙ here) ∙ ap (λ (x : List ℕ). found_at (length front) x (token_at x)) (drop_at front l (length front) refl) ∙ found_is (length front) l (k, n) e

next_end : (front : List ℕ) → next_at (front ++ []) (length front) ≡ Ok End
unfolding found_from
next_end front =
    let here : length front + 0 ≡ length front = omega arith in
    next_is (front ++ []) (length front) (length front) (gap_is front [] 0 refl ∙ here) ∙ ap (λ (x : List ℕ). found_at (length front) x (token_at x)) (drop_at front [] (length front) refl)

blank_gap : (b : ℕ) (l : List ℕ) → is_blank b ≡ true → gap 0 (b ∷ l) ≡ 1 + gap 0 l
blank_gap b l e = rw e refl

-- after a blank the same token comes
next_blank : (front : List ℕ) (b : ℕ) (l : List ℕ) → is_blank b ≡ true → next_at (front ++ b ∷ l) (length front) ≡ next_at ((front ++ b ∷ []) ++ l) (length (front ++ b ∷ []))
next_blank front b l e =
    let one_more : length (front ++ b ∷ []) ≡ length front + 1 = length-append front (b ∷ []) in
    let offset : ℕ = length (front ++ b ∷ []) + gap 0 l in
    let same : length front + (1 + gap 0 l) ≡ length (front ++ b ∷ []) + gap 0 l = omega (arith, one_more) in
    next_is (front ++ b ∷ l) (length front) offset (gap_is front (b ∷ l) (1 + gap 0 l) (blank_gap b l e) ∙ same) ∙ ap (λ (x : List ℕ). found_from x offset) (sym (append_assoc front (b ∷ []) l))
    ∙ sym (next_is ((front ++ b ∷ []) ++ l) (length (front ++ b ∷ [])) offset (gap_is (front ++ b ∷ []) l (gap 0 l) refl))

-- ---- all tokens

abbrev Returns : ℕ → List Token → Tokens → Type 0
Returns size ks t = (tokens_in t.tokens ≡ ks) × (t.stop ≡ stop.End size)

-- Whatever stands before, from here on the bytes are read as these tokens.
pub record Lexes (l : List ℕ) (ks : List Token) : Type 0 where
  pub lexes : (front : List ℕ) (n : ℕ) → length l < n → Returns (length (front ++ l)) ks (lexed_from n (front ++ l) (length front))

-- what is read by what comes next
gives_next : (front l : List ℕ) (n : ℕ) (r : Result Next ℕ) (ks : List Token) → next_at (front ++ l) (length front) ≡ r → Returns (length (front ++ l)) ks (lexed_next (length (front ++ l)) r (lexed_from n (front ++ l)))
    → Returns (length (front ++ l)) ks (lexed_from (suc n) (front ++ l) (length front))
gives_next front l n r ks e h = subst (λ (x : Result Next ℕ). Returns (length (front ++ l)) ks (lexed_next (length (front ++ l)) x (lexed_from n (front ++ l)))) (sym e) h

raw_end : (front : List ℕ) (n : ℕ) → length {A = ℕ} [] < n → Returns (length (front ++ [])) [] (lexed_from n (front ++ []) (length front))
raw_end front zero h = absurd (omega (arith, h))
raw_end front (suc n) h = gives_next front [] n (Ok End) [] (next_end front) (refl, refl)

pub lex_end : Lexes [] []
lex_end = record { lexes = raw_end }

-- the same bytes and offset, put otherwise
gives_moved : (bytes other : List ℕ) (from to n : ℕ) (ks : List Token) → bytes ≡ other → from ≡ to → Returns (length bytes) ks (lexed_from n bytes from) → Returns (length other) ks (lexed_from n other to)
gives_moved bytes other from to n ks e h g = subst (λ (m : ℕ). Returns (length other) ks (lexed_from n other m)) h (subst (λ (b : List ℕ). Returns (length b) ks (lexed_from n b from)) e g)

raw_token : (text rest : List ℕ) (k : Token) (ks : List Token) → 0 < length text → token_at (text ++ rest) ≡ Some (k, length text) → Lexes rest ks
    → (front : List ℕ) (n : ℕ) → length (text ++ rest) < n → Returns (length (front ++ (text ++ rest))) (k ∷ ks) (lexed_from n (front ++ (text ++ rest)) (length front))
raw_token text rest k ks some e more front zero h = absurd (omega (arith, h))
raw_token text rest k ks some e more front (suc n) h =
    let size = length-append text rest in
    let later = more.lexes (front ++ text) n (omega (arith, h, size, some)) in
    let moved = gives_moved ((front ++ text) ++ rest) (front ++ (text ++ rest)) (length (front ++ text)) (length front + length text) n ks (append_assoc front text rest) (length-append front text) later in
    gives_next front (text ++ rest) n (Ok (Found k (length front) (length front + length text))) (k ∷ ks) (next_read front (text ++ rest) k (length text) e) (ap (λ (l : List Token). k ∷ l) moved.0, moved.1)

pub lex_token : (text rest : List ℕ) (k : Token) (ks : List Token) → 0 < length text → token_at (text ++ rest) ≡ Some (k, length text) → Lexes rest ks → Lexes (text ++ rest) (k ∷ ks)
lex_token text rest k ks some e more = record { lexes = raw_token text rest k ks some e more }

raw_blank : (b : ℕ) (rest : List ℕ) (ks : List Token) → is_blank b ≡ true → Lexes rest ks → (front : List ℕ) (n : ℕ) → length (b ∷ rest) < n → Returns (length (front ++ b ∷ rest)) ks (lexed_from n (front ++ b ∷ rest) (length front))
raw_blank b rest ks e more front zero h = absurd (omega (arith, h))
raw_blank b rest ks e more front (suc n) h =
    let there : List ℕ = (front ++ b ∷ []) ++ rest in
    let later = more.lexes (front ++ b ∷ []) (suc n) (omega (arith, h)) in
    let whole = append_assoc front (b ∷ []) rest in
    gives_next front (b ∷ rest) n (next_at there (length (front ++ b ∷ []))) ks (next_blank front b rest e)
    (subst (λ (l : List ℕ). Returns (length l) ks (lexed_next (length l) (next_at there (length (front ++ b ∷ []))) (lexed_from n l))) whole later)

pub lex_blank : (b : ℕ) (rest : List ℕ) (ks : List Token) → is_blank b ≡ true → Lexes rest ks → Lexes (b ∷ rest) ks
lex_blank b rest ks e more = record { lexes = raw_blank b rest ks e more }

-- ---- lines

spaced_mark : (c : Bool) (b : ℕ) (ks : List Token) (rest : List ℕ) → (c ≡ true → is_word_byte b ≡ false) → Stops is_word_byte ((cond c [] (codes " ") ++ (b ∷ [] ++ spaced (opens (Mark b)) ks)) ++ rest)
spaced_mark true b ks rest h = h refl
spaced_mark false b ks rest h = refl

or_false : (c : Bool) → (c || false) ≡ c
or_false true = refl
or_false false = refl

closing_byte : (b : ℕ) → ((b == 41 || (b == 93 || b == 44)) || false) ≡ true → is_word_byte b ≡ false
closing_byte b e = grind (arith, nat_tests)

-- after a word a space, a mark or the rest stands
spaced_stops : (ks : List Token) (rest : List ℕ) → Stops is_word_byte rest → Stops is_word_byte (spaced false ks ++ rest)
spaced_stops [] rest h = h
spaced_stops (Mark b ∷ ks) rest h = spaced_mark ((b == 41 || (b == 93 || b == 44)) || false) b ks rest (closing_byte b)
spaced_stops (Name n ∷ ks) rest h = refl
spaced_stops (Number n ∷ ks) rest h = refl
spaced_stops (Words t ∷ ks) rest h = refl
spaced_stops (LongName ∷ ks) rest h = refl
spaced_stops (LongText ∷ ks) rest h = refl

spaced_follows : (k : Token) (ks : List Token) (rest : List ℕ) → Stops is_word_byte rest → MayFollow k (spaced (opens k) ks ++ rest)
spaced_follows (Name n) ks rest h = spaced_stops ks rest h
spaced_follows (Number n) ks rest h = spaced_stops ks rest h
spaced_follows (Words t) ks rest h = tt
spaced_follows (Mark b) ks rest h = tt
spaced_follows LongName ks rest h = tt
spaced_follows LongText ks rest h = tt

lex_spaces : (no_space : Bool) (rest : List ℕ) (ks : List Token) → Lexes rest ks → Lexes (cond no_space [] (codes " ") ++ rest) ks
lex_spaces true rest ks h = h
lex_spaces false rest ks h = lex_blank 32 rest ks refl h

spaced_lexes : (tight : Bool) (ks : List Token) (rest : List ℕ) (ls : List Token) → AllByRecursion IsGood ks → AllByRecursion IsShort ks → Stops is_word_byte rest → Lexes rest ls → Lexes (spaced tight ks ++ rest) (ks ++ ls)
spaced_lexes tight [] rest ls g s stops h = h
spaced_lexes tight (k ∷ ks) rest ls (good, g) (short, s) stops h =
    let more = spaced_lexes (opens k) ks rest ls g s stops h in
    let here = lex_token (token_text k) (spaced (opens k) ks ++ rest) k (ks ++ ls) (token_some k good short) (token_read k (spaced (opens k) ks ++ rest) good short (spaced_follows k ks rest stops)) more in
    let all = lex_spaces (closes k || tight) (token_text k ++ (spaced (opens k) ks ++ rest)) (k ∷ (ks ++ ls)) here in
    subst (λ (l : List ℕ). Lexes l (k ∷ (ks ++ ls))) (sym (append_assoc (space_before tight k) (token_text k ++ spaced (opens k) ks) rest ∙ ap (λ (l : List ℕ). space_before tight k ++ l) (append_assoc (token_text k) (spaced (opens k) ks) rest))) all

-- tokens of a line that may be printed
pub record IsLine (ks : List Token) : Type 0 where
  pub good : AllByRecursion IsGood ks
  pub short : AllByRecursion IsShort ks

lines_lex : (lines : List (List Token)) → AllByRecursion IsLine lines → Lexes (flat_map line_text lines) (flat_map (λ ks. ks) lines)
lines_lex [] h = lex_end
lines_lex (ks ∷ lines) (line, h) =
    let rest : List ℕ = flat_map line_text lines in
    let more = lex_blank 10 rest (flat_map (λ ks. ks) lines) refl (lines_lex lines h) in
    let all = spaced_lexes true ks (10 ∷ rest) (flat_map (λ ks. ks) lines) line.good line.short refl more in
    subst (λ (l : List ℕ). Lexes l (ks ++ flat_map (λ ks. ks) lines)) (sym (append_assoc (spaced true ks) (codes "\n") rest)) all

-- Printed lines are read as their tokens, to the end.
pub lines_lexed : (lines : List (List Token)) → AllByRecursion IsLine lines → (tokens_in (lexed (flat_map line_text lines)).tokens ≡ flat_map (λ ks. ks) lines) × ((lexed (flat_map line_text lines)).stop ≡ stop.End (length (flat_map line_text lines)))
unfolding lexed
lines_lexed lines h = (lines_lex lines h).lexes [] (suc (length (flat_map line_text lines))) (omega arith)
