-- Readers of tokens from left to right, with one token in hand.
use Rattle.std.specs.Prelude.{◌≡◌, ℕ, ◌==◌, Bool, true, false, List, [], ◌∷◌, Result, Ok, Err, if◌then◌else◌, Option, Some, None}
use Rattle.std.specs.Borrow.{Bor}
use Rattle.std.specs.Str.{bytes_eq}
use Rattle.value_core.specs.declared.token.Token.{Token}
use Rattle.value_core.specs.declared.token.Token.TheVariants.{Name, Words, Mark, LongText}
use Rattle.value_core.specs.declared.lexing.TokenAt.{TokenAt}
use Rattle.value_core.specs.declared.lexing.Stop.{Stop}
use Rattle.value_core.specs.declared.lexing.Stop.TheVariants as stop
use Rattle.pipe_text.specs.declared.fault.Fault.{Fault}
use Rattle.pipe_text.specs.declared.fault.Fault.TheVariants.{Lex, Syntax}
use Rattle.pipe_text.specs.declared.fault.TakeError.{TakeError}
use Rattle.pipe_text.specs.declared.fault.TakeError.TheVariants.{NoMemory, At}

infixl 10 ◌>>=◌
-- the next reader over a value, or the fault as it is
abbrev pub ◌>>=◌ : {A B : Type 0} → Result A Fault → (A → Result B Fault) → Result B Fault
(Ok x) >>= f = f x
(Err e) >>= f = Err e

-- what failed is what reading returns, or out of memory
abbrev pub Fails : {Y : Type 0} → TakeError → Result Y Fault → Type 0
Fails NoMemory read = Unit {0}
Fails (At f) read = read ≡ Err f

-- what a function returned, seen by view, is what reading returns, or out of memory
abbrev pub Returns : {X Y : Type 0} → (X → Y) → Result X TakeError → Result Y Fault → Type 0
Returns view (Ok x) read = read ≡ Ok (view x)
Returns view (Err e) read = Fails e read

-- what a function returned is what reading returns as it is, or out of memory
abbrev pub Agrees : {X : Type 0} → Result X TakeError → Result X Fault → Type 0
Agrees = Returns (λ x. x)

-- the value that a function returned, and the tokens left, are those that reading returns
abbrev pub Takes : {A : Type 0} → Result (A × Bor (List TokenAt)) TakeError → Result (A × List TokenAt) Fault → Type 0
Takes = Returns (λ x. (x.0, x.1.now))

-- the same of a value with a number beside it
abbrev pub TakesCounted : {A : Type 0} → Result (A × ℕ × Bor (List TokenAt)) TakeError → Result ((A × ℕ) × List TokenAt) Fault → Type 0
TakesCounted = Returns (λ x. ((x.0, x.1), x.2.now))

-- the same of a token that has no value
abbrev pub Passes : Result (Bor (List TokenAt)) TakeError → Result (Unit {0} × List TokenAt) Fault → Type 0
Passes = Returns (λ x. (tt, x.now))

-- A reader takes a value from the front of the tokens. Where they stop there is one fault.
abbrev pub Reader : Type 0 → Type 0
Reader A = Stop → List TokenAt → Result (A × List TokenAt) Fault

-- the fault if a token is wanted and the tokens stop
abbrev pub fault_of : Stop → Fault
fault_of (stop.Lex offset) = Lex offset
fault_of (stop.End offset) = Syntax offset

-- the token in hand
abbrev pub token_at : Reader TokenAt
token_at s [] = Err (fault_of s)
token_at s (t ∷ ts) = Ok (t, ts)

-- nothing is taken
abbrev pub give : {A : Type 0} → A → Reader A
give a s ts = Ok (a, ts)

-- nothing can follow
abbrev pub refuse : {A : Type 0} → Reader A
refuse s ts = Err (fault_of s)

-- one reader after the other
abbrev pub seq : {A B : Type 0} → Reader A → (A → Reader B) → Reader B
seq r f s ts = r s ts >>= λ x. f x.0 s x.1

-- the reader after a token, or the fault at that token's offset
abbrev pub Choice : Type 0 → Type 0
Choice A = Result (Reader A) (ℕ → Fault)

-- as was chosen
abbrev pub go : {A : Type 0} → Choice A → ℕ → Reader A
go (Err f) offset s ts = Err (f offset)
go (Ok r) offset s ts = r s ts

-- by the token in hand, which is taken
abbrev pub branch : {A : Type 0} → (Token → Choice A) → Reader A
branch table s ts = token_at s ts >>= λ t. go (table t.0.token) t.0.offset s t.1

-- whether the token in hand passes a test
abbrev pub next_passes : (Token → Bool) → List TokenAt → Bool
next_passes test [] = false
next_passes test (t ∷ ts) = test t.token

-- by a test of the token in hand, which is left
abbrev pub peek : {A : Type 0} → (Token → Bool) → Reader A → Reader A → Reader A
peek test r q s ts = if next_passes test ts then r s ts else q s ts

-- the value if the file ends, or a reader if a token is left
abbrev pub unless_ended : {A : Type 0} → A → Reader A → Reader A
unless_ended a r (stop.Lex offset) [] = Err (Lex offset)
unless_ended a r (stop.End offset) [] = Ok (a, [])
unless_ended a r s (t ∷ ts) = r s (t ∷ ts)

-- this mark is its own end
abbrev pub mark_choice : ℕ → Token → Choice (Unit {0})
mark_choice c (Mark m) = if m == c then Ok (give tt) else Err Syntax
mark_choice c k = Err Syntax

-- this mark
abbrev pub mark_at : ℕ → Reader (Unit {0})
mark_at c = branch (mark_choice c)

-- the reader after a word that was looked up
abbrev pub chosen : {W A : Type 0} → (W → Choice A) → Option W → Choice A
chosen f None = Err Syntax
chosen f (Some w) = f w

-- by the word with the letters of a name
abbrev pub word_choice : {W A : Type 0} → (List ℕ → Option W) → (W → Choice A) → Token → Choice A
word_choice find f (Name n) = chosen f (find n)
word_choice find f k = Err Syntax

-- a word
abbrev pub word_at : {W : Type 0} → (List ℕ → Option W) → Reader W
word_at find = branch (word_choice find (λ w. Ok (give w)))

-- these letters and no others
abbrev pub only : List ℕ → List ℕ → Option (Unit {0})
only letters n = if bytes_eq n letters then Some tt else None

-- the keyword with these letters
abbrev pub keyword_at : List ℕ → Reader (Unit {0})
keyword_at letters = word_at (only letters)

-- whether a token is the keyword with these letters
abbrev pub is_keyword : List ℕ → Token → Bool
is_keyword letters (Name n) = bytes_eq n letters
is_keyword letters k = false

-- whether a token is a string
abbrev pub is_string : Token → Bool
is_string (Words t) = true
is_string LongText = true
is_string k = false

-- a reader after a keyword if that is next, else another
abbrev pub if_keyword : {A : Type 0} → List ℕ → Reader A → Reader A → Reader A
if_keyword letters r q = peek (is_keyword letters) (seq (keyword_at letters) (λ u. r)) q
