-- Tokens, and the bytes between them.
use Rattle.std.specs.Prelude.{◌≡◌, ◌<◌, ◌≤◌, ℕ, zero, suc, ◌+◌, ◌^◌, ◌==◌, ◌&&◌, ◌||◌, not, nat_lt, if◌then◌else◌, Bool, List, [], ◌∷◌, length, drop, take, Option, Some, None, Result, Ok, Err}
use Rattle.std.specs.List.{prefix_len}
use Rattle.std.specs.Str.{is_utf8, all_ascii_digits}
use Rattle.std.specs.Str.Parse.{digits_value}
use Rattle.value_core.specs.declared.token.Token.{Token}
use Rattle.value_core.specs.declared.token.Token.TheVariants.{Name, Number, Words, Mark, LongName, LongText}
use Rattle.value_core.specs.declared.token.Next.{Next}
use Rattle.value_core.specs.declared.token.Next.TheVariants.{Found, End}
use Rattle.value_core.specs.declared.token.TokenFault.{TokenFault}
use Rattle.value_core.specs.declared.token.TokenFault.TheVariants.{Lex, NoMemory}
use Rattle.value_core.specs.declared.strings.Mode.TheVariants.{Plain}
use Rattle.value_core.specs.Names.{is_letter, is_word_byte}
use Rattle.value_core.specs.Strings.{body_at}

-- space, tab, newline, carriage return
abbrev pub is_blank : ℕ → Bool
is_blank b = b == 32 || (b == 9 || (b == 10 || b == 13))

-- any byte but a newline
abbrev pub in_line : ℕ → Bool
in_line b = not (b == 10)

-- `(`, `)`, `[`, `]` and `,`
abbrev pub is_mark : ℕ → Bool
is_mark b = b == 40 || (b == 41 || (b == 91 || (b == 93 || b == 44)))

-- the bytes up to a newline or the end
abbrev pub line : List ℕ → List ℕ
line bs = take (prefix_len in_line bs) bs

-- the number of bytes of blank space and comments at the front, if the first n belong to a comment; one that isn't UTF-8 is no comment
abbrev pub gap : ℕ → List ℕ → ℕ
gap n [] = 0
gap zero (b ∷ bs) =
    if is_blank b then 1 + gap 0 bs
    else (if b == 35 && is_utf8 (line bs) then 1 + gap (prefix_len in_line bs) bs
    else 0)
gap (suc n) (b ∷ bs) = 1 + gap n bs

-- `0`, or digits that don't begin with `0`, below 2 ^ 64
abbrev pub number_of : List ℕ → Option ℕ
number_of [] = None
number_of (b ∷ bs) =
    if all_ascii_digits (b ∷ bs) && ((not (b == 48) || nat_lt (length bs) 1) && nat_lt (digits_value 10 (b ∷ bs)) (2 ^ 64)) then Some (digits_value 10 (b ∷ bs))
    else None

-- the token of a number
abbrev pub number_token : Option ℕ → Option Token
number_token None = None
number_token (Some n) = Some (Number n)

-- a name or a number
abbrev pub word_token : List ℕ → Option Token
word_token [] = None
word_token (b ∷ bs) =
    if is_letter b then Some (if nat_lt 64 (length (b ∷ bs)) then LongName else Name (b ∷ bs))
    else number_token (number_of (b ∷ bs))

-- the token of a string that spells this text, if it is UTF-8
abbrev pub string_token : List ℕ → Option Token
string_token text =
    if is_utf8 text then Some (if nat_lt 65536 (length text) then LongText else Words text)
    else None

-- a token with the number of bytes that it takes
abbrev pub sized : Option Token → ℕ → Option (Token × ℕ)
sized None n = None
sized (Some t) n = Some (t, n)

-- the token of a string after its opening quote, if it has an end and no wrong escape or character
abbrev pub string_at : Option (List ℕ × ℕ) → Option (Token × ℕ)
string_at None = None
string_at (Some x) = sized (string_token x.0) (x.1 + 1)

-- the token at the front, and how many bytes it takes
abbrev pub token_at : List ℕ → Option (Token × ℕ)
token_at [] = None
token_at (b ∷ bs) =
    if is_mark b then Some (Mark b, 1)
    else (if is_word_byte b then sized (word_token (take (prefix_len is_word_byte (b ∷ bs)) (b ∷ bs))) (prefix_len is_word_byte (b ∷ bs))
    else (if b == 34 then string_at (body_at Plain bs)
    else None))

-- what was found at an offset, with the bytes from it on
abbrev pub found_at : ℕ → List ℕ → Option (Token × ℕ) → Result Next ℕ
found_at offset [] found = Ok End
found_at offset rest None = Err offset
found_at offset rest (Some x) = Ok (Found x.0 offset (offset + x.1))

-- the next token from an offset on, or the offset at which none begins
abbrev pub next_at : List ℕ → ℕ → Result Next ℕ
next_at bytes from =
    let offset = from + gap 0 (drop from bytes) in
    found_at offset (drop offset bytes) (token_at (drop offset bytes))

-- a fault is the offset at which no token begins, or out of memory
abbrev pub FailsNext : TokenFault → Result Next ℕ → Type 0
FailsNext NoMemory next = Unit {0}
FailsNext (Lex offset) next = next ≡ Err offset

-- what was returned is the next token, or out of memory
abbrev pub ReturnsNext : Result Next TokenFault → Result Next ℕ → Type 0
ReturnsNext (Ok found) next = next ≡ Ok found
ReturnsNext (Err e) next = FailsNext e next

-- a token that was found begins at this offset or later, takes a byte at least and ends within n
abbrev pub EndsWithin : ℕ → ℕ → Next → Type 0
EndsWithin from n (Found token offset end) = (from ≤ offset) × (offset < end) × (end ≤ n)
EndsWithin from n End = Unit {0}
