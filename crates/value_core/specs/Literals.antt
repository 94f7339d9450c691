-- Literals: which bytes spell a value, by their tokens.
use Rattle.std.specs.Prelude.{◌≡◌, ℕ, ◌==◌, ◌&&◌, nat_lt, if◌then◌else◌, Bool, true, false, List, [], ◌∷◌, length, map, Option, Some, None, Result, Ok, Err}
use Rattle.value_core.specs.declared.lexing.TokenAt.{TokenAt}
use Rattle.value_core.specs.declared.lexing.Stop.{Stop}
use Rattle.value_core.specs.declared.lexing.Stop.TheVariants as stop
use Rattle.value_core.specs.declared.literal.LiteralFault.{LiteralFault}
use Rattle.value_core.specs.declared.literal.LiteralFault.TheVariants.{NotLiteral, NoMemory}
use Rattle.value_core.specs.declared.token.Token.{Token}
use Rattle.value_core.specs.declared.token.Token.TheVariants.{Number, Words, Mark}
use Rattle.value_core.specs.declared.value.Value.{Value}
use Rattle.value_core.specs.declared.value.Value.TheVariants as value
use Rattle.value_core.specs.Lexing.{lexed}
use Rattle.value_core.specs.Parts.{text_values}
use Rattle.value_core.specs.Values.{weight_of}

-- the tokens, without their places
abbrev pub tokens_in : List TokenAt → List Token
tokens_in = map (λ p. p.token)

-- one text more in front
abbrev pub with_text : List ℕ → Option (List (List ℕ)) → Option (List (List ℕ))
with_text t None = None
with_text t (Some ts) = Some (t ∷ ts)

-- a string and the mark after it: after a comma comes `more`, after a closing bracket nothing
abbrev pub item_text : Token → Token → Bool → Option (List (List ℕ)) → Option (List (List ℕ))
item_text (Words t) (Mark b) is_last more =
    if b == 44 then with_text t more
    else (if b == 93 && is_last then Some (t ∷ [])
    else None)
item_text k l is_last more = None

-- whether no token is left
abbrev pub none_left : List Token → Bool
none_left [] = true
none_left (k ∷ ks) = false

-- the texts of strings with a comma between each two and a closing bracket at the end
abbrev pub item_texts : List Token → Option (List (List ℕ))
item_texts [] = None
item_texts (k ∷ []) = None
item_texts (k ∷ l ∷ ks) = item_text k l (none_left ks) (item_texts ks)

-- whether a token is this mark
abbrev pub is_mark_of : ℕ → Token → Bool
is_mark_of b (Mark c) = c == b
is_mark_of b k = false

-- the texts of a list after its opening bracket
abbrev pub list_texts : List Token → Option (List (List ℕ))
list_texts [] = None
list_texts (k ∷ []) = if is_mark_of 93 k then Some [] else None
list_texts (k ∷ l ∷ ks) = item_texts (k ∷ l ∷ ks)

-- the list of these texts, unless it is too long
abbrev pub list_literal : Option (List (List ℕ)) → Option Value
list_literal None = None
list_literal (Some ts) = if nat_lt 256 (length ts) then None else Some (value.List (text_values ts))

-- the value of one token
abbrev pub single_literal : Token → Option Value
single_literal (Words t) = Some (value.Words t)
single_literal (Number n) = Some (value.Num n)
single_literal k = None

-- the value of tokens: one string, one number, or a list of strings
abbrev pub literal_of : List Token → Option Value
literal_of [] = None
literal_of (k ∷ []) = single_literal k
literal_of (k ∷ l ∷ ks) = if is_mark_of 91 k then list_literal (list_texts (l ∷ ks)) else None

-- the value, unless it weighs too much
abbrev pub light : Option Value → Option Value
light None = None
light (Some v) = if nat_lt 1048576 (weight_of v) then None else Some v

-- the value of tokens that stop at the end of the bytes
abbrev pub ended_literal : Stop → List Token → Option Value
ended_literal (stop.Lex p) ks = None
ended_literal (stop.End p) ks = light (literal_of ks)

-- the value that the bytes spell
abbrev pub literal_read : List ℕ → Option Value
literal_read bytes = ended_literal (lexed bytes).stop (tokens_in (lexed bytes).tokens)

-- a fault says that there is no value, or is out of memory
abbrev pub FailsLiteral : LiteralFault → Option Value → Type 0
FailsLiteral NoMemory read = Unit {0}
FailsLiteral NotLiteral read = read ≡ None

-- what was returned is the value, or out of memory
abbrev pub ReturnsLiteral : Result Value LiteralFault → Option Value → Type 0
ReturnsLiteral (Ok v) read = read ≡ Some v
ReturnsLiteral (Err fault) read = FailsLiteral fault read
