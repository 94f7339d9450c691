-- The words of an order.
use Rattle.std.specs.Prelude.{ℕ, nat_lt, not, if◌then◌else◌, Bool, List, [], ◌∷◌, length, map, min, ◌-◌, ◌^◌, Option, Some, None, Result, Ok, Err}
use Rattle.std.specs.List.{list_all}
use Rattle.op_keys.specs.declared.declarations.OpDecl.{OpDecl}
use Rattle.op_keys.specs.declared.order.OrderFault.{OrderFault}
use Rattle.op_keys.specs.declared.order.OrderFault.TheVariants.{WordTooLong, NoMemory}
use Rattle.op_keys.specs.Filling.{filled}

-- the greatest number of bytes of a word
abbrev pub order_limit : ℕ
order_limit = 100000

-- the words of the order for a key and a value, however long
abbrev pub order_words : OpDecl → List ℕ → List ℕ → List (List ℕ)
order_words decl key value = map (filled key value) decl.words

-- whether a word is within the limit
abbrev pub is_short : List ℕ → Bool
is_short word = not (nat_lt order_limit (length word))

-- whether each word of the order is within the limit
unfoldable pub order_fits : OpDecl → List ℕ → List ℕ → Bool
order_fits decl key value = list_all is_short (order_words decl key value)

-- the length of the first word beyond the limit
abbrev pub first_too_long : List (List ℕ) → Option ℕ
first_too_long [] = None
first_too_long (w ∷ ws) = if nat_lt order_limit (length w) then Some (length w) else first_too_long ws

-- a number as a machine word shows it: the greatest one if it is greater
abbrev pub capped : ℕ → ℕ
capped n = min n (2 ^ 64 - 1)

-- the length in a refusal, if it is one of a word that is too long
abbrev pub length_refused : {A : Type 0} → Result A OrderFault → Option ℕ
length_refused (Ok words) = None
length_refused (Err (WordTooLong n)) = Some n
length_refused (Err NoMemory) = None
