-- The printed form of a value, as bytes.
use Rattle.std.specs.Prelude.{false, ℕ, ◌/◌, ◌%◌, ◌==◌, ◌||◌, nat_lt, if◌then◌else◌, List, [], ◌∷◌, ◌++◌, codes}
use Rattle.std.specs.List.{flat_map}
use Rattle.std.specs.Fmt.{decimal, digit_glyph}
use Rattle.value_core.specs.declared.value.Value.{Value, Value-F, fold-Value}
use Rattle.value_core.specs.declared.value.Outcome.{Outcome, Outcome-F, fold-Outcome}

-- `\x` and two hexadecimal digits
abbrev pub hex_escape : ℕ → List ℕ
hex_escape b = 92 ∷ 120 ∷ digit_glyph false (b / 16) ∷ digit_glyph false (b % 16) ∷ []

-- a byte as a string spells it: quote and backslash after a backslash, then `\n`, `\t` and `\r`, other control codes by number, all else as it is
abbrev pub escape : ℕ → List ℕ
escape b =
    if b == 34 then codes "\\\""
    else (if b == 92 then codes "\\\\"
    else (if b == 10 then codes "\\n"
    else (if b == 9 then codes "\\t"
    else (if b == 13 then codes "\\r"
    else (if nat_lt b 32 || b == 127 then hex_escape b
    else (b ∷ []))))))

-- the bytes of a text as a string spells them
abbrev pub escaped : List ℕ → List ℕ
escaped = flat_map escape

-- a text as a string token
abbrev pub quoted : List ℕ → List ℕ
quoted t = codes "\"" ++ (escaped t ++ codes "\"")

-- each after a comma and a space
abbrev pub following : List (List ℕ) → List ℕ
following = flat_map (λ x. codes ", " ++ x)

-- each but the first after a comma and a space
abbrev pub separated : List (List ℕ) → List ℕ
separated [] = []
separated (x ∷ xs) = x ++ following xs

-- a pair's text, by those of its parts
abbrev pub pair_text : List ℕ → List ℕ → List ℕ
pair_text a b = codes "(" ++ (a ++ (codes ", " ++ (b ++ codes ")")))

-- a list's text, by those of its items
abbrev pub list_text : List (List ℕ) → List ℕ
list_text xs = codes "[" ++ (separated xs ++ codes "]")

-- the printed form of a layer of an outcome, whose value's is in its place
abbrev pub outcome_text_step : Outcome-F (List ℕ) (List ℕ) → List ℕ
outcome_text_step (Outcome-F.Fine v) = codes "ok(" ++ (v ++ codes ")")
outcome_text_step (Outcome-F.Bad m) = codes "failed(" ++ (quoted m ++ codes ")")
outcome_text_step Outcome-F.Going = codes "active"

-- the printed form of a layer of a value, whose parts' are in their places
abbrev pub value_text_step : Value-F (List ℕ) (List ℕ) → List ℕ
value_text_step (Value-F.Words t) = quoted t
value_text_step (Value-F.Num n) = decimal n
value_text_step Value-F.Unit = codes "()"
value_text_step (Value-F.Pair a b) = pair_text a b
value_text_step (Value-F.List xs) = list_text xs
value_text_step (Value-F.Out o) = o

-- the printed form
abbrev pub printed : Value → List ℕ
printed = fold-Value (List ℕ) (List ℕ) outcome_text_step value_text_step

-- the printed form of an outcome
abbrev pub printed_outcome : Outcome → List ℕ
printed_outcome = fold-Outcome (List ℕ) (List ℕ) outcome_text_step value_text_step
