-- The bytes between the quotes of a string, one after the other.
use Rattle.std.specs.Prelude.{ℕ, ◌+◌, ◌-◌, ◌*◌, ◌==◌, ◌&&◌, ◌||◌, nat_lt, if◌then◌else◌, Bool, List, [], ◌∷◌, Option, Some, None}
use Rattle.value_core.specs.declared.strings.Mode.{Mode}
use Rattle.value_core.specs.declared.strings.Mode.TheVariants.{Plain, Slash, Hex, Digit}
use Rattle.value_core.specs.declared.strings.Step.{Step}
use Rattle.value_core.specs.declared.strings.Step.TheVariants.{Ends, Adds, Turns, Wrong}

-- a hexadecimal digit in lower case
abbrev pub is_hex : ℕ → Bool
is_hex b = (nat_lt 47 b && nat_lt b 58) || (nat_lt 96 b && nat_lt b 103)

-- the value of a hexadecimal digit
abbrev pub hex_value : ℕ → ℕ
hex_value b = if nat_lt b 58 then b - 48 else b - 87

-- a control code, which is written by its number
abbrev pub is_control : ℕ → Bool
is_control c = (nat_lt 0 c && nat_lt c 32) || c == 127

-- what a byte does after what has begun of an escape: nothing, a backslash, `\x`, or `\x` with one digit
abbrev pub step : Mode → ℕ → Step
step Plain b =
    if b == 34 then Ends
    else (if b == 92 then Turns Slash
    else (if nat_lt b 32 || b == 127 then Wrong
    else Adds b))
step Slash b =
    if b == 34 || b == 92 then Adds b
    else (if b == 110 then Adds 10
    else (if b == 116 then Adds 9
    else (if b == 114 then Adds 13
    else (if b == 120 then Turns Hex
    else Wrong))))
step Hex b = if is_hex b && nat_lt (hex_value b) 8 then Turns (Digit (hex_value b)) else Wrong
step (Digit high) b = if is_hex b && (nat_lt high 8 && is_control (16 * high + hex_value b)) then Adds (16 * high + hex_value b) else Wrong

-- one byte more in front of a text
abbrev pub with_byte : ℕ → Option (List ℕ × ℕ) → Option (List ℕ × ℕ)
with_byte c None = None
with_byte c (Some x) = Some (c ∷ x.0, x.1 + 1)

-- one byte more taken, which adds nothing to the text
abbrev pub later : Option (List ℕ × ℕ) → Option (List ℕ × ℕ)
later None = None
later (Some x) = Some (x.0, x.1 + 1)

-- what is read after a step, if f reads the rest
abbrev pub go_on : Step → (Mode → Option (List ℕ × ℕ)) → Option (List ℕ × ℕ)
go_on Ends f = Some ([], 1)
go_on (Adds c) f = with_byte c (f Plain)
go_on (Turns m) f = later (f m)
go_on Wrong f = None

-- the text up to the closing quote, and how many bytes it takes with that quote
abbrev pub body_at : Mode → List ℕ → Option (List ℕ × ℕ)
body_at m [] = None
body_at m (b ∷ bs) = go_on (step m b) (λ n. body_at n bs)
