-- The form of names.
use Rattle.std.specs.Prelude.{ℕ, ◌==◌, ◌&&◌, ◌||◌, nat_le, nat_lt, Bool, false, List, [], ◌∷◌, length}
use Rattle.std.specs.List.{list_all}

-- `a` to `z`
abbrev pub is_letter : ℕ → Bool
is_letter b = nat_lt 96 b && nat_lt b 123

-- a letter, a digit, `_` or `-`
abbrev pub is_word_byte : ℕ → Bool
is_word_byte b = is_letter b || ((nat_lt 47 b && nat_lt b 58) || (b == 95 || b == 45))

-- whether a name begins with a letter, goes on with letters, digits, `_` and `-`, and has at most 64 bytes
abbrev pub is_name : List ℕ → Bool
is_name [] = false
is_name (b ∷ bs) = is_letter b && (list_all is_word_byte bs && nat_le (length (b ∷ bs)) 64)
