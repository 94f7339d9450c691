-- What a text's bytes keep.
use Rattle.std.specs.Prelude.{◌≡◌, ℕ, Bool, true, not, ◌&&◌, ◌==◌, List, [], ◌∷◌}
use Rattle.std.specs.Str.{is_utf8}

-- no byte is zero
abbrev pub no_nul : List ℕ → Bool
no_nul [] = true
no_nul (b ∷ bs) = not (b == 0) && no_nul bs

-- no byte is zero, as a fact
abbrev pub HasNoNul : List ℕ → Type 0
HasNoNul bs = no_nul bs ≡ true

-- a text without zeros gets none
abbrev pub KeepsNoNul : List ℕ → List ℕ → Type 0
KeepsNoNul before after = HasNoNul before → HasNoNul after

-- UTF-8 without NUL
abbrev pub is_text : List ℕ → Bool
is_text bs = is_utf8 bs && no_nul bs
