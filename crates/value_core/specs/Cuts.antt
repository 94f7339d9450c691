-- Texts, cut at newlines or at white space.
use Rattle.std.specs.Prelude.{ℕ, ◌-◌, ◌==◌, Bool, true, false, List, [], ◌∷◌, length, take, drop}
use Rattle.std.specs.List.{filter, prefix_len, suffix_len, slice_split}
use Rattle.value_core.specs.declared.cutting.Separator.{Separator}
use Rattle.value_core.specs.declared.cutting.Separator.TheVariants.{Newline, White}
use Rattle.value_core.specs.Tokens.{is_blank}

-- whether a byte separates two pieces
abbrev pub separates : Separator → ℕ → Bool
separates Newline b = b == 10
separates White b = is_blank b

-- whether a piece has a byte
abbrev pub is_piece : List ℕ → Bool
is_piece [] = false
is_piece (b ∷ bs) = true

-- the pieces between separators, empty ones left out
abbrev pub pieces_of : Separator → List ℕ → List (List ℕ)
pieces_of separator t = filter is_piece (slice_split (separates separator) t)

-- without white space at the front
abbrev pub trimmed_front : List ℕ → List ℕ
trimmed_front t = drop (prefix_len is_blank t) t

-- without white space at the end
abbrev pub trimmed_end : List ℕ → List ℕ
trimmed_end t = take (length t - suffix_len is_blank t) t

-- without white space at both ends
abbrev pub trimmed : List ℕ → List ℕ
trimmed t = trimmed_end (trimmed_front t)
