-- Bytes, cut at a separator.
use Rattle.std.specs.Prelude.{◌≡◌, ℕ, ◌==◌, List, [], ◌∷◌}
use Rattle.std.specs.List.{slice_split}

-- the pieces between separators
abbrev pub pieces : ℕ → List ℕ → List (List ℕ)
pieces separator = slice_split (λ b. b == separator)

-- the pieces after a separator, or none if nothing follows
abbrev pub pieces_after : ℕ → List ℕ → List (List ℕ)
pieces_after separator [] = []
pieces_after separator (b ∷ bs) = pieces separator bs

-- pieces are cut into the first and what follows it: a separator and the other pieces, or nothing
abbrev pub IsCut : ℕ → List (List ℕ) → List ℕ → List ℕ → Type 0
IsCut separator all piece rest = all ≡ piece ∷ pieces_after separator rest
