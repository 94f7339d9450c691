-- What a string is, apart from how it is read.
use Rattle.std.specs.Prelude.{◌≡◌, ℕ, ◌+◌, ◌*◌, ◌==◌, ◌||◌, ◌&&◌, not, nat_lt, if◌then◌else◌, Bool, true, List, [], ◌∷◌, ◌++◌, length, map, Some}
use Rattle.std.specs.List.{flat_map, list_all}
use Rattle.value_core.specs.declared.strings.Mode.TheVariants.{Plain}
use Rattle.value_core.specs.Strings.{is_hex, hex_value, is_control, body_at}

-- A byte as it is, a backslash with a byte, or `\x` with two digits.
pub data Piece : Type 0 where
  plain : ℕ → Piece
  short : ℕ → Piece
  hex : ℕ → ℕ → Piece

-- the bytes of a piece
abbrev pub spelled : Piece → List ℕ
spelled (plain b) = b ∷ []
spelled (short b) = 92 ∷ b ∷ []
spelled (hex h l) = 92 ∷ 120 ∷ h ∷ l ∷ []

-- the byte that a backslash and this byte spell
abbrev pub short_value : ℕ → ℕ
short_value b = if b == 110 then 10 else (if b == 116 then 9 else (if b == 114 then 13 else b))

-- the byte that a piece spells
abbrev pub meant : Piece → ℕ
meant (plain b) = b
meant (short b) = short_value b
meant (hex h l) = 16 * hex_value h + hex_value l

-- whether a string may have the piece
abbrev pub is_right : Piece → Bool
is_right (plain b) = not (nat_lt b 32 || b == 127) && (not (b == 34) && not (b == 92))
is_right (short b) = b == 34 || (b == 92 || (b == 110 || (b == 116 || b == 114)))
is_right (hex h l) = is_hex h && (is_hex l && (nat_lt (hex_value h) 8 && is_control (16 * hex_value h + hex_value l)))

-- The bytes after an opening quote begin with pieces and the closing quote, and the pieces spell the text.
abbrev pub BeginsString : List ℕ → List ℕ → Type 0
BeginsString bytes text = (ps : List Piece) × (rest : List ℕ) × (list_all is_right ps ≡ true) × (bytes ≡ flat_map spelled ps ++ 34 ∷ rest) × (text ≡ map meant ps)

-- what is read as a string begins with pieces that spell its text
abbrev pub ReadsNoOther : Type 0
ReadsNoOther = (bytes text : List ℕ) (n : ℕ) → body_at Plain bytes ≡ Some (text, n) → BeginsString bytes text

-- pieces and a closing quote are read as the text that they spell, and take all of their bytes, whatever follows
abbrev pub ReadsAllPieces : Type 0
ReadsAllPieces =
    (ps : List Piece) (rest : List ℕ) → list_all is_right ps ≡ true →
    body_at Plain (flat_map spelled ps ++ 34 ∷ rest) ≡ Some (map meant ps, length (flat_map spelled ps) + 1)
