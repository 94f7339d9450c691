-- What a template begins with.
use Rattle.std.specs.Prelude.{◌≡◌, ℕ, List, ◌++◌}
use Rattle.std.specs.Char.{encode_utf8}
use Rattle.op_keys.specs.Filling.{filled}
use Rattle.op_keys.specs.declared.filling.Piece.{Piece}
use Rattle.op_keys.specs.declared.filling.Piece.TheVariants as piece

-- the bytes that a piece puts in
abbrev pub put : List ℕ → List ℕ → Piece → List ℕ
put key value piece.Key = key
put key value piece.Value = value
put key value (piece.Char c) = encode_utf8 c

-- a template begins with a piece: it is filled as the piece and then the rest, for each key and value
abbrev pub BeginsWith : Piece → List ℕ → List ℕ → Type 0
BeginsWith x rest template = (key value : List ℕ) → filled key value template ≡ put key value x ++ filled key value rest
