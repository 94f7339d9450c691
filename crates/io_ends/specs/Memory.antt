-- What ends in memory hold.
use Rattle.std.specs.Prelude.{ℕ, Bool, List, [], ◌∷◌, ◌++◌, length, map, string_bytes, nat_le, if◌then◌else◌, option_and_then}
use Rattle.std.specs.Str.{bytes_eq}
use Rattle.std.specs.declared.option.Option.{Option}
use Rattle.std.specs.declared.option.Option.TheVariants.{None, Some}
use Rattle.io_ends.specs.declared.memory.held.HeldFile.{HeldFile}

-- the contents that the reads of a file will find, in order
abbrev pub contents_of : HeldFile → List (List ℕ)
contents_of file = map (λ content. content.items) file.contents.items

-- whether a file has this path
abbrev pub has_path : List ℕ → HeldFile → Bool
has_path path file = bytes_eq path (string_bytes file.path)

-- the contents of the first file that has the path, and none if no file has it
abbrev pub contents_at : List HeldFile → List ℕ → List (List ℕ)
contents_at [] path = []
contents_at (file ∷ files) path =
    if has_path path file then contents_of file else contents_at files path

-- what a sink that never fails has kept of what was written, and how many bytes it has room for
pub record Kept : Type 0 where
  pub bytes : Option (List ℕ)
  pub room : ℕ

-- bytes that fit into the room, and none if they don't
abbrev pub fitting : ℕ → List ℕ → Option (List ℕ)
fitting room bytes = if nat_le (length bytes) room then Some bytes else None

-- what it keeps once the piece is written: all that was written while its room lasts, and from then
-- on nothing
abbrev pub kept_with : Kept → List ℕ → Option (List ℕ)
kept_with kept piece = option_and_then (λ bytes. fitting kept.room (bytes ++ piece)) kept.bytes
