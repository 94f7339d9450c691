-- When what is printed of a program is a file.
use Rattle.std.specs.Prelude.{ℕ, ◌≤◌, List, length}
use Rattle.term_core.specs.declared.program.Program.{Program}
use Rattle.pipe_text.specs.Files.{HasSpelling}

-- The grammar can express the program, and the bytes are not too many for a file.
pub record FitsFile (p : Program) (bytes : List ℕ) : Type 0 where
  pub spelling : HasSpelling p
  pub few_bytes : length bytes ≤ 1048576
