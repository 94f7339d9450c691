-- The text of a report.
use Rattle.std.specs.Prelude.{ℕ, ◌<◌, Bool, true, false, List, [], ◌∷◌, ◌++◌, length, map, codes, slice_get, Option, Some, None}
use Rattle.std.specs.List.{All, flat_map}
use Rattle.std.specs.Option.{option_map_or}
use Rattle.op_keys.specs.declared.level.Level.{Level}
use Rattle.pipe_text.specs.Words.{level_letters}
use Rattle.term_core.specs.declared.program.Program.{Program}
use Rattle.term_check.specs.declared.report.Report.{Report}

-- numbers of declarations, counted from 0
abbrev pub AreNumbersOf : {D : Type 0} → List D → List ℕ → Type 0
AreNumbersOf ds ns = All (λ n. n < length ds) ns

-- the name of a declaration, by its number
abbrev pub name_at : {D : Type 0} → (D → List ℕ) → List D → ℕ → List ℕ
name_at name ds n = option_map_or name (slice_get ds n) []

-- the names of the declarations with these numbers, in the order of the numbers
abbrev pub names_at : {D : Type 0} → (D → List ℕ) → List D → List ℕ → List (List ℕ)
names_at name ds ns = map (name_at name ds) ns

-- words, each after a space
abbrev pub spaced : List (List ℕ) → List ℕ
spaced = flat_map (λ w. codes " " ++ w)

-- these words, or the word none where there are none
abbrev pub or_none : List (List ℕ) → List (List ℕ)
or_none [] = codes "none" ∷ []
or_none (w ∷ ws) = w ∷ ws

-- a line: what it tells of, a colon, and the words that it tells
unfoldable pub line : List ℕ → List (List ℕ) → List ℕ
line label words = label ++ (codes ":" ++ (spaced (or_none words) ++ codes "\n"))

-- the word of a level, if there is one
abbrev pub level_words : Option Level → List (List ℕ)
level_words None = []
level_words (Some l) = level_letters l ∷ []

-- whether something is so
abbrev pub yes_or_no : Bool → List ℕ
yes_or_no true = codes "yes"
yes_or_no false = codes "no"

-- the lines of a report on a program: the inputs and the operations that it lists, the greatest level, and whether it is dynamic
unfoldable pub report_text : Program → Report → List ℕ
report_text p r =
    line (codes "inputs") (names_at (λ d. d.name) p.inputs r.inputs)
    ++ (line (codes "operations") (names_at (λ d. d.name) p.ops r.ops)
    ++ (line (codes "greatest level") (level_words r.level)
    ++ line (codes "dynamic") (yes_or_no r.dynamic ∷ [])))
