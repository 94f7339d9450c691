-- The rule of the history, and what the step that adds a state shows.
use Rattle.std.specs.Prelude.{ℕ, ◌≡◌, ◌==◌, true, List, [], ◌∷◌, ◌++◌, length, MatchBool}
use Rattle.logbook.specs.Pages.{Cell, Step, View, Book, Named}
use Rattle.value_core.specs.declared.state.Published.{Published}

-- the first word is the length of the history
pub record IsKept (cells : List Cell) (log : List Published) : Type 0 where
  pub words : cells ≡ (length log, true) ∷ (0, true) ∷ []

-- the word of a history
abbrev pub head_of : Book → Named
head_of b = record { tracked = true; key = 0; book = b }

-- the state was added to all that had been seen; or the history was longer
abbrev pub Adding : Step Published → View Published ℕ → ℕ → View Published ℕ → Type 0
Adding s v found w = MatchBool (found == s.old) (w.0 ≡ v.0 ++ s.ask ∷ []) (length w.0 ≡ found)
