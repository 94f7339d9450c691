-- What the lines of a version show.
use Rattle.std.specs.Prelude.{◌≡◌, ℕ, ◌<◌, ◌==◌, if◌then◌else◌, List, [], ◌∷◌, length, Option, Some, slice_get}
use Rattle.value_core.specs.declared.state.State.{State}
use Rattle.core_rules.specs.Replies.{changed_from}

-- the state that was last shown for a node: the one known, or that of its last line
abbrev pub last_shown : Option State → ℕ → List (ℕ × State) → Option State
last_shown known node [] = known
last_shown known node (c ∷ cs) = last_shown (if c.0 == node then Some c.1 else known) node cs

-- after the lines of a version each node's last shown state is its state: a node without a line
-- keeps the one shown before
abbrev pub ShowsAll : Type 0
ShowsAll = (before states : List State) (node : ℕ) → node < length states →
    last_shown (slice_get before node) node (changed_from 0 before states) ≡ slice_get states node
