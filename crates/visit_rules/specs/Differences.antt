-- What changes have to name, and the nodes whose state is another.
use Rattle.std.specs.Prelude.{◌≡◌, ℕ, suc, Bool, true, false, if◌then◌else◌, List, [], ◌∷◌, slice_get}
use Rattle.value_core.specs.Codes.{state_code}
use Rattle.value_core.specs.Same.{same}
use Rattle.value_core.specs.declared.state.State.{State}
use Rattle.value_core.specs.declared.state.Triple.{Triple}
use Rattle.value_core.specs.declared.value.Value.{Value}
use Rattle.term_core.specs.Evaluation.{value_or_unit}
use Rattle.term_core.specs.World.{World, entry_of}
use Rattle.term_core.specs.declared.program.Program.{Program}
use Rattle.visit_rules.specs.KnownChanges.{is_among, is_named}
use Rattle.visit_rules.specs.Traces.{traces}
use Rattle.visit_rules.specs.Visits.{all_wants, states}
use Rattle.visit_rules.specs.declared.changes.Changes.{Changes}
use Rattle.visit_rules.specs.declared.visit.Visit.{Visit}

-- the nodes from a number on whose state is another, with that state
abbrev pub changed_from : ℕ → List State → List State → List (ℕ × State)
changed_from at olds [] = []
changed_from at [] (s ∷ ss) = (at, s) ∷ changed_from (suc at) [] ss
changed_from at (o ∷ os) (s ∷ ss) = if same state_code s o then changed_from (suc at) os ss else (at, s) ∷ changed_from (suc at) os ss

-- the nodes from a number on that have moved, with their states
abbrev pub moved_from : ℕ → List Bool → List State → List (ℕ × State)
moved_from at ms [] = []
moved_from at [] (s ∷ ss) = []
moved_from at (m ∷ ms) (s ∷ ss) = if m then (at, s) ∷ moved_from (suc at) ms ss else moved_from (suc at) ms ss

-- the nodes that have moved, with their states
abbrev pub changed_of : List Bool → List State → List (ℕ × State)
changed_of moved states = moved_from 0 moved states

-- the nodes whose state is another in later trees
abbrev pub changed_states : List Visit → List Visit → List (ℕ × State)
changed_states olds news = changed_from 0 (states olds) (states news)

-- the trees are those of a world, and the changes name each input whose value and each wanted triple whose entry is another now
pub record CoversChanges (program : Program) (trees : List Visit) (changes : Changes) (inputs : List Value) (world : World) : Type 0 where
  pub was_inputs : List Value
  pub was_world : World
  pub traced : trees ≡ traces program was_inputs was_world
  pub other_inputs : (n : ℕ) → is_named changes.inputs n ≡ false → value_or_unit (slice_get inputs n) ≡ value_or_unit (slice_get was_inputs n)
  pub other_triples : (t : Triple) → is_among (all_wants trees) t ≡ true → is_among changes.triples t ≡ false → entry_of world t ≡ entry_of was_world t
