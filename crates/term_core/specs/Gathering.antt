-- What is kept of the states of several terms until all are there.
use Rattle.std.specs.Prelude.{ℕ, List, [], ◌∷◌, ◌++◌, Some, None}
use Rattle.value_core.specs.declared.value.Value.{Value}
use Rattle.value_core.specs.declared.state.State.{State}
use Rattle.value_core.specs.declared.state.State.TheVariants.{Fine, Failed, Active}
use Rattle.term_core.specs.declared.gathering.Collected.{Collected}
use Rattle.term_core.specs.declared.gathering.Collected.TheVariants as collected
use Rattle.term_core.specs.declared.gathering.StateFold.{StateFold}
use Rattle.term_core.specs.States.{or_else, listed, passed}

-- nothing yet
abbrev pub start : StateFold
start = record { failed = None; active = None; values = [] }

-- one state more
abbrev pub added : StateFold → State → StateFold
added g (Fine v) = record g { values = g.values ++ v ∷ [] }
added g (Failed o m) = record g { failed = Some (or_else g.failed (Failed o m)) }
added g (Active o s) = record g { active = Some (or_else g.active (Active o s)) }

-- the state of all
abbrev pub finished : StateFold → (List Value → State) → State
finished g made = or_else g.failed (or_else g.active (made g.values))

-- what is made of the values
abbrev pub made_by : Collected → ℕ → List Value → State
made_by collected.List node = listed node
made_by collected.Unit node = passed
