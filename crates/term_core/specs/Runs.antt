-- What evaluating a term gives, and how it is put together from what its parts give.
use Rattle.std.specs.Prelude.{ℕ, ◌+◌, List, [], ◌∷◌, ◌++◌, map, sum}
use Rattle.std.specs.List.{flat_map}
use Rattle.value_core.specs.declared.value.Value.{Value}
use Rattle.value_core.specs.declared.state.State.{State}
use Rattle.value_core.specs.declared.state.State.TheVariants.{Fine, Failed, Active}
use Rattle.value_core.specs.declared.state.Triple.{Triple}
use Rattle.term_core.specs.States.{both, passed}

-- a state, the triples that were wanted in order, and how many terms were visited
pub record Run : Type 0 where
  pub state : State
  pub wants : List Triple
  pub ticks : ℕ

-- a state alone
abbrev pub stated : State → Run
stated s = record { state = s; wants = []; ticks = 0 }

-- one visit more
abbrev pub visited : Run → Run
visited r = record { state = r.state; wants = r.wants; ticks = 1 + r.ticks }

-- a run with its state turned into another
abbrev pub turned : (State → State) → Run → Run
turned turn r = record { state = turn r.state; wants = r.wants; ticks = r.ticks }

-- a run behind another, whose state is made of both
abbrev pub after : Run → (State → State) → Run → Run
after r made s = record { state = made s.state; wants = r.wants ++ s.wants; ticks = r.ticks + s.ticks }

-- what follows a state where it is fine
abbrev pub follow : State → (Value → Run) → Run
follow (Fine v) next = next v
follow (Failed o m) next = stated (Failed o m)
follow (Active o g) next = stated (Active o g)

-- a run, and then what follows where its state is fine
abbrev pub then_do : Run → (Value → Run) → Run
then_do r next = after r (λ s. s) (follow r.state next)

-- what follows two states where both are fine
abbrev pub follow_both : State → State → (Value → Value → Run) → Run
follow_both (Fine a) (Fine b) next = next a b
follow_both s t next = stated (both (s ∷ t ∷ []) passed)

-- two runs, and then what follows where both states are fine
abbrev pub then_both : Run → Run → (Value → Value → Run) → Run
then_both r s next = after r (λ t. t) (after s (λ t. t) (follow_both r.state s.state next))

-- several runs, and one state of all
abbrev pub together : List Run → (List Value → State) → Run
together rs made = record { state = both (map (λ r. r.state) rs) made; wants = flat_map (λ r. r.wants) rs; ticks = sum (map (λ r. r.ticks) rs) }
