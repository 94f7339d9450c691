-- States that are put together one after the other are those that are put together at once.
use Rattle.std.proofs.Common.{◌≡◌, List, [], ◌∷◌, ◌++◌, append_assoc, append-nil}
use Rattle.value_core.specs.declared.value.Value.{Value}
use Rattle.value_core.specs.declared.state.State.{State}
use Rattle.value_core.specs.declared.state.State.TheVariants.{Fine, Failed, Active}
use Rattle.term_core.specs.declared.gathering.StateFold.{StateFold}
use Rattle.term_core.specs.States.{or_else, first_failed, first_active, values_in, both}
use Rattle.term_core.specs.Gathering.{added, start, finished}

-- more states, one after the other
abbrev pub resumed : StateFold → List State → StateFold
resumed g [] = g
resumed g (s ∷ ss) = resumed (added g s) ss

pub finished-resumed : (g : StateFold) (ss : List State) (made : List Value → State) →
    finished (resumed g ss) made ≡ or_else g.failed (or_else (first_failed ss) (or_else g.active (or_else (first_active ss) (made (g.values ++ values_in ss)))))
finished-resumed g [] made = rw append-nil
finished-resumed g (Fine v ∷ ss) made = rw (finished-resumed (added g (Fine v)) ss made, append_assoc)
finished-resumed g (Failed o m ∷ ss) made = rw (finished-resumed (added g (Failed o m)) ss made)
finished-resumed g (Active o s ∷ ss) made = rw (finished-resumed (added g (Active o s)) ss made)

pub gathered : (ss : List State) (made : List Value → State) → finished (resumed start ss) made ≡ both ss made
gathered ss made = finished-resumed start ss made

pub gathered_from : {all g : StateFold} (ss : List State) (made : List Value → State) → g ≡ start → all ≡ resumed g ss → finished all made ≡ both ss made
gathered_from ss made is_start is_all = rw (is_all, is_start) (gathered ss made)
