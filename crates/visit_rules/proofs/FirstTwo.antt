-- The first and the second of several states, by their places.
use Rattle.std.proofs.Common.{◌≡◌, List, [], ◌∷◌, slice_get, refl}
use Rattle.value_core.specs.declared.state.State.{State}
use Rattle.term_core.specs.Evaluation.{state_or_unit}
use Rattle.visit_rules.specs.Tables.{first_state, second_state}

pub first_is : (ss : List State) → state_or_unit (slice_get ss 0) ≡ first_state ss
first_is [] = refl
first_is (s ∷ ss) = refl

pub second_is : (ss : List State) → state_or_unit (slice_get ss 1) ≡ second_state ss
second_is [] = refl
second_is (s ∷ []) = refl
second_is (s ∷ t ∷ ss) = refl
