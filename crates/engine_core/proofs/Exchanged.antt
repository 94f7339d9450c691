-- What is exchanged, and exchanged back.
use Rattle.std.proofs.Common.{◌≡◌, ℕ, zero, suc, ◌<◌, List, [], ◌∷◌, length, refl, ap, arith}
use Rattle.std.specs.Prelude.{slice_get, slice_set}
use Rattle.value_core.specs.declared.value.Value.{Value}
use Rattle.term_core.specs.Evaluation.{value_or_unit}
use Rattle.engine_rules.specs.Edits.{inputs_made}
use Rattle.engine_rules.specs.declared.edits.InputChange.{InputChange}
use Rattle.engine_rules.specs.declared.edits.InputChange.TheVariants as input
use Rattle.engine_core.specs.Plans.{HasInput}
use Rattle.engine_core.specs.inside.Planning.{exchanged}

-- what is set, and set back
pub set_back : (xs : List Value) (i : ℕ) (v : Value) → i < length xs → slice_set (slice_set xs i v) i (value_or_unit (slice_get xs i)) ≡ xs
set_back [] i v l = absurd (omega arith)
set_back (y ∷ ys) zero v l = refl
set_back (y ∷ ys) (suc i) v l = ap (λ zs. y ∷ zs) (set_back ys i v (omega arith))

set_there : (xs : List Value) (i : ℕ) (v : Value) → i < length xs → value_or_unit (slice_get (slice_set xs i v) i) ≡ v
set_there [] i v l = absurd (omega arith)
set_there (y ∷ ys) zero v l = refl
set_there (y ∷ ys) (suc i) v l = set_there ys i v (omega arith)

length_set : (xs : List Value) (i : ℕ) (v : Value) → length (slice_set xs i v) ≡ length xs
length_set [] i v = refl
length_set (y ∷ ys) zero v = refl
length_set (y ∷ ys) (suc i) v = ap suc (length_set ys i v)

pub inputs_back : (c : InputChange) (xs : List Value) → HasInput c (length xs) → inputs_made (exchanged xs c) (inputs_made c xs) ≡ xs
inputs_back input.None xs h = refl
inputs_back (input.Set i v) xs h = set_back xs i v h

pub change_back : (c : InputChange) (xs : List Value) → HasInput c (length xs) → exchanged (inputs_made c xs) (exchanged xs c) ≡ c
change_back input.None xs h = refl
change_back (input.Set i v) xs h = ap (input.Set i) (set_there xs i v h)

pub input_stays : (c : InputChange) (xs : List Value) → HasInput c (length xs) → HasInput (exchanged xs c) (length (inputs_made c xs))
input_stays input.None xs h = tt
input_stays (input.Set i v) xs h = let e = length_set xs i v in omega arith
