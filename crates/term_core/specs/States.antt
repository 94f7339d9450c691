-- States of terms, put together and turned into others.
use Rattle.std.specs.Prelude.{ℕ, nat_lt, if◌then◌else◌, List, [], ◌∷◌, codes, Option, Some, None}
use Rattle.value_core.specs.Values.{weight_of}
use Rattle.value_core.specs.declared.value.Value.{Value}
use Rattle.value_core.specs.declared.value.Value.TheVariants as value
use Rattle.value_core.specs.declared.value.Outcome.TheVariants as outcome
use Rattle.value_core.specs.declared.state.State.{State}
use Rattle.value_core.specs.declared.state.State.TheVariants.{Fine, Failed, Active}
use Rattle.value_core.specs.declared.function.Applied.{Applied}
use Rattle.value_core.specs.declared.function.Applied.TheVariants as applied
use Rattle.value_core.specs.declared.function.Fun.{Fun}
use Rattle.value_core.specs.Functions.{fn_value}

-- the greatest weight of a value in a state
abbrev pub weight_limit : ℕ
weight_limit = 1048576

-- the state of a value that may weigh too much
abbrev pub limited : ℕ → Value → State
limited node v = if nat_lt weight_limit (weight_of v) then Failed node (codes "value too large") else Fine v

-- the first failed state from the left
abbrev pub first_failed : List State → Option State
first_failed [] = None
first_failed (Failed o m ∷ ss) = Some (Failed o m)
first_failed (Active o g ∷ ss) = first_failed ss
first_failed (Fine v ∷ ss) = first_failed ss

-- the first active state from the left
abbrev pub first_active : List State → Option State
first_active [] = None
first_active (Failed o m ∷ ss) = first_active ss
first_active (Active o g ∷ ss) = Some (Active o g)
first_active (Fine v ∷ ss) = first_active ss

-- the values of the fine states
abbrev pub values_in : List State → List Value
values_in [] = []
values_in (Failed o m ∷ ss) = values_in ss
values_in (Active o g ∷ ss) = values_in ss
values_in (Fine v ∷ ss) = v ∷ values_in ss

-- the first of two states that is there
abbrev pub or_else : Option State → State → State
or_else (Some s) other = s
or_else None other = other

-- the first failed state; else the first active one; else what is made of the values
abbrev pub both : List State → (List Value → State) → State
both ss made = or_else (first_failed ss) (or_else (first_active ss) (made (values_in ss)))

-- the list of the values, within the limit of weight
abbrev pub listed : ℕ → List Value → State
listed node vs = limited node (value.List vs)

-- unit, whatever the values are
abbrev pub passed : List Value → State
passed vs = Fine value.Unit

-- the pair of two values, within the limit of weight
abbrev pub paired : ℕ → List Value → State
paired node (a ∷ b ∷ vs) = limited node (value.Pair a b)
paired node vs = Fine value.Unit

-- the value of a function, or a failure with its message
abbrev pub applied_state : ℕ → Applied → State
applied_state node (applied.Fine v) = Fine v
applied_state node (applied.Bad m) = Failed node m

-- a function of the value of a fine state
abbrev pub mapped : ℕ → Fun → State → State
mapped node f (Fine v) = applied_state node (fn_value f v)
mapped node f (Failed o m) = Failed o m
mapped node f (Active o g) = Active o g

-- a value or a message as an outcome
abbrev pub caught : State → State
caught (Fine v) = Fine (value.Out (outcome.Fine v))
caught (Failed o m) = Fine (value.Out (outcome.Bad m))
caught (Active o g) = Active o g

-- the same, where an active state is an outcome too
abbrev pub observed : State → State
observed (Fine v) = Fine (value.Out (outcome.Fine v))
observed (Failed o m) = Fine (value.Out (outcome.Bad m))
observed (Active o g) = Fine (value.Out outcome.Going)

-- the second state, where the first is fine
abbrev pub gated : State → State → State
gated (Fine v) s = s
gated (Failed o m) s = Failed o m
gated (Active o g) s = Active o g
