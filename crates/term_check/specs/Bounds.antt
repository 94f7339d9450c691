-- Values, inputs, states and worlds within the bounds of a pipeline.
use Rattle.std.specs.Prelude.{◌≡◌, ◌^◌, ◌≤◌, nat_le, nat_lt, Bool, true, ◌&&◌, List, [], ◌∷◌, length}
use Rattle.std.specs.List.{AllByRecursion, list_all}
use Rattle.value_core.specs.Values.{fits_kind, weight_of}
use Rattle.value_core.specs.declared.state.State.{State}
use Rattle.value_core.specs.declared.state.State.TheVariants.{Fine, Failed, Active}
use Rattle.value_core.specs.declared.value.Kind.{Kind}
use Rattle.value_core.specs.declared.value.Outcome.{Outcome-F}
use Rattle.value_core.specs.declared.value.Value.{Value, Value-F, fold-Value}
use Rattle.term_core.specs.Limits.{is_text}
use Rattle.value_core.specs.Kinds.{literal_kind}
use Rattle.term_core.specs.States.{weight_limit}
use Rattle.term_core.specs.World.{World}
use Rattle.term_core.specs.declared.entries.Entry.{Entry}
use Rattle.term_core.specs.declared.entries.Entry.TheVariants as entry
use Rattle.term_core.specs.declared.program.InputDecl.{InputDecl}

-- whether the message of a layer of an outcome is within the limit of texts, and so is its value
abbrev pub outcome_bounded_step : Outcome-F Bool Bool → Bool
outcome_bounded_step (Outcome-F.Fine v) = v
outcome_bounded_step (Outcome-F.Bad m) = is_text m
outcome_bounded_step Outcome-F.Going = true

-- whether a layer of a value is, where each part is whether it is
abbrev pub bounded_step : Value-F Bool Bool → Bool
bounded_step (Value-F.Words t) = is_text t
bounded_step (Value-F.Num n) = nat_lt n (2 ^ 64)
bounded_step Value-F.Unit = true
bounded_step (Value-F.Pair a b) = a && b
bounded_step (Value-F.List xs) = nat_le (length xs) 256 && list_all (λ x. x) xs
bounded_step (Value-F.Out o) = o

-- whether each text and message in a value has at most 65,536 bytes, each list in it at most 256 items, and each number 64 bits
abbrev pub is_bounded : Value → Bool
is_bounded = fold-Value Bool Bool outcome_bounded_step bounded_step

-- a value of a kind, within the bounds and the limit of weight
pub record IsProper (k : Kind) (v : Value) : Type 0 where
  pub of_kind : fits_kind k v ≡ true
  pub bounded : is_bounded v ≡ true
  pub light : weight_of v ≤ weight_limit

-- a state whose value is such, or whose message is within the limit of texts
abbrev pub IsProperState : Kind → State → Type 0
IsProperState k (Fine v) = IsProper k v
IsProperState k (Failed o m) = length m ≤ 65536
IsProperState k (Active o g) = Unit {0}

-- a state for each kind, in order
abbrev pub AreProperStates : List Kind → List State → Type 0
AreProperStates [] [] = Unit {0}
AreProperStates [] (s ∷ ss) = ⊥
AreProperStates (k ∷ ks) [] = ⊥
AreProperStates (k ∷ ks) (s ∷ ss) = IsProperState k s × AreProperStates ks ss

-- a value for each input, of its declared kind
abbrev pub AreProperInputs : List InputDecl → List Value → Type 0
AreProperInputs [] [] = Unit {0}
AreProperInputs [] (v ∷ vs) = ⊥
AreProperInputs (d ∷ ds) [] = ⊥
AreProperInputs (d ∷ ds) (v ∷ vs) = IsProper (literal_kind d.value) v × AreProperInputs ds vs

-- an entry whose text is within the limit of texts
abbrev pub IsShortEntry : Entry → Type 0
IsShortEntry (entry.Fine t) = length t ≤ 65536
IsShortEntry (entry.Bad m) = length m ≤ 65536
IsShortEntry (entry.Active s) = Unit {0}

-- a world of such entries
abbrev pub HasShortEntries : World → Type 0
HasShortEntries w = AllByRecursion (λ e. IsShortEntry e.1) w.entries
