-- When a fault may be answered, what a call takes of what can still be read, and what it keeps.
use Rattle.std.specs.Prelude.{◌≡◌, ℕ, ◌+◌, ◌-◌, ◌^◌, ◌≤◌, min, List, take, length, OnOk, OnErr, IsErrOf, MatchResult}
use Rattle.std.specs.declared.option.Option.{Option}
use Rattle.std.specs.declared.option.Option.TheVariants.{None}
use Rattle.std.specs.declared.result.Result.{Result}
use Rattle.std.specs.Io.KnownBytes.{Appends, Keeps, prepend_known}

-- a count after one more, which stays at its type's end
abbrev pub raised : ℕ → ℕ
raised count = min (count + 1) (2 ^ 64 - 1)

-- a count rose, or is at its type's end
abbrev pub Rose : ℕ → ℕ → Type 0
Rose before now = raised before ≤ now

-- the count never falls, a fault comes only where it rose, and Ok leaves it
pub record HasCause {T E : Type 0} (before now : ℕ) (result : Result T E) : Type 0 where
  pub later : before ≤ now
  pub failed : OnErr result (Rose before now)
  pub kept : OnOk result (now ≡ before)

-- the same of a call that may also be out of memory, which is no fault of the end
pub record HasCauseOf {T E : Type 0} (fault full : E) (before now : ℕ) (result : Result T E) : Type 0 where
  pub later : before ≤ now
  pub failed : IsErrOf result fault → Rose before now
  pub kept : OnOk result (now ≡ before)
  pub free : IsErrOf result full → now ≡ before

-- each byte that is read falls off the number of bytes that can still be read
abbrev pub Spends : {E : Type 0} → ℕ → ℕ → Result ℕ E → Type 0
Spends before now result = MatchResult result (λ n. now + n ≤ before) (λ _. now ≤ before)

-- a call that answered Ok took bytes in hand of those that were left
abbrev pub Refills :
    {T E : Type 0} → Option (List ℕ) → Result T E → List ℕ → Option (List ℕ) → Type 0
Refills left result hand' left' = OnOk result (Keeps left (prepend_known hand' left'))

-- known bytes grow by a front of the piece
abbrev pub AppendsFront : Option (List ℕ) → Option (List ℕ) → List ℕ → Type 0
AppendsFront old new piece = (n : ℕ) × (n ≤ length piece) × Appends old new (take n piece)

-- what an object that is a source too has as a source: what is left, how many bytes can still be
-- read, and how often a read failed
pub record SourceSide : Type 0 where
  pub left : Option (List ℕ)
  pub budget : ℕ
  pub faults : ℕ

-- what an object that is a sink too has as a sink: what was written, and how often a write failed
pub record SinkSide : Type 0 where
  pub written : Option (List ℕ)
  pub faults : ℕ

-- an object that is no source
abbrev pub no_source : SourceSide
no_source = record { left = None; budget = 0; faults = 0 }

-- an object that is no sink
abbrev pub no_sink : SinkSide
no_sink = record { written = None; faults = 0 }
