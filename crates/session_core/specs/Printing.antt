-- What a call that prints a text has written.
use Rattle.std.specs.Prelude.{◌≡◌, ◌≢◌, ℕ, List, Result, Ok, Err}
use Rattle.std.specs.declared.option.Option.{Option}
use Rattle.std.specs.Io.KnownBytes.{Appends}
use Rattle.io_ends.specs.Causes.{AppendsFront, Rose}
use Rattle.session_core.specs.declared.stop.Stop.{Stop}
use Rattle.session_core.specs.declared.stop.Stop.TheVariants as stop

-- a text was written, or a front of it
abbrev pub Writes :
    List ℕ → Option (List ℕ) → Option (List ℕ) → {T : Type 0} → Result T Stop → Type 0
Writes text old new (Ok x) = Appends old new text
Writes text old new (Err z) = AppendsFront old new text × (z ≢ stop.LimitReached)

-- nothing was written, since the numbers are used up
abbrev pub IsUnprinted : {O : Type 0} → O → O → {T : Type 0} → Result T Stop → Type 0
IsUnprinted old new result = (new ≡ old) × (result ≡ Err stop.LimitReached)

-- a stop of a call that only prints, by the sink's counts of faults
abbrev pub IsPrintStop : Stop → ℕ → ℕ → Type 0
IsPrintStop stop.ReadFault old new = ⊥
IsPrintStop stop.WriteFault old new = Rose old new
IsPrintStop stop.KeeperFault old new = ⊥
IsPrintStop stop.NoMemory old new = Unit {0}
IsPrintStop stop.LimitReached old new = new ≡ old

-- the sink's count stays, or the stop has its cause
abbrev pub PrintCause : ℕ → ℕ → {T : Type 0} → Result T Stop → Type 0
PrintCause old new (Ok x) = new ≡ old
PrintCause old new (Err z) = IsPrintStop z old new
