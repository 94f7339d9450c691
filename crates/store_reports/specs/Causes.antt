-- Where a status comes from.
use Rattle.std.specs.Prelude.{◌≡◌, ◌⊎◌, ◌≤◌, ℕ, List, Result, Ok, Err}
use Rattle.std.specs.declared.alloc.AllocError.{AllocError}
use Rattle.std.specs.Io.KnownBytes.{Appends}
use Rattle.io_ends.specs.Causes.{AppendsFront, Rose, SinkSide}
use Rattle.keeper_core.specs.declared.keeper.KeepFault.{KeepFault}
use Rattle.keeper_core.specs.declared.keeper.KeepFault.TheVariants.{Fault, NoMemory}

-- how often calls of the input, the sink, the files and the keepers have failed
pub record Counts : Type 0 where
  pub source : ℕ
  pub sink : ℕ
  pub files : ℕ
  pub keepers : ℕ

-- A fault's status comes only if its count rose, and 0 only if none did.
pub record IsCaused (status : ℕ) (old new : Counts) : Type 0 where
  pub done : status ≡ 0 → new ≡ old
  pub read : status ≡ 4 → Rose old.source new.source ⊎ Rose old.files new.files
  pub write : status ≡ 5 → Rose old.sink new.sink
  pub keep : status ≡ 6 → Rose old.keepers new.keepers
  pub known : status ≤ 9

-- the status of a keeper's fault
abbrev pub fault_status : KeepFault → ℕ
fault_status Fault = 6
fault_status NoMemory = 7

-- a text was written, with this status; or a front of it, with the status of a fault of the sink
abbrev pub Tells : List ℕ → ℕ → ℕ → SinkSide → SinkSide → Type 0
Tells text status result old new =
    ((result ≡ status) × Appends old.written new.written text × (new.faults ≡ old.faults))
    ⊎ ((result ≡ 5) × AppendsFront old.written new.written text × Rose old.faults new.faults)

-- the same of a text that may not be made, if memory runs out
abbrev pub TellsOrNot : List ℕ → ℕ → ℕ → SinkSide → SinkSide → Type 0
TellsOrNot text status result old new = Tells text status result old new ⊎ ((result ≡ 7) × (new ≡ old))

-- the same of what was made, or was not
abbrev pub TellsMade : Result (List ℕ) AllocError → ℕ → ℕ → SinkSide → SinkSide → Type 0
TellsMade (Ok text) status result old new = Tells text status result old new
TellsMade (Err fault) status result old new = (result ≡ 7) × (new ≡ old)
