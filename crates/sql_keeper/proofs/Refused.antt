-- Why a store is refused.
use Rattle.std.proofs.Common.{◌≡◌, ◌⊎◌, inl, inr, ℕ, ◌≤◌, Bool, true, false, Result, Ok, Err, IfErr, IsTrue, refl, ap}
use Rattle.sqlite.specs.Disk.{MoreFaults}
use Rattle.sqlite_trees.specs.declared.error.StoreError.{StoreError}
use Rattle.sqlite_trees.specs.declared.error.StoreError.TheVariants.{OutOfMemory, Io, Corrupt, Full, Broken, Unstorable}
use Rattle.sqlite.specs.Held.{Held}
use Rattle.sqlite.specs.State.{store_error}
use Rattle.sqlite.specs.Store.{Ghosts}
use Rattle.sqlite.specs.declared.error.Error.{Error}
use Rattle.sqlite.specs.declared.error.Error.TheVariants.{SqliteFailure}
use Rattle.sqlite.specs.declared.error.ErrorCode.TheVariants as code
use Rattle.sqlite_rules.specs.Calls.{Excuses}
use Rattle.sqlite_rules.proofs.ViewLemmas.{excused_since}
use Rattle.keeper_core.specs.declared.keeper.KeepFault.{KeepFault}
use Rattle.keeper_core.specs.declared.keeper.KeepFault.TheVariants as keep
use Rattle.sql_keeper.specs.Refusals.{FailsToAdopt, FaultsIfRefused, fault_of}

-- a connection whose store is broken was shut, or its disk has failed
pub was_shut : (opened left : Bool) (Failed : Type 0) → (IsTrue opened → IsTrue left ⊎ Failed) → (IsTrue left → ⊥) → (opened ≡ false) ⊎ Failed
was_shut false left Failed closes broken = inl refl
was_shut true left Failed closes broken = elim (closes refl) [
  | inl is ↦ absurd (broken is)
  | inr failed ↦ inr failed
]

-- a refusal is a fault, unless memory ran out
pub faults : {S : Type 0} (g : Ghosts S) (before : Held S) (e : Error) (fault : KeepFault) → fault ≡ fault_of e → FailsToAdopt g before e → FaultsIfRefused g before {T = KeepFault} (Err fault)
faults g before e keep.NoMemory is h = tt
faults g before e keep.Fault is h = (
  h.0,
  λ clean. elim (h.1 clean) [
    | inl memory ↦ absurd (let same = ap fault_of memory in cc)
    | inr reason ↦ reason
  ],
)

-- what holds of each error holds of the one that is answered
pub whenever_err : {T E : Type 0} (P : E → Type 0) (r : Result T E) → ((e : E) → P e) → IfErr r P
whenever_err P (Ok x) all = tt
whenever_err P (Err e) all = all e

-- an open fails since memory runs out, or since the disk fails
pub excuse : (first then last : ℕ) (e : Error) (cause : StoreError) → first ≤ then → e ≡ store_error cause → Excuses (MoreFaults then last) ⊥ cause
    → (e ≡ SqliteFailure code.OutOfMemory) ⊎ MoreFaults first last
excuse first then last e OutOfMemory later is why = inl is
excuse first then last e Io later is why = inr (excused_since first then last ⊥ ⊥ Io later (λ x. x) why)
excuse first then last e Corrupt later is why = inr (excused_since first then last ⊥ ⊥ Corrupt later (λ x. x) why)
excuse first then last e Full later is why = inr (excused_since first then last ⊥ ⊥ Full later (λ x. x) why)
excuse first then last e Broken later is why = absurd why
excuse first then last e Unstorable later is why = absurd why
