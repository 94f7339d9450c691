-- Changes of stored tables, as they are known of a keeper.
use Rattle.std.proofs.Common.{◌≡◌, ◌⊎◌, ℕ, inl, inr, Some, refl, ap, ◌∙◌, subst, sym}
use Rattle.std.specs.Prelude.{◌≤◌, ◌↔◌, Result, Ok, Err}
use Rattle.core_rules.specs.declared.done.Delta.{Delta}
use Rattle.io_ends.specs.Causes.{Rose}
use Rattle.keeper_core.specs.declared.keeper.KeepFault.{KeepFault}
use Rattle.keeper_core.specs.declared.keeper.KeepFault.TheVariants as keep
use Rattle.keeper_core.specs.declared.keeper.Migrated.{Migrated}
use Rattle.keeper_core.specs.declared.keeper.Migrated.TheVariants.{Rows, Already}
use Rattle.keeper_core.specs.declared.stored.Stored.{Stored}
use Rattle.keeper_core.specs.declared.stored.Stored.TheVariants.{Current, Old}
use Rattle.keeper_core.specs.Commits.{with_delta}
use Rattle.keeper_core.specs.Contents.{Contents}
use Rattle.keeper_core.specs.EitherSchema.{committed, migrated}
use Rattle.keeper_core.specs.KeeperCalls.{BecomesBy, HasCause, HasMoved, LeavesEither, MovesStored, Stays, sure}

-- tables after a change
pub becomes : (change : Stored → Stored) (old new : Stored) → new ≡ change old → BecomesBy change (sure old) (sure new)
becomes change old new is = (old, refl, is)

pub leaves : (change : Stored → Stored) (old new : Stored) → new ≡ change old → LeavesEither change (sure old) (sure new)
leaves change old new is x h = inr (old, refl, h ∙ is)

-- a stop leaves just them
pub just : (s x : Stored) → (x ≡ s) ↔ (x ≡ s)
just s x = (λ h. h, λ h. h)

-- tables that stay
pub stays : (change : Stored → Stored) (old new : Stored) → new ≡ old → LeavesEither change (sure old) (sure new)
stays change old new is x h = inl (h ∙ is)

pub known_stays : (old new : Stored) → new ≡ old → Stays (sure old) (sure new)
known_stays old new is = ap Some (sym is)

pub committed_current : (d : Delta) (old new : Contents) → new ≡ with_delta d old → Current new ≡ committed d (Current old)
committed_current d old new is = ap Current is

-- tables that were moved
moved_from : (old new : Stored) (o : Stored) → Some old ≡ Some o → new ≡ migrated o → new ≡ migrated old
moved_from old new o was is = let same : old ≡ o = (cc) in is ∙ ap migrated (sym same)

pub moved_is : (old new : Stored) (n : ℕ) → HasMoved n (Some old) new → new ≡ migrated old
moved_is old new n h = moved_from old new (Old h.old) h.was h.moved

-- a migration that was made, though a fault is answered
pub moves_fault : (old new : Stored) (r : Migrated) → MovesStored old new (Ok r) → Stays (sure old) (sure new) ⊎ BecomesBy migrated (sure old) (sure new)
moves_fault old new (Rows n) h = inr (becomes migrated old new (moved_is old new n h))
moves_fault old new Already h = inl (known_stays old new h.0)

pub moves_stop : (old new : Stored) (r : Migrated) → MovesStored old new (Ok r) → LeavesEither migrated (sure old) (sure new)
moves_stop old new (Rows n) h = leaves migrated old new (moved_is old new n h)
moves_stop old new Already h = stays migrated old new h.0

-- a fault isn't that memory ran out
not_spared : {T A : Type 0} → ◌≡◌ {A = Result T KeepFault} (Err keep.Fault) (Err keep.NoMemory) → A
not_spared h = absurd (cc)

-- a fault that was counted
pub caused : {T : Type 0} (before mid now : ℕ) → mid ≡ before → mid ≤ now → Rose mid now → HasCause {T = T} before now (Err keep.Fault)
caused before mid now same later rose = record {
  later = subst (λ (n : ℕ). n ≤ now) same later;
  failed = λ _. subst (λ (n : ℕ). Rose n now) same rose;
  kept = tt;
  free = λ h. not_spared h;
}

pub counted_fault : (before mid now : ℕ) → mid ≡ before → mid ≤ now → Rose mid now → (before ≤ now) × Rose before now
counted_fault before mid now same later rose = (subst (λ (n : ℕ). n ≤ now) same later, subst (λ (n : ℕ). Rose n now) same rose)
