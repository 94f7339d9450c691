-- What is read of a keeper before an opening.
use Rattle.std.specs.Prelude.{ℕ, IfSome}
use Rattle.io_ends.specs.Causes.{Rose}
use Rattle.core_rules.specs.Openings.{Durable}
use Rattle.keeper_core.specs.KeeperCalls.{Known, LeavesSame, Stays}
use Rattle.keeper_core.specs.Openings.{IsOpenableWithin}
use Rattle.desk_core.specs.Desk.{IsBadRow, IsLeft, IsReadFrom}
use Rattle.desk_core.specs.declared.faults.DeskFault.{DeskFault}
use Rattle.desk_core.specs.declared.faults.DeskFault.TheVariants as fault

-- what a session opens with was read, and the keeper's tables are as before
pub record IsRead {K : Type 0} (known : K → Known) (faults : K → ℕ) (old new : K) (d : Durable) : Type 0 where
  pub openable : IsOpenableWithin d
  pub read : IfSome (known new).tables (IsReadFrom d)
  pub left : IsLeft known faults old new

-- the keeper failed to load: its tables are as before
pub record IsUnloaded {K : Type 0} (known : K → Known) (faults : K → ℕ) (old new : K) : Type 0 where
  pub tables : Stays (known old) (known new)
  pub stop : LeavesSame (known old) (known new)
  pub count : Rose (faults old) (faults new)

-- why nothing was read
abbrev pub IsUnread : {K : Type 0} → (K → Known) → (K → ℕ) → K → K → DeskFault → Type 0
IsUnread known faults old new (fault.Refused r) = ⊥
IsUnread known faults old new fault.Keeper = IsUnloaded known faults old new
IsUnread known faults old new (fault.BadRow table n) = IfSome (known new).tables (IsBadRow table n) × IsLeft known faults old new
IsUnread known faults old new (fault.Closed by) = ⊥
IsUnread known faults old new fault.NoMemory = IsLeft known faults old new
