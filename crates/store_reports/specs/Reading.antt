-- What is read of a keeper for a report, and what that leaves of the keeper.
use Rattle.std.specs.Prelude.{◌≡◌, ◌≤◌, ℕ, Some, None, IfSome}
use Rattle.io_ends.specs.Causes.{Rose}
use Rattle.keeper_core.specs.EitherSchema.{loaded_of}
use Rattle.keeper_core.specs.KeeperCalls.{IsSure, Known, LeavesNoMore, LeavesSame, Stays}
use Rattle.keeper_core.specs.WellFormed.{first_bad}
use Rattle.keeper_core.specs.declared.tables.Table.{Table}
use Rattle.keeper_core.specs.declared.tables.Tables.{Tables}
use Rattle.store_reports.specs.declared.reading.ReportFault.{ReportFault}
use Rattle.store_reports.specs.declared.reading.ReportFault.TheVariants as fault

-- a call left the tables and the count as before
pub record IsLeft {K : Type 0} (known : K → Known) (faults : K → ℕ) (old new : K) : Type 0 where
  pub tables : Stays (known old) (known new)
  pub stop : LeavesNoMore (known old) (known new)
  pub count : faults new ≡ faults old

-- these rows are what the tables show, unless those are unknown
abbrev pub AreLoaded : Known → Tables → Type 0
AreLoaded known rows = IfSome known.tables (λ s. loaded_of s ≡ Some rows)

-- the tables were loaded, and each of their rows is well formed
pub record IsReportRead {K : Type 0} (known : K → Known) (faults : K → ℕ) (old new : K) (rows : Tables) : Type 0 where
  pub loaded : AreLoaded (known new) rows
  pub well_formed : first_bad rows ≡ None
  pub left : IsLeft known faults old new
  pub sure : IsSure (known new)

-- the tables were loaded, and this is their first row that isn't well formed
pub record IsBadRow {K : Type 0} (known : K → Known) (faults : K → ℕ) (old new : K) (table : Table) (n : ℕ) : Type 0 where
  pub rows : Tables
  pub loaded : AreLoaded (known new) rows
  pub first : first_bad rows ≡ Some (table, n)
  pub left : IsLeft known faults old new
  pub sure : IsSure (known new)

-- the keeper failed to load: its tables are as before
pub record IsUnloaded {K : Type 0} (known : K → Known) (faults : K → ℕ) (old new : K) : Type 0 where
  pub tables : Stays (known old) (known new)
  pub stop : LeavesSame (known old) (known new)
  pub later : faults old ≤ faults new
  pub count : Rose (faults old) (faults new)

-- why nothing was read
abbrev pub IsReportUnread : {K : Type 0} → (K → Known) → (K → ℕ) → K → K → ReportFault → Type 0
IsReportUnread known faults old new (fault.BadRow table n) = IsBadRow known faults old new table n
IsReportUnread known faults old new fault.Keeper = IsUnloaded known faults old new
IsReportUnread known faults old new fault.NoMemory = IsLeft known faults old new
