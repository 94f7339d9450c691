-- Faults of a desk, by those of what it stands on.
use Rattle.std.specs.Prelude.{◌≡◌, Option, Some, None, Result, Ok, Err}
use Rattle.core_rules.specs.declared.done.Delta.{Delta}
use Rattle.core_rules.specs.declared.events.Refusal.{Refusal}
use Rattle.core_rules.specs.declared.events.Refusal.TheVariants as refusal
use Rattle.keeper_core.specs.EitherSchema.{committed}
use Rattle.keeper_core.specs.KeeperCalls.{Commits, Known, LeavesEither}
use Rattle.keeper_core.specs.declared.keeper.KeepFault.{KeepFault}
use Rattle.keeper_core.specs.declared.keeper.KeepFault.TheVariants as keep
use Rattle.keeper_core.specs.declared.reading.TableFault.{TableFault}
use Rattle.keeper_core.specs.declared.reading.TableFault.TheVariants as table
use Rattle.desk_core.specs.declared.faults.ClosedBy.{ClosedBy}
use Rattle.desk_core.specs.declared.faults.ClosedBy.TheVariants as closed_by
use Rattle.desk_core.specs.declared.faults.DeskFault.{DeskFault}
use Rattle.desk_core.specs.declared.faults.DeskFault.TheVariants as fault

-- the fault of a refusal
abbrev pub refusal_fault : Refusal → DeskFault
refusal_fault refusal.NoMemory = fault.NoMemory
refusal_fault r = fault.Refused r

-- the fault of a keeper's fault
abbrev pub keeper_fault : KeepFault → DeskFault
keeper_fault keep.Fault = fault.Keeper
keeper_fault keep.NoMemory = fault.NoMemory

-- the fault of loaded tables that aren't read
abbrev pub table_fault : TableFault → DeskFault
table_fault (table.BadRow t n) = fault.BadRow t n
table_fault table.NoMemory = fault.NoMemory

-- what closes a desk after a keeper's fault, by what closed it before
abbrev pub closed_after : KeepFault → Option ClosedBy → Option ClosedBy
closed_after keep.Fault by = Some closed_by.Keeper
closed_after keep.NoMemory by = by

-- what is to be stored is committed, if something is
abbrev pub IsCommitted : {K : Type 0} → (K → Known) → Option Delta → K → K → {T : Type 0} → Result T KeepFault → Type 0
IsCommitted known None old new (Ok x) = new ≡ old
IsCommitted known None old new (Err f) = ⊥
IsCommitted known (Some d) old new result = Commits (committed d) (known old) (known new) result × LeavesEither (committed d) (known old) (known new)
