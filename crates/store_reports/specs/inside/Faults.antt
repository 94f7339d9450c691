-- Faults of a report, by those of what is read.
use Rattle.keeper_core.specs.declared.keeper.KeepFault.{KeepFault}
use Rattle.keeper_core.specs.declared.keeper.KeepFault.TheVariants as keep
use Rattle.keeper_core.specs.declared.reading.TableFault.{TableFault}
use Rattle.keeper_core.specs.declared.reading.TableFault.TheVariants as table
use Rattle.store_reports.specs.declared.reading.ReportFault.{ReportFault}
use Rattle.store_reports.specs.declared.reading.ReportFault.TheVariants as fault

-- the fault of a keeper's fault
abbrev pub fault_of_keeper : KeepFault → ReportFault
fault_of_keeper keep.Fault = fault.Keeper
fault_of_keeper keep.NoMemory = fault.NoMemory

-- the fault of loaded tables that aren't read
abbrev pub fault_of_tables : TableFault → ReportFault
fault_of_tables (table.BadRow t n) = fault.BadRow t n
fault_of_tables table.NoMemory = fault.NoMemory
