-- What contracts know of a desk, and what a call makes of it.
use Rattle.std.specs.Prelude.{◌≡◌, ◌⊎◌, ◌<◌, ℕ, Option, Some, None, IfSome, refl}
use Rattle.std.specs.Coded.{Coded, code_by, coded×, coded_option}
use Rattle.io_ends.specs.Causes.{Rose}
use Rattle.op_keys.specs.declared.level.Level.{Level}
use Rattle.term_core.specs.declared.program.Program.{Program}
use Rattle.core_rules.specs.Core.{CoreState}
use Rattle.core_rules.specs.Openings.{Durable, opening_reply, start}
use Rattle.core_rules.specs.Steps.{Refused as RefusedStep, step}
use Rattle.core_rules.specs.declared.done.Delta.{Delta}
use Rattle.core_rules.specs.declared.done.Done.{Done}
use Rattle.core_rules.specs.declared.events.Event.{Event}
use Rattle.core_rules.specs.declared.events.Refusal.{Refusal}
use Rattle.core_rules.specs.declared.events.Refusal.TheVariants as refusal
use Rattle.keeper_core.specs.Chains.{HoldsState, durable_in}
use Rattle.keeper_core.specs.Commits.{with_delta}
use Rattle.keeper_core.specs.Contents.{Bytes, Contents, loaded}
use Rattle.keeper_core.specs.EitherSchema.{committed, loaded_of, log_of}
use Rattle.keeper_core.specs.KeeperCalls.{BecomesBy, IsSure, Known, LeavesEither, LeavesNoMore, LeavesSame, Stays}
use Rattle.keeper_core.specs.Laws.{IsWellFormed}
use Rattle.keeper_core.specs.Openings.{IsOpenableWithin}
use Rattle.keeper_core.specs.WellFormed.{first_bad}
use Rattle.keeper_core.specs.declared.stored.Stored.{Stored}
use Rattle.keeper_core.specs.declared.stored.Stored.TheVariants.{Current, Old}
use Rattle.keeper_core.specs.declared.tables.Table.{Table}
use Rattle.keeper_core.specs.declared.tables.Tables.{Tables}
use Rattle.desk_core.specs.declared.faults.ClosedBy.{ClosedBy}
use Rattle.desk_core.specs.declared.faults.ClosedBy.TheVariants as closed_by
use Rattle.desk_core.specs.declared.faults.DeskFault.{DeskFault}
use Rattle.desk_core.specs.declared.faults.DeskFault.TheVariants as fault
use Rattle.desk_core.specs.contracts.faults.ClosedBy as closed_row
use Rattle.engine_core.specs.Answers.{IsOpening, IsStep, stored_by}
use Rattle.engine_core.specs.State.{EngineState, engine_code}

-- the state of the engine, the keeper, and what closed the desk
pub record DeskState (K : Type 0) : Type 0 where
  pub engine : EngineState
  pub keeper : K
  pub closed : Option ClosedBy

-- the code of what a desk shows, by that of its keeper
abbrev pub desk_code : {K : Type 0} → Coded K → Coded (DeskState K)
desk_code {K = K} k =
    code_by (EngineState × (K × Option ClosedBy)) (coded× engine_code (coded× k (coded_option closed_row.the_row.coded)))
    (λ d. (d.engine, (d.keeper, d.closed))) (λ p. record { engine = p.0; keeper = p.1.0; closed = p.1.1 }) (λ _. refl)

-- what closed a desk is a fault that the keeper counted
abbrev pub HasClosed : {K : Type 0} → (K → ℕ) → K → Option ClosedBy → Type 0
HasClosed faults k by = IfSome by (λ _. 0 < faults k)

-- ---- steps

-- what is to be stored is committed, and a stop leaves just that; where nothing is, the keeper is the same
abbrev pub Stores : {K : Type 0} → (K → Known) → Option Delta → K → K → Type 0
Stores known None old new = new ≡ old
Stores known (Some d) old new = BecomesBy (committed d) (known old) (known new) × IsSure (known new)

-- the step of an event was made and what it stores committed; the desk was open and is
pub record IsApplied {K : Type 0} (known : K → Known) (faults : K → ℕ) (e : Event) (old new : DeskState K) (done : Done) : Type 0 where
  pub was : old.closed ≡ None
  pub made : IsStep old.engine.core e new.engine.core done
  pub stored : Stores known (stored_by (step old.engine.core e)) old.keeper new.keeper
  pub count : faults new.keeper ≡ faults old.keeper
  pub still : new.closed ≡ None

-- the core refused an event, and all is as before
pub record IsRefused {K : Type 0} (e : Event) (old new : DeskState K) (r : Refusal) : Type 0 where
  pub was : old.closed ≡ None
  pub refused : step old.engine.core e ≡ RefusedStep r
  pub core : new.engine.core ≡ old.engine.core
  pub keeper : new.keeper ≡ old.keeper
  pub still : new.closed ≡ None

-- the keeper failed to commit what a step stores: its tables may have it, the core is as before, and the desk is closed
pub record IsUnstored {K : Type 0} (known : K → Known) (faults : K → ℕ) (e : Event) (old new : DeskState K) : Type 0 where
  pub was : old.closed ≡ None
  pub delta : Delta
  pub stores : stored_by (step old.engine.core e) ≡ Some delta
  pub core : new.engine.core ≡ old.engine.core
  pub tables : Stays (known old.keeper) (known new.keeper) ⊎ BecomesBy (committed delta) (known old.keeper) (known new.keeper)
  pub stop : LeavesEither (committed delta) (known old.keeper) (known new.keeper)
  pub count : Rose (faults old.keeper) (faults new.keeper)
  pub closes : new.closed ≡ Some closed_by.Keeper

-- memory was out: the core, the tables and the count are as before, and the desk is open
pub record IsOutOfMemory {K : Type 0} (known : K → Known) (faults : K → ℕ) (old new : DeskState K) : Type 0 where
  pub was : old.closed ≡ None
  pub core : new.engine.core ≡ old.engine.core
  pub tables : Stays (known old.keeper) (known new.keeper)
  pub stop : LeavesSame (known old.keeper) (known new.keeper)
  pub count : faults new.keeper ≡ faults old.keeper
  pub still : new.closed ≡ None

-- why an event's step was not made
abbrev pub IsNotApplied : {K : Type 0} → (K → Known) → (K → ℕ) → Event → DeskState K → DeskState K → DeskFault → Type 0
IsNotApplied known faults e old new (fault.Refused r) = IsRefused e old new r
IsNotApplied known faults e old new fault.Keeper = IsUnstored known faults e old new
IsNotApplied known faults e old new (fault.BadRow table n) = ⊥
IsNotApplied known faults e old new (fault.Closed by) = (old.closed ≡ Some by) × (new ≡ old)
IsNotApplied known faults e old new fault.NoMemory = IsOutOfMemory known faults old new

-- ---- openings

-- the states that a program opens with, by what is stored
abbrev pub start_in : Program → Option Level → ℕ → Durable → Option CoreState
start_in program threshold at d = start program d threshold at

-- the tables of an opening after its commit
abbrev pub with_start : Option CoreState → Contents → Stored
with_start None t = Current t
with_start (Some s) t = Current (with_delta (opening_reply s).delta t)

-- the same, by the first row that isn't well formed; tables with such a row have no opening
abbrev pub opened_by : (Durable → Option CoreState) → Contents → Option (Table × ℕ) → Stored
opened_by opens t (Some bad) = Current t
opened_by opens t None = with_start (opens (durable_in t)) t

-- tables after the commit of an opening on them; those of the first schema have none
abbrev pub opened_tables : (Durable → Option CoreState) → Stored → Stored
opened_tables opens (Current t) = opened_by opens t (first_bad (loaded t))
opened_tables opens (Old t) = Old t

-- what is opened was read from well-formed tables
pub record IsReadFrom (d : Durable) (s : Stored) : Type 0 where
  pub contents : Contents
  pub is : s ≡ Current contents
  pub well_formed : IsWellFormed contents
  pub durable : d ≡ durable_in contents

-- tables hold a core's state
abbrev pub HoldsCore : CoreState → Stored → Type 0
HoldsCore s (Current t) = HoldsState s t
HoldsCore s (Old t) = ⊥

-- a desk was opened: its core is the opening's on what was read, and the opening is committed
pub record IsDeskOpened {K : Type 0} (known : K → Known) (faults : K → ℕ) (opens : Durable → Option CoreState) (k : K) (d : DeskState K) (done : Done) : Type 0 where
  pub durable : Durable
  pub openable : IsOpenableWithin durable
  pub opening : IsOpening (opens durable) d.engine.core done
  pub read : IfSome (known d.keeper).tables (λ _. IfSome (known k).tables (IsReadFrom durable))
  pub stored : BecomesBy (opened_tables opens) (known k) (known d.keeper)
  pub holds : IfSome (known d.keeper).tables (HoldsCore d.engine.core)
  pub sure : IsSure (known d.keeper)
  pub count : faults d.keeper ≡ faults k
  pub still : d.closed ≡ None

-- a call left the tables and the count as before
pub record IsLeft {K : Type 0} (known : K → Known) (faults : K → ℕ) (old new : K) : Type 0 where
  pub tables : Stays (known old) (known new)
  pub stop : LeavesNoMore (known old) (known new)
  pub count : faults new ≡ faults old

-- the core refused to open on what was read: the numbers of jobs are used up
pub record IsUnopenable (opens : Durable → Option CoreState) (known : Known) (r : Refusal) : Type 0 where
  pub refusal : r ≡ refusal.NumbersUsed
  pub durable : Durable
  pub openable : IsOpenableWithin durable
  pub none : opens durable ≡ None
  pub read : IfSome known.tables (IsReadFrom durable)

-- the first row of loaded tables that isn't well formed
pub record IsBadRow (table : Table) (n : ℕ) (s : Stored) : Type 0 where
  pub rows : Tables
  pub loaded : loaded_of s ≡ Some rows
  pub first : first_bad rows ≡ Some (table, n)

-- the keeper failed to load, or to commit the opening: its tables may have it
pub record IsKeptFrom {K : Type 0} (known : K → Known) (faults : K → ℕ) (opens : Durable → Option CoreState) (old new : K) : Type 0 where
  pub tables : Stays (known old) (known new) ⊎ BecomesBy (opened_tables opens) (known old) (known new)
  pub stop : LeavesEither (opened_tables opens) (known old) (known new)
  pub count : Rose (faults old) (faults new)

-- why a desk was not opened
abbrev pub IsNotOpened : {K : Type 0} → (K → Known) → (K → ℕ) → (Durable → Option CoreState) → K → K → DeskFault → Type 0
IsNotOpened known faults opens old new (fault.Refused r) = IsUnopenable opens (known new) r × IsLeft known faults old new
IsNotOpened known faults opens old new fault.Keeper = IsKeptFrom known faults opens old new
IsNotOpened known faults opens old new (fault.BadRow table n) = IfSome (known new).tables (IsBadRow table n) × IsLeft known faults old new
IsNotOpened known faults opens old new (fault.Closed by) = ⊥
IsNotOpened known faults opens old new fault.NoMemory = IsLeft known faults old new

-- ---- logs

-- the log of a job was read, if it has one
pub record IsLogRead {K : Type 0} (known : K → Known) (faults : K → ℕ) (job : ℕ) (old new : DeskState K) (bytes : Option Bytes) : Type 0 where
  pub was : old.closed ≡ None
  pub log : IfSome (known new.keeper).tables (λ s. bytes ≡ log_of s job)
  pub left : IsLeft known faults old.keeper new.keeper
  pub sure : IsSure (known new.keeper)
  pub engine : new.engine ≡ old.engine
  pub still : new.closed ≡ None

-- the keeper failed to read a log: its tables are as before, and the desk is closed
pub record IsLogLost {K : Type 0} (known : K → Known) (faults : K → ℕ) (old new : DeskState K) : Type 0 where
  pub was : old.closed ≡ None
  pub tables : Stays (known old.keeper) (known new.keeper)
  pub stop : LeavesSame (known old.keeper) (known new.keeper)
  pub count : Rose (faults old.keeper) (faults new.keeper)
  pub engine : new.engine ≡ old.engine
  pub closes : new.closed ≡ Some closed_by.Keeper

-- why a log was not read
abbrev pub IsNotRead : {K : Type 0} → (K → Known) → (K → ℕ) → DeskState K → DeskState K → DeskFault → Type 0
IsNotRead known faults old new (fault.Refused r) = ⊥
IsNotRead known faults old new fault.Keeper = IsLogLost known faults old new
IsNotRead known faults old new (fault.BadRow table n) = ⊥
IsNotRead known faults old new (fault.Closed by) = (old.closed ≡ Some by) × (new ≡ old)
IsNotRead known faults old new fault.NoMemory = IsOutOfMemory known faults old new
