-- What contracts know of a keeper, and what a call makes of it.
use Rattle.std.specs.Prelude.{◌≡◌, ◌⊎◌, ◌↔◌, ◌≤◌, ◌&&◌, ℕ, Bool, is_some, nat_lt, if◌then◌else◌, length, Option, Some, None, IfSome, IsTrue, Result, Ok, Err, IfOk, OnOk, OnErr}
use Rattle.std.specs.FinMap.{entries}
use Rattle.io_ends.specs.Causes.{HasCauseOf, Rose, raised}
use Rattle.keeper_core.specs.declared.keeper.KeepFault.{KeepFault}
use Rattle.keeper_core.specs.declared.keeper.KeepFault.TheVariants as keep
use Rattle.keeper_core.specs.declared.keeper.MigrateFault.{MigrateFault}
use Rattle.keeper_core.specs.declared.keeper.MigrateFault.TheVariants as migrate
use Rattle.keeper_core.specs.declared.keeper.Migrated.{Migrated}
use Rattle.keeper_core.specs.declared.keeper.Migrated.TheVariants.{Rows, Already}
use Rattle.keeper_core.specs.declared.stored.Stored.{Stored}
use Rattle.keeper_core.specs.declared.stored.Stored.TheVariants.{Current, Old}
use Rattle.keeper_core.specs.declared.tables.Tables.{Tables}
use Rattle.keeper_core.specs.Contents.{Bytes, OldContents, old_rows}
use Rattle.keeper_core.specs.EitherSchema.{first_unmovable, fresh_stored, is_current, is_old, loaded_of, log_of, migrated}
use Rattle.keeper_core.specs.Migrations.{moved}
use Rattle.keeper_core.specs.WellFormed.{old_first_bad}

-- what contracts know of a keeper: its tables, unless they are unknown, and those that a stop now may leave
pub record Known : Type 1 where
  pub tables : Option Stored
  pub after_stop : Stored → Type 0

-- these tables, of which a stop leaves just them
abbrev pub sure : Stored → Known
sure s = record { tables = Some s; after_stop = λ x. x ≡ s }

-- the tables are these, and a stop leaves just them
pub record Holds (s : Stored) (k : Known) : Type 0 where
  pub tables : k.tables ≡ Some s
  pub left : (x : Stored) → k.after_stop x ↔ (x ≡ s)

-- the tables are those before the call
abbrev pub Stays : Known → Known → Type 0
Stays before now = IfSome now.tables (λ s. before.tables ≡ Some s)

-- the tables are those before the call, after the change
abbrev pub BecomesBy : (Stored → Stored) → Known → Known → Type 0
BecomesBy change before now = IfSome now.tables (λ s. (was : Stored) × (before.tables ≡ Some was) × (s ≡ change was))

-- a stop leaves just the tables
abbrev pub IsSure : Known → Type 0
IsSure now = IfSome now.tables (λ s. (x : Stored) → now.after_stop x ↔ (x ≡ s))

-- a stop leaves what it could before the call
abbrev pub LeavesSame : Known → Known → Type 0
LeavesSame before now = (x : Stored) → now.after_stop x ↔ before.after_stop x

-- a stop leaves nothing that it couldn't before the call
abbrev pub LeavesNoMore : Known → Known → Type 0
LeavesNoMore before now = (x : Stored) → now.after_stop x → before.after_stop x

-- a stop leaves what it could before the call, or the tables after the change
abbrev pub LeavesEither : (Stored → Stored) → Known → Known → Type 0
LeavesEither change before now = (x : Stored) → now.after_stop x → before.after_stop x ⊎ ((s : Stored) × (before.tables ≡ Some s) × (x ≡ change s))

-- ---- calls that change nothing

-- the tables are the same; after Ok a stop leaves just them, and after a fault what it could before
pub record ReadsOnly {T : Type 0} (before now : Known) (result : Result T KeepFault) : Type 0 where
  pub same : Stays before now
  pub no_more : LeavesNoMore before now
  pub sure : OnOk result (IsSure now)
  pub unsure : OnErr result (LeavesSame before now)

-- what was loaded is what the tables show
abbrev pub Loads : Known → Result Tables KeepFault → Type 0
Loads now result = IfOk result (λ tables. IfSome now.tables (λ s. loaded_of s ≡ Some tables))

-- the log that was read is that of the job, if it has one
abbrev pub ReadsLog : ℕ → Known → Result (Option Bytes) KeepFault → Type 0
ReadsLog job now result = IfOk result (λ log. IfSome now.tables (λ s. log ≡ log_of s job))

-- ---- commits

-- after Ok the tables have the change, and a stop leaves just them; out of memory nothing changed; after a fault the tables may have the change
abbrev pub Commits : (Stored → Stored) → Known → Known → {T : Type 0} → Result T KeepFault → Type 0
Commits change before now (Ok _) = BecomesBy change before now × IsSure now
Commits change before now (Err keep.NoMemory) = Stays before now × LeavesSame before now
Commits change before now (Err keep.Fault) = Stays before now ⊎ BecomesBy change before now

-- a commit on tables of the first schema is a fault, and changes nothing
abbrev pub RefusesOld : Known → Known → {T : Type 0} → Result T KeepFault → Type 0
RefusesOld before now result = IfSome before.tables (λ s. IsTrue (is_old s) → (result ≡ Err keep.Fault) × Stays before now)

-- ---- migrations

-- the tables of the first schema were well formed, had so many results, and are moved
pub record HasMoved (n : ℕ) (before : Option Stored) (now : Stored) : Type 0 where
  pub old : OldContents
  pub was : before ≡ Some (Old old)
  pub sound : old_first_bad (old_rows old) ≡ None
  pub moved : now ≡ Current (moved old)
  pub results : n ≡ length (entries old.cache)

-- rows were moved only if tables of the first schema are well formed; nothing was if they are of the second already; else the first row that isn't well formed is named
abbrev pub Migrates : Known → Known → Result Migrated MigrateFault → Type 0
Migrates before now (Ok (Rows n)) = IfSome now.tables (HasMoved n before.tables) × IsSure now
Migrates before now (Ok Already) = IfSome now.tables (λ s. (before.tables ≡ Some s) × IsTrue (is_current s)) × IsSure now
Migrates before now (Err (migrate.BadRow table n)) = IfSome now.tables (λ s. (before.tables ≡ Some s) × (first_unmovable s ≡ Some (table, n))) × LeavesSame before now
Migrates before now (Err migrate.NoMemory) = Stays before now × LeavesSame before now
Migrates before now (Err migrate.Fault) = Stays before now ⊎ BecomesBy migrated before now

-- the same of tables that are known and never fail
abbrev pub MovesStored : Stored → Stored → Result Migrated MigrateFault → Type 0
MovesStored old new (Ok (Rows n)) = HasMoved n (Some old) new
MovesStored old new (Ok Already) = (new ≡ old) × IsTrue (is_current old)
MovesStored old new (Err (migrate.BadRow table n)) = (new ≡ old) × (first_unmovable old ≡ Some (table, n))
MovesStored old new (Err migrate.NoMemory) = new ≡ old
MovesStored old new (Err migrate.Fault) = ⊥

-- ---- causes

-- the count never falls, a fault is answered only if it rose, and every other answer leaves it
abbrev pub HasCause : {T : Type 0} → ℕ → ℕ → Result T KeepFault → Type 0
HasCause before now result = HasCauseOf keep.Fault keep.NoMemory before now result

-- only a fault of a migration raises the count
abbrev pub MigrateCause : ℕ → ℕ → Result Migrated MigrateFault → Type 0
MigrateCause before now (Err migrate.Fault) = (before ≤ now) × Rose before now
MigrateCause before now (Err (migrate.BadRow table n)) = now ≡ before
MigrateCause before now (Err migrate.NoMemory) = now ≡ before
MigrateCause before now (Ok done) = now ≡ before

-- ---- keepers by path

-- what a keeper begins with: the tables that are held for its path, or fresh ones in memory
abbrev pub begun : (Bytes → Stored) → Option Bytes → Stored
begun held None = fresh_stored
begun held (Some path) = held path

-- a keeper that was opened begins with these tables, if it is known what is held
abbrev pub Opens : {K : Type 0} → (K → Known) → Option (Bytes → Stored) → Option Bytes → Result K KeepFault → Type 0
Opens known held path result = IfOk result (λ k. IfSome held (λ h. Holds (begun h path) (known k)))

-- the same tables are held for each path
abbrev pub HoldsSame : Option (Bytes → Stored) → Option (Bytes → Stored) → Type 0
HoldsSame None now = Unit {0}
HoldsSame (Some old) None = ⊥
HoldsSame (Some old) (Some now) = (path : Bytes) → now path ≡ old path

-- a stop may leave nothing that it couldn't leave before
abbrev pub LeavesNothingNew : (Stored → Type 0) → (Stored → Type 0) → Type 0
LeavesNothingNew old new = (x : Stored) → new x → old x

-- whether it is known what a stop may leave after a keeper was given back: if it was known, and the keeper's tables are
abbrev pub knows_after : Bool → Known → Bool
knows_after knows keeper = knows && is_some keeper.tables

-- what a stop may leave is, if it is known, what it may leave of the keeper
abbrev pub LeavesAsKeeper : Bool → (Stored → Type 0) → Known → Type 0
LeavesAsKeeper knows left keeper = IsTrue knows → (x : Stored) → left x ↔ keeper.after_stop x

-- one more if a keeper had faults
abbrev pub counted : ℕ → ℕ → ℕ
counted faults of_keeper = if nat_lt 0 of_keeper then raised faults else faults
