-- What a call of the program promises for each command, and where each status comes from.
use Rattle.std.specs.Prelude.{◌≡◌, ◌≢◌, ◌⊎◌, ℕ, Bool, List, IfSome, IsTrue, is_some}
use Rattle.std.specs.declared.option.Option.{Option}
use Rattle.std.specs.declared.option.Option.TheVariants.{None, Some}
use Rattle.io_ends.specs.Causes.{Rose}
use Rattle.io_ends.specs.Known.{Contents, content_now}
use Rattle.op_keys.specs.declared.order.Exit.{Exit}
use Rattle.op_keys.specs.declared.order.Order.{Order}
use Rattle.term_core.specs.declared.program.Program.{Program}
use Rattle.term_check.specs.Reports.{report_of}
use Rattle.keeper_core.specs.declared.stored.Stored.{Stored}
use Rattle.keeper_core.specs.declared.tables.Tables.{Tables}
use Rattle.keeper_core.specs.EitherSchema.{first_unmovable, loaded_of, log_of}
use Rattle.keeper_core.specs.KeeperCalls.{begun}
use Rattle.keeper_core.specs.WellFormed.{first_bad}
use Rattle.report_text.specs.Reports.{report_text}
use Rattle.session_rules.specs.Commands.{Sound, check_plan, jobs_plan, log_plan, stats_plan, usage}
use Rattle.session_rules.specs.Runs.{Follows, Given, IsCheck, IsReport, IsRun, Seen}
use Rattle.session_core.specs.Numbers.{counting}
use Rattle.store_reports.specs.Causes.{Counts}
use Rattle.store_reports.specs.Migrating.{IsMigration}
use Rattle.made_session.specs.Promises.{IsMade}
use Rattle.command_words.specs.declared.command.Command.{Command}
use Rattle.command_words.specs.declared.command.Command.TheVariants.{Run, Check, Jobs, Stats, Log, Make, Migrate}
use Rattle.current_cli.specs.Files.{IsFile}
use Rattle.current_cli.specs.declared.ends.ProgramEnds.{ProgramEnds}

-- ---- what is seen of the ends

-- what was written, what was run, and what a stop may leave
abbrev pub seen_by :
    {S M O L C F : Type 0} → (M → Bool) → (M → Stored → Type 0) → (O → Option (List ℕ)) → (L → Option (List (Order × Exit)))
    → ProgramEnds S M O L C F → Seen
seen_by knows left written runs p =
    record { written = written p.ends.out; ran = runs p.ends.launcher; knows_left = knows p.keepers; left = left p.keepers }

-- what the ends give, as far as it is known
abbrev pub given_by :
    {S M O L C F : Type 0} → (S → Option (List ℕ)) → (M → Option (List ℕ → Stored)) → (C → Option (List ℕ)) → (F → Option Contents)
    → ProgramEnds S M O L C F → Given
given_by left held readings contents p =
    record { bytes = left p.input; readings = readings p.ends.clock; contents = contents p.ends.files; held = held p.keepers }

-- how often their calls have failed
abbrev pub counts_by :
    {S M O L C F : Type 0} → (S → ℕ) → (M → ℕ) → (O → ℕ) → (F → ℕ) → ProgramEnds S M O L C F → Counts
counts_by source keepers sink files p =
    record { source = source p.input; sink = sink p.ends.out; files = files p.ends.files; keepers = keepers p.keepers }

-- ---- commands

-- the report of a program
abbrev pub report : Program → List ℕ
report p = report_text p (report_of p)

-- a command was done, or its first outputs and perhaps a part of the next
abbrev pub IsCall : Option Command → Given → ℕ → Seen → Seen → Type 0
IsCall None given status e e' = Follows (λ xs. usage) status e e'
IsCall (Some (Run file store threshold count)) given status e e' = IsRun IsFile file store threshold (counting count) given status e e'
IsCall (Some (Check file)) given status e e' = IsCheck IsFile (λ found. check_plan found report) file given status e e'
IsCall (Some (Jobs store)) given status e e' = IsReport jobs_plan store given status e e'
IsCall (Some (Stats store)) given status e e' = IsReport stats_plan store given status e e'
IsCall (Some (Log job store)) given status e e' = IsReport (λ s. log_plan s job) store given status e e'
IsCall (Some (Make n)) given status e e' = IsMade n status e e'
IsCall (Some (Migrate store)) given status e e' = IsMigration store given status e e'

-- ---- causes

-- the cause of status 2: the words are no command, the pipeline file is missing, or the job has no log, if the store is known to the end
abbrev pub UsageCause : Option Command → ℕ → ℕ → Option (List ℕ → Stored) → Bool → Type 0
UsageCause None misses misses' held knows = Unit {0}
UsageCause (Some (Run file store threshold count)) misses misses' held knows = Rose misses misses'
UsageCause (Some (Check file)) misses misses' held knows = Rose misses misses'
UsageCause (Some (Jobs store)) misses misses' held knows = ⊥
UsageCause (Some (Stats store)) misses misses' held knows = ⊥
UsageCause (Some (Log job store)) misses misses' held knows = IsTrue knows → IfSome held (λ stores. log_of (stores store) job ≡ None)
UsageCause (Some (Make n)) misses misses' held knows = ⊥
UsageCause (Some (Migrate store)) misses misses' held knows = ⊥

-- a command that runs a session
abbrev pub RunsSession : Option Command → Type 0
RunsSession (Some (Run file store threshold count)) = Unit {0}
RunsSession command = ⊥

-- a command that reads a pipeline file
abbrev pub ReadsFile : Option Command → Type 0
ReadsFile (Some (Run file store threshold count)) = Unit {0}
ReadsFile (Some (Check file)) = Unit {0}
ReadsFile command = ⊥

-- a command that opens a store
abbrev pub OpensStore : Option Command → Type 0
OpensStore (Some (Run file store threshold count)) = Unit {0}
OpensStore (Some (Jobs store)) = Unit {0}
OpensStore (Some (Stats store)) = Unit {0}
OpensStore (Some (Log job store)) = Unit {0}
OpensStore (Some (Migrate store)) = Unit {0}
OpensStore command = ⊥

-- ---- completeness

-- the pipeline file is held, and is that of a sound program
abbrev pub HoldsSound : List ℕ → Given → Type 0
HoldsSound path given =
    (contents : Contents) × (given.contents ≡ Some contents) × ((p : Program) × IsFile (content_now (contents path)) (Sound p))

-- what is loaded of a store is well formed
abbrev pub IsWellFormed : Stored → Type 0
IsWellFormed store = (tables : Tables) × (loaded_of store ≡ Some tables) × (first_bad tables ≡ None)

-- the store that is held for a path, or a fresh one, is so
abbrev pub HoldsStore : (Stored → Type 0) → Option (List ℕ) → Given → Type 0
HoldsStore Is path given = (held : List ℕ → Stored) × (given.held ≡ Some held) × Is (begun held path)

-- a command that can be done: all that it is given is known, its file is sound, its tables are well formed, its log is there
abbrev pub CanBeDone : Option Command → Given → Type 0
CanBeDone None given = ⊥
CanBeDone (Some (Run file store threshold count)) given =
    HoldsSound file given × HoldsStore IsWellFormed store given × (given.bytes ≢ None) × (given.readings ≢ None)
CanBeDone (Some (Check file)) given = HoldsSound file given
CanBeDone (Some (Jobs store)) given = HoldsStore IsWellFormed (Some store) given
CanBeDone (Some (Stats store)) given = HoldsStore IsWellFormed (Some store) given
CanBeDone (Some (Log job store)) given = HoldsStore (λ s. IsWellFormed s × IsTrue (is_some (log_of s job))) (Some store) given
CanBeDone (Some (Make n)) given = Unit {0}
CanBeDone (Some (Migrate store)) given = HoldsStore (λ s. first_unmovable s ≡ None) (Some store) given

-- no call failed
pub record NoneRose (old new : Counts) : Type 0 where
  pub source : Rose old.source new.source → ⊥
  pub sink : Rose old.sink new.sink → ⊥
  pub files : Rose old.files new.files → ⊥
  pub keepers : Rose old.keepers new.keepers → ⊥

-- it was done whole, or memory ran out; a session may also reach a limit
abbrev pub IsWhole : Option Command → ℕ → Type 0
IsWhole (Some (Run file store threshold count)) status = (status ≡ 0) ⊎ ((status ≡ 8) ⊎ (status ≡ 7))
IsWhole command status = (status ≡ 0) ⊎ (status ≡ 7)
