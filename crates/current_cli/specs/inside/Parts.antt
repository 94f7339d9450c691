-- What the parts of a command promise.
use Rattle.std.specs.Prelude.{◌≡◌, ◌⊎◌, ◌≤◌, ℕ, List, Option, IfSome, Result, Ok, Err}
use Rattle.io_ends.specs.Causes.{Rose, SinkSide}
use Rattle.io_ends.specs.Known.{Contents, content_now}
use Rattle.term_core.specs.declared.program.Program.{Program}
use Rattle.report_text.specs.FaultLines.{limit_line}
use Rattle.session_rules.specs.StoreTexts.{bad_row_line}
use Rattle.session_rules.specs.declared.ends.SessionEnd.{SessionEnd}
use Rattle.session_rules.specs.declared.ends.SessionEnd.TheVariants as end
use Rattle.store_reports.specs.Causes.{Tells, TellsOrNot}
use Rattle.session_rules.specs.Commands.{File, Sound}
use Rattle.current_cli.specs.Calls.{report}
use Rattle.current_cli.specs.inside.FileFound.{Refuses, Unread, file_found}

-- the end of a session was told, with its status
abbrev pub TellsEnd : SessionEnd → ℕ → SinkSide → SinkSide → Type 0
TellsEnd end.Quit status old new = (status ≡ 0) × (new ≡ old)
TellsEnd end.ReadFault status old new = (status ≡ 4) × (new ≡ old)
TellsEnd end.WriteFault status old new = (status ≡ 5) × (new ≡ old)
TellsEnd end.KeeperFault status old new = (status ≡ 6) × (new ≡ old)
TellsEnd end.NoMemory status old new = (status ≡ 7) × (new ≡ old)
TellsEnd end.LimitReached status old new = Tells limit_line 8 status old new
TellsEnd (end.BadRow table n) status old new = TellsOrNot (bad_row_line (table, n)) 9 status old new

-- a file has this program; or the reason was written why it has none, if what it has is known
abbrev pub FindsProgram : Option Contents → List ℕ → Result Program ℕ → SinkSide → SinkSide → Type 0
FindsProgram held path (Ok p) old new = IfSome held (λ contents. file_found (content_now (contents path)) ≡ Sound p) × (new ≡ old)
FindsProgram held path (Err status) old new = IfSome held (λ contents. Refuses (file_found (content_now (contents path))) status old new)

-- where the status of a file without a program comes from
pub record FileCause (result : Result Program ℕ) (sink sink' files files' misses misses' : ℕ) : Type 0 where
  pub found : (p : Program) → result ≡ Ok p → (sink' ≡ sink) × (files' ≡ files) × (misses' ≡ misses)
  pub read : result ≡ Err 4 → Rose files files'
  pub write : result ≡ Err 5 → Rose sink sink'
  pub missing : result ≡ Err 2 → Rose misses misses'
  pub missed : (misses' ≡ misses) ⊎ ((result ≡ Err 2) ⊎ (result ≡ Err 5))
  pub known : (status : ℕ) → result ≡ Err status → (2 ≤ status) × ((status ≤ 5) ⊎ (status ≡ 7))

-- the report of a sound file was printed; or the reason was written why it has no program, or nothing
abbrev pub IsCheckOf : File → ℕ → SinkSide → SinkSide → Type 0
IsCheckOf (Sound p) status old new = TellsOrNot (report p) 0 status old new ⊎ Unread status old new
IsCheckOf file status old new = Refuses file status old new

-- the same of the file of a path, if its content is known
abbrev pub IsChecked : Option Contents → List ℕ → ℕ → SinkSide → SinkSide → Type 0
IsChecked held path status old new = IfSome held (λ contents. IsCheckOf (file_found (content_now (contents path))) status old new)

-- where the status of a check comes from
pub record CheckCause (status sink sink' files files' misses misses' : ℕ) : Type 0 where
  pub done : status ≡ 0 → (sink' ≡ sink) × (files' ≡ files)
  pub read : status ≡ 4 → Rose files files'
  pub write : status ≡ 5 → Rose sink sink'
  pub missing : status ≡ 2 → Rose misses misses'
  pub missed : (misses' ≡ misses) ⊎ ((status ≡ 2) ⊎ (status ≡ 5))
  pub known : (status ≤ 5) ⊎ (status ≡ 7)
