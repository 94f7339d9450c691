-- What a pipeline file is found to be, as the program computes it.
use Rattle.std.specs.Prelude.{◌≡◌, ◌⊎◌, ℕ, Bool, true, false, List, Option, Some, None, Result, Ok, Err, codes}
use Rattle.io_ends.specs.Causes.{SinkSide}
use Rattle.io_ends.specs.declared.ends.FileFault.{FileFault}
use Rattle.io_ends.specs.declared.ends.FileFault.TheVariants as fault
use Rattle.term_core.specs.declared.program.Program.{Program}
use Rattle.pipe_text.specs.inside.FileReading.{pipeline_of}
use Rattle.pipe_text.specs.declared.fault.ReadFault.{ReadFault}
use Rattle.term_check.specs.Faults.{check_fault}
use Rattle.term_check.specs.declared.fault.CheckFault.{CheckFault}
use Rattle.term_check.specs.declared.fault.CheckWhat.{CheckWhat}
use Rattle.term_check.specs.declared.fault.CheckWhat.TheVariants as what
use Rattle.report_text.specs.FaultLines.{error_line, read_text, check_text}
use Rattle.session_rules.specs.Commands.{File, Missing, Refused, Sound}
use Rattle.store_reports.specs.Causes.{Tells}
use Rattle.current_cli.specs.declared.files.PipelineFile.{PipelineFile}
use Rattle.current_cli.specs.declared.files.PipelineFile.TheVariants as file

-- of a program, by its first fault
abbrev pub file_checked : Program → Option CheckFault → File
file_checked p (Some f) = Refused (error_line (check_text p f))
file_checked p None = Sound p

-- of what was read
abbrev pub file_read : Result Program ReadFault → File
file_read (Ok p) = file_checked p (check_fault p)
file_read (Err f) = Refused (error_line (read_text f))

-- of a content
abbrev pub file_in : List ℕ → File
file_in content = file_read (pipeline_of content)

-- of a file that may be missing
abbrev pub file_found : Option (List ℕ) → File
file_found None = Missing
file_found (Some content) = file_in content

-- what was found, as contracts see it
abbrev pub seen_file : PipelineFile → File
seen_file file.Missing = Missing
seen_file (file.Refused line) = Refused line
seen_file (file.Sound p) = Sound p

-- whether a fault is that memory ran out
abbrev pub is_no_memory : CheckWhat → Bool
is_no_memory what.NoMemory = true
is_no_memory w = false

-- the status of a file that wasn't read
abbrev pub file_status : FileFault → ℕ
file_status fault.Failed = 4
file_status fault.NoMemory = 7

-- the status of a file that wasn't read, while nothing was written
abbrev pub Unread : ℕ → SinkSide → SinkSide → Type 0
Unread status old new = ((status ≡ 4) ⊎ (status ≡ 7)) × (new ≡ old)

-- the reason was written why a file has no program, unless it wasn't read
abbrev pub Refuses : File → ℕ → SinkSide → SinkSide → Type 0
Refuses Missing status old new = Tells (error_line (codes "no file")) 2 status old new ⊎ Unread status old new
Refuses (Refused line) status old new = Tells line 3 status old new ⊎ Unread status old new
Refuses (Sound p) status old new = Unread status old new
