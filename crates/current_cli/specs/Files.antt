-- What a pipeline file is found to be.
use Rattle.std.specs.Prelude.{◌≡◌, ℕ, List}
use Rattle.std.specs.declared.option.Option.{Option}
use Rattle.std.specs.declared.option.Option.TheVariants.{None, Some}
use Rattle.std.specs.declared.result.Result.TheVariants.{Err}
use Rattle.term_core.specs.declared.program.Program.{Program}
use Rattle.term_core.specs.Soundness.{IsSound}
use Rattle.pipe_text.specs.inside.FileReading.{pipeline_of}
use Rattle.pipe_text.specs.Files.{IsFileOf}
use Rattle.pipe_text.specs.declared.fault.ReadFault.{ReadFault}
use Rattle.term_check.specs.Faults.{check_fault}
use Rattle.term_check.specs.declared.fault.CheckFault.{CheckFault}
use Rattle.report_text.specs.FaultLines.{error_line, read_text, check_text}
use Rattle.session_rules.specs.Commands.{File, Missing, Refused, Sound}

-- why a content is refused: its first fault, or the first fault of the program whose file it is
pub data IsRefused (content : List ℕ) : List ℕ → Type 0 where
  unread : (f : ReadFault) → pipeline_of content ≡ Err f → IsRefused content (read_text f)
  unsound : (p : Program) (f : CheckFault) → IsFileOf content p → check_fault p ≡ Some f → IsRefused content (check_text p f)

-- the line of a content's refusal
pub record IsRefusalOf (content line : List ℕ) : Type 0 where
  pub why : List ℕ
  pub cause : IsRefused content why
  pub is : line ≡ error_line why

-- what a content is found to be
abbrev pub IsFileOfContent : List ℕ → File → Type 0
IsFileOfContent content Missing = ⊥
IsFileOfContent content (Refused line) = IsRefusalOf content line
IsFileOfContent content (Sound p) = IsFileOf content p × IsSound p

-- what a file is found to be, which may be missing
abbrev pub IsFile : Option (List ℕ) → File → Type 0
IsFile None file = file ≡ Missing
IsFile (Some content) file = IsFileOfContent content file

-- There is something that a file is found to be, and nothing else.
pub record IsOneFile (held : Option (List ℕ)) : Type 0 where
  pub file : File
  pub found : IsFile held file
  pub only : (other : File) → IsFile held other → other ≡ file

-- whatever it has
abbrev pub EachIsOneFile : Type 0
EachIsOneFile = (held : Option (List ℕ)) → IsOneFile held
