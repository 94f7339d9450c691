-- What is done for the lines that are read, and how far the loop over them came.
use Rattle.std.specs.Prelude.{ℕ, Bool, true, false, not, List, Option, Some, None}
use Rattle.io_ends.specs.declared.lines.Line.{Line}
use Rattle.io_ends.specs.declared.lines.Line.TheVariants.{Whole, TooLong, End as NoLine}
use Rattle.io_ends.specs.declared.lines.LineFault.{LineFault}
use Rattle.io_ends.specs.declared.lines.LineFault.TheVariants as fault
use Rattle.io_ends.specs.Lines.{Long, lines_of, text_line}
use Rattle.core_rules.specs.declared.notes.Note.{Note}
use Rattle.engine_rules.specs.Proper.{IsProperWhat}
use Rattle.report_text.specs.declared.controls.Control.{Control}
use Rattle.report_text.specs.declared.controls.Control.TheVariants.{Empty, Event, Poll, Jobs, Quit}
use Rattle.session_rules.specs.Outside.{Outside}
use Rattle.session_rules.specs.Parts.{Part, nothing, then_do}
use Rattle.session_rules.specs.Scenes.{Scene, expecting}
use Rattle.session_rules.specs.Sessions.{Script}
use Rattle.session_rules.specs.Versions.{ReachesCounted}
use Rattle.session_rules.specs.Steps.{Counting, all_orders}
use Rattle.session_rules.specs.Transcripts.{is_quit, line_part, lines_from}
use Rattle.session_rules.specs.Watching.{watch_all}
use Rattle.session_core.specs.declared.stop.Stop.{Stop}
use Rattle.session_core.specs.declared.stop.Stop.TheVariants as stop
use Rattle.session_core.specs.Doing.{Moment}
use Rattle.session_core.specs.Lines.{lines_script}

-- what an event of a control brings is within the bounds
abbrev pub IsProperControl : Control → Type 0
IsProperControl Empty = Unit {0}
IsProperControl (Event w) = IsProperWhat w
IsProperControl Poll = Unit {0}
IsProperControl Jobs = Unit {0}
IsProperControl Quit = Unit {0}

-- the watched files, and the orders after them
abbrev pub watched_part : Counting → Part
watched_part counting = then_do (watch_all counting) (all_orders counting)

-- the orders after an event, if it has a note
abbrev pub noted_orders : Counting → Option Note → Part
noted_orders counting None s = nothing s
noted_orders counting (Some n) s = all_orders counting s

-- ---- one line

-- what is done for a line that was read; nothing at the end of the input
abbrev pub read_part : Counting → Line → Part
read_part counting (Whole line) s = line_part counting (text_line line.items) s
read_part counting TooLong s = line_part counting Long s
read_part counting NoLine s = nothing s

-- whether the session goes on after it
abbrev pub goes_on : Line → Bool
goes_on (Whole line) = not (is_quit (text_line line.items))
goes_on TooLong = true
goes_on NoLine = false

-- the stop of a line that wasn't read
abbrev pub line_stop : LineFault → Stop
line_stop fault.Failed = stop.ReadFault
line_stop fault.NoMemory = stop.NoMemory

-- ---- all lines

-- what is done for the lines of the bytes ahead, of which n may still be taken
abbrev pub ahead_script : Counting → List ℕ → ℕ → Scene → Script
ahead_script counting bytes n s exits = lines_from counting (lines_of bytes) n (expecting exits s)

-- of the input and the bytes ahead, if they are known: all up to the bytes ahead was done, and each commit raised the version
abbrev pub ReadFrom :
    Counting → Option (List ℕ) → Option (List ℕ) → ℕ → Option Scene → Option Scene → Outside → Outside → Type 0
ReadFrom counting None ahead n s0 s e e' = Unit {0}
ReadFrom counting (Some bytes) ahead n None s e e' = Unit {0}
ReadFrom counting (Some bytes) None n (Some s0) s e e' = ⊥
ReadFrom counting (Some bytes) (Some rest) n (Some s0) None e e' = ⊥
ReadFrom counting (Some bytes) (Some rest) n (Some s0) (Some s) e e' =
    ReachesCounted (lines_script counting bytes s0) (ahead_script counting rest n s) s0.core.version s.core.version e e'

-- the same from a moment to another one
abbrev pub HasRead : Counting → Option (List ℕ) → Option (List ℕ) → ℕ → Moment → Moment → Type 0
HasRead counting bytes ahead n m m' = ReadFrom counting bytes ahead n m.scene m'.scene m.outside m'.outside
