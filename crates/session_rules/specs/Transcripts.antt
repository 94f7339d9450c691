-- All that a session does, and how it ends.
use Rattle.std.specs.Prelude.{ℕ, ◌-◌, Bool, true, false, nat_lt, if◌then◌else◌, List, [], ◌∷◌, ◌++◌, Option, Some, None, codes}
use Rattle.std.specs.Option.{option_map}
use Rattle.io_ends.specs.Lines.{TextLine, Bytes, Long, lines_of}
use Rattle.op_keys.specs.declared.level.Level.{Level}
use Rattle.term_core.specs.declared.program.Program.{Program}
use Rattle.core_rules.specs.declared.events.What.{What}
use Rattle.core_rules.specs.Core.{CoreState}
use Rattle.core_rules.specs.Entries.{fresh_of}
use Rattle.core_rules.specs.Openings.{opening_reply, start}
use Rattle.core_rules.specs.Steps.{Answer, Refused, Idle, Accepted}
use Rattle.keeper_core.specs.declared.tables.Table.{Table}
use Rattle.keeper_core.specs.declared.tables.Tables.{Tables}
use Rattle.keeper_core.specs.Durables.{durable_of}
use Rattle.keeper_core.specs.WellFormed.{first_bad}
use Rattle.report_text.specs.declared.controls.Control.{Control}
use Rattle.report_text.specs.declared.controls.Control.TheVariants.{Empty, Event, Poll, Jobs, Quit}
use Rattle.report_text.specs.Controls.{control_read}
use Rattle.report_text.specs.Lines.{jobs_text, refused_line, reply_text}
use Rattle.session_rules.specs.Outputs.{Output, Commit, Print}
use Rattle.session_rules.specs.Parts.{Turn, Part, does, nothing, followed, then_do}
use Rattle.session_rules.specs.Scenes.{Ends, Scene, reading_now, readings_later, at_reading}
use Rattle.session_rules.specs.Steps.{Counting, answer_to, all_orders, event}
use Rattle.session_rules.specs.Watching.{watch_all}

-- ---- one line

-- the orders after an event, if it was accepted
abbrev pub orders_after : Counting → Answer → Part
orders_after counting (Accepted core r) s = all_orders counting s
orders_after counting (Idle r) s = nothing s
orders_after counting (Refused r) s = nothing s

-- an event at the last reading, and the orders after it
abbrev pub event_now : Counting → What → Part
event_now counting w s =
    followed (event counting w s) (orders_after counting (answer_to w s))

-- what a line asks for; the word that ends the session does nothing
abbrev pub asked_part : Counting → Option Control → Part
asked_part counting None s = does (Print (refused_line (codes "syntax")) ∷ []) s
asked_part counting (Some Empty) s = nothing s
asked_part counting (Some (Event w)) s = event_now counting w (at_reading s)
asked_part counting (Some Poll) s = then_do (watch_all counting) (all_orders counting) (at_reading s)
asked_part counting (Some Jobs) s = does (Print (jobs_text s.core) ∷ []) s
asked_part counting (Some Quit) s = nothing s

-- what a line of the input asks for, unless it is too long
abbrev pub line_part : Counting → TextLine → Part
line_part counting (Bytes line) s = asked_part counting (control_read line) s
line_part counting Long s = does (Print (refused_line (codes "line too long")) ∷ []) s

-- whether the end is asked for
abbrev pub is_end : Option Control → Bool
is_end None = false
is_end (Some Empty) = false
is_end (Some (Event w)) = false
is_end (Some Poll) = false
is_end (Some Jobs) = false
is_end (Some Quit) = true

-- whether a line ends the session
abbrev pub is_quit : TextLine → Bool
is_quit (Bytes line) = is_end (control_read line)
is_quit Long = false

-- ---- all lines

-- the input was read to its end or to `quit`; all lines that may be taken were taken, or numbers are used up; or a row isn't well formed
pub data End : Type 0 where
  Quits : End
  Limit : End
  Bad : Table → ℕ → End

-- all that is done, in order, and the end
pub record Transcript : Type 0 where
  pub outputs : List Output
  pub end : End

-- nothing is done any more
abbrev pub ended : End → Transcript
ended end = record { outputs = []; end = end }

-- outputs before those of a transcript
abbrev pub before : List Output → Transcript → Transcript
before outputs t = record { outputs = outputs ++ t.outputs; end = t.end }

-- what follows a scene, if there is one
abbrev pub goes_on : Option Scene → (Scene → Transcript) → Transcript
goes_on None next = ended Limit
goes_on (Some s) next = next s

-- what follows a turn
abbrev pub continued : Turn → (Scene → Transcript) → Transcript
continued t next = before t.outputs (goes_on t.scene next)

-- of n lines that may still be taken one was; after the last one the session ends
abbrev pub next_line : ℕ → (ℕ → Scene → Transcript) → Scene → Transcript
next_line n next s = if nat_lt 1 n then next (n - 1) s else ended Limit

-- the lines one after the other, n of them at most
abbrev pub lines_from : Counting → List TextLine → ℕ → Scene → Transcript
lines_from counting [] n s = ended Quits
lines_from counting (line ∷ lines) n s =
    if is_quit line then ended Quits
    else continued (line_part counting line s) (next_line n (lines_from counting lines))

-- how many lines are taken at most
abbrev pub line_count : ℕ
line_count = 1000000

-- ---- the session

-- the commit and the lines of version 1, with the number of all evaluations if it is asked for
abbrev pub opening_part : Counting → Part
opening_part counting s =
    let r = opening_reply s.core in
    does (Commit r.delta ∷ Print (reply_text s.core.program r (option_map (λ count. (fresh_of s.core).ticks) counting)) ∷ []) s

-- version 1, the files that are watched, and the orders before the first line
abbrev pub before_lines : Counting → Part
before_lines counting = then_do (opening_part counting) (then_do (watch_all counting) (all_orders counting))

-- the scene of a core that was opened at the first reading
abbrev pub first_scene : Ends → CoreState → Scene
first_scene ends core = record {
  core = core;
  last = reading_now ends.readings;
  readings = readings_later ends.readings;
  contents = ends.contents;
  exits = ends.exits;
}

-- the session of a core, if it could be opened
abbrev pub session_of : Counting → Ends → Option CoreState → Transcript
session_of counting ends None = ended Limit
session_of counting ends (Some core) =
    continued (before_lines counting (first_scene ends core)) (lines_from counting (lines_of ends.bytes) line_count)

-- the session over tables, by their first row that isn't well formed
abbrev pub session_on : Program → Tables → Option Level → Counting → Ends → Option (Table × ℕ) → Transcript
session_on p tables threshold counting ends (Some bad) = ended (Bad bad.0 bad.1)
session_on p tables threshold counting ends None =
    session_of counting ends (start p (durable_of tables) threshold (reading_now ends.readings))

-- all that a session on a program over loaded tables does
abbrev pub transcript : Program → Tables → Option Level → Counting → Ends → Transcript
transcript p tables threshold counting ends = session_on p tables threshold counting ends (first_bad tables)
