-- What a session does after its opening was committed.
use Rattle.std.specs.Prelude.{List, [], ◌∷◌, ℕ, Option, IfSome, Result}
use Rattle.std.specs.Option.{option_map}
use Rattle.io_ends.specs.Lines.{lines_of}
use Rattle.core_rules.specs.Entries.{fresh_of}
use Rattle.core_rules.specs.Openings.{opening_reply}
use Rattle.desk_core.specs.declared.faults.DeskFault.{DeskFault}
use Rattle.desk_core.specs.declared.faults.DeskFault.TheVariants as fault
use Rattle.report_text.specs.Lines.{reply_text}
use Rattle.session_rules.specs.Outputs.{Print}
use Rattle.session_rules.specs.Parts.{Part, does, then_do}
use Rattle.session_rules.specs.Scenes.{Scene, expecting}
use Rattle.session_rules.specs.Sessions.{Script}
use Rattle.session_rules.specs.Steps.{Counting, all_orders}
use Rattle.session_rules.specs.Transcripts.{Quits, continued, line_count, lines_from}
use Rattle.session_rules.specs.Versions.{FinishesCounted}
use Rattle.session_rules.specs.Watching.{watch_all}
use Rattle.session_rules.specs.declared.ends.SessionEnd.{SessionEnd}
use Rattle.session_rules.specs.declared.ends.SessionEnd.TheVariants as end
use Rattle.session_core.specs.Doing.{Moment}
use Rattle.session_core.specs.Lines.{EndsScript}
use Rattle.session_core.specs.declared.stop.Stop.{Stop}
use Rattle.session_core.specs.declared.stop.Stop.TheVariants as stop

-- the lines of version 1
abbrev pub opening_lines : Counting → Part
opening_lines counting s =
    does (Print (reply_text s.core.program (opening_reply s.core) (option_map (λ count. (fresh_of s.core).ticks) counting)) ∷ []) s

-- these, the files that are watched, and the orders before the first line
abbrev pub after_commit : Counting → Part
after_commit counting = then_do (opening_lines counting) (then_do (watch_all counting) (all_orders counting))

-- the same, and then the lines of some bytes
abbrev pub committed_script : Counting → List ℕ → Scene → Script
committed_script counting bytes s exits =
    continued (after_commit counting (expecting exits s)) (lines_from counting (lines_of bytes) line_count)

-- all of it was done, or a call stopped in it, if the bytes and the scene are known
abbrev pub DoesCommitted :
    Counting → Option (List ℕ) → Moment → Moment → {T : Type 0} → Result T Stop → Type 0
DoesCommitted counting bytes m m' result =
    IfSome bytes (λ text. IfSome m.scene (λ s.
    EndsScript (committed_script counting text s) m.outside m'.outside result))

-- all of it was done up to this version, if the bytes and the scene are known
abbrev pub CountsCommitted : Counting → Option (List ℕ) → Moment → Moment → ℕ → Type 0
CountsCommitted counting bytes m m' version =
    IfSome bytes (λ text. IfSome m.scene (λ s.
    FinishesCounted (committed_script counting text s) Quits s.core.version version m.outside m'.outside))

-- the end of a session whose desk wasn't opened
abbrev pub end_of_fault : DeskFault → SessionEnd
end_of_fault (fault.Refused r) = end.LimitReached
end_of_fault fault.Keeper = end.KeeperFault
end_of_fault (fault.BadRow table n) = end.BadRow table n
end_of_fault (fault.Closed by) = end.KeeperFault
end_of_fault fault.NoMemory = end.NoMemory

-- the end of one that stopped
abbrev pub end_of_stop : Stop → SessionEnd
end_of_stop stop.ReadFault = end.ReadFault
end_of_stop stop.WriteFault = end.WriteFault
end_of_stop stop.KeeperFault = end.KeeperFault
end_of_stop stop.NoMemory = end.NoMemory
end_of_stop stop.LimitReached = end.LimitReached
