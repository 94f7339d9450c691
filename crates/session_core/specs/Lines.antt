-- How a session does the lines of its input.
use Rattle.std.specs.Prelude.{◌≡◌, ◌⊎◌, ℕ, List, Option, None, IfSome, Result, Ok, Err}
use Rattle.io_ends.specs.Causes.{Rose}
use Rattle.io_ends.specs.Lines.{lines_of}
use Rattle.session_rules.specs.Outside.{Outside}
use Rattle.session_rules.specs.Scenes.{Scene, expecting}
use Rattle.session_rules.specs.Sessions.{Finishes, Halts, Script}
use Rattle.session_rules.specs.Steps.{Counting}
use Rattle.session_rules.specs.Transcripts.{Limit, Quits, line_count, lines_from}
use Rattle.session_rules.specs.Versions.{FinishesCounted}
use Rattle.session_core.specs.Doing.{Counts, IsCausedBy, Moment}
use Rattle.session_core.specs.declared.stop.Stop.{Stop}
use Rattle.session_core.specs.declared.stop.Stop.TheVariants as stop

-- what is done for all lines of some bytes, from a scene on
abbrev pub lines_script : Counting → List ℕ → Scene → Script
lines_script counting bytes s exits = lines_from counting (lines_of bytes) line_count (expecting exits s)

-- a script was done to its end, or it was begun and stopped: at its limit if that is why
abbrev pub EndsScript : Script → Outside → Outside → {T : Type 0} → Result T Stop → Type 0
EndsScript t e e' (Ok x) = Finishes t Quits e e'
EndsScript t e e' (Err z) = Halts t e e' × (z ≡ stop.LimitReached → Finishes t Limit e e')

-- all lines were done, or a call stopped among them, if the bytes and the scene are known
abbrev pub DoesLines :
    Counting → Option (List ℕ) → Moment → Moment → {T : Type 0} → Result T Stop → Type 0
DoesLines counting bytes m m' result =
    IfSome bytes (λ text. IfSome m.scene (λ s.
    EndsScript (lines_script counting text s) m.outside m'.outside result))

-- all lines were done up to this version, if the bytes and the scene are known
abbrev pub CountsLines : Counting → Option (List ℕ) → Moment → Moment → ℕ → Type 0
CountsLines counting bytes m m' version =
    IfSome bytes (λ text. IfSome m.scene (λ s.
    FinishesCounted (lines_script counting text s) Quits s.core.version version m.outside m'.outside))

-- a stop among the lines has its cause; the input or a file could not be read
abbrev pub IsCausedIn : Stop → ℕ → ℕ → Counts → Counts → Type 0
IsCausedIn stop.ReadFault was is old new = Rose was is ⊎ Rose old.files new.files
IsCausedIn stop.WriteFault was is old new = IsCausedBy stop.WriteFault old new
IsCausedIn stop.KeeperFault was is old new = IsCausedBy stop.KeeperFault old new
IsCausedIn stop.NoMemory was is old new = IsCausedBy stop.NoMemory old new
IsCausedIn stop.LimitReached was is old new = (is ≡ was) × IsCausedBy stop.LimitReached old new

-- a call leaves the counts, that of the input among them, or stops with a cause if the desk was open
abbrev pub LinesCause : ℕ → ℕ → Counts → Counts → {T : Type 0} → Result T Stop → Type 0
LinesCause was is old new (Ok x) = (is ≡ was) × (new ≡ old)
LinesCause was is old new (Err z) = old.closed ≡ None → IsCausedIn z was is old new
