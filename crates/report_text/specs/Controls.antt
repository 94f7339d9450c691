-- Control lines: what a line of the input asks for.
--
-- A line has the tokens of a pipeline file: none, or a word and what goes with it.
--   set NAME LITERAL   tick   level LEVEL   level none   confirm NUMBER   cancel NUMBER
--   rebuild OP STRING   pause WORKER   resume WORKER   rate POOL CLIENT NUMBER   poll   jobs   quit
use Rattle.std.specs.Prelude.{◌≡◌, ℕ, if◌then◌else◌, List, [], ◌∷◌, codes, Option, Some, None, Result, Ok, Err}
use Rattle.std.specs.Option.{option_and_then, option_map}
use Rattle.std.specs.Str.{bytes_eq}
use Rattle.value_core.specs.declared.token.Token.{Token}
use Rattle.value_core.specs.declared.token.Token.TheVariants.{Name, Number, Words}
use Rattle.value_core.specs.declared.lexing.Stop.{Stop}
use Rattle.value_core.specs.declared.lexing.Stop.TheVariants as stop
use Rattle.value_core.specs.Lexing.{lexed}
use Rattle.value_core.specs.Literals.{literal_of, tokens_in}
use Rattle.op_keys.specs.declared.level.Level.{Level}
use Rattle.core_rules.specs.declared.events.What.{What}
use Rattle.core_rules.specs.declared.events.What.TheVariants as what
use Rattle.pipe_text.specs.Words.{find_word, level_word}
use Rattle.report_text.specs.declared.controls.Control.{Control}
use Rattle.report_text.specs.declared.controls.Control.TheVariants.{Empty, Event, Poll, Jobs, Quit}
use Rattle.report_text.specs.declared.controls.ControlFault.{ControlFault}
use Rattle.report_text.specs.declared.controls.ControlFault.TheVariants as fault
use Rattle.report_text.specs.declared.controls.ControlWord.{ControlWord}
use Rattle.report_text.specs.declared.controls.ControlWord.TheVariants as word

-- the letters of each word
abbrev pub control_letters : ControlWord → List ℕ
control_letters word.Set = codes "set"
control_letters word.Tick = codes "tick"
control_letters word.Level = codes "level"
control_letters word.Confirm = codes "confirm"
control_letters word.Cancel = codes "cancel"
control_letters word.Rebuild = codes "rebuild"
control_letters word.Pause = codes "pause"
control_letters word.Resume = codes "resume"
control_letters word.Rate = codes "rate"
control_letters word.Poll = codes "poll"
control_letters word.Jobs = codes "jobs"
control_letters word.Quit = codes "quit"

-- all words
abbrev pub all_controls : List ControlWord
all_controls = word.Set ∷ word.Tick ∷ word.Level ∷ word.Confirm ∷ word.Cancel ∷ word.Rebuild ∷ word.Pause ∷ word.Resume ∷ word.Rate ∷ word.Poll ∷ word.Jobs ∷ word.Quit ∷ []

-- the word that has these letters
unfoldable pub control_word : List ℕ → Option ControlWord
control_word = find_word control_letters all_controls

-- ---- what goes with a word

-- nothing
abbrev pub alone : {A : Type 0} → A → List Token → Option A
alone x [] = Some x
alone x ks = None

-- a name
abbrev pub name_in : List Token → Option (List ℕ)
name_in (Name n ∷ []) = Some n
name_in ks = None

-- a number
abbrev pub number_in : List Token → Option ℕ
number_in (Number n ∷ []) = Some n
number_in ks = None

-- the name of an input and a literal
abbrev pub set_in : List Token → Option What
set_in (Name n ∷ ks) = option_map (what.SetInput n) (literal_of ks)
set_in ks = None

-- an operation and a string
abbrev pub rebuild_in : List Token → Option What
rebuild_in (Name op ∷ Words key ∷ []) = Some (what.Rebuild op key)
rebuild_in ks = None

-- a pool, a client and a number
abbrev pub rate_in : List Token → Option What
rate_in (Name pool ∷ Name client ∷ Number rate ∷ []) = Some (what.Rate pool client rate)
rate_in ks = None

-- a level, or that there is none
abbrev pub threshold_word : List ℕ → Option (Option Level)
threshold_word n = if bytes_eq n (codes "none") then Some None else option_map Some (level_word n)

-- ---- lines

-- the event of a word and what goes with it
abbrev pub event_of : ControlWord → List Token → Option What
event_of word.Set ks = set_in ks
event_of word.Tick ks = alone what.Tick ks
event_of word.Level ks = option_map what.SetLevel (option_and_then threshold_word (name_in ks))
event_of word.Confirm ks = option_map what.Confirm (number_in ks)
event_of word.Cancel ks = option_map what.Cancel (number_in ks)
event_of word.Rebuild ks = rebuild_in ks
event_of word.Pause ks = option_map what.Pause (name_in ks)
event_of word.Resume ks = option_map what.Resume (name_in ks)
event_of word.Rate ks = rate_in ks
event_of w ks = None

-- what a word and what goes with it ask for
abbrev pub asked_by : ControlWord → List Token → Option Control
asked_by word.Poll ks = alone Poll ks
asked_by word.Jobs ks = alone Jobs ks
asked_by word.Quit ks = alone Quit ks
asked_by w ks = option_map Event (event_of w ks)

-- what the tokens of a line ask for
abbrev pub control_of : List Token → Option Control
control_of [] = Some Empty
control_of (Name n ∷ ks) = option_and_then (λ w. asked_by w ks) (control_word n)
control_of ks = None

-- the same, if these are tokens up to the end of the line
abbrev pub ended_control : Stop → List Token → Option Control
ended_control (stop.Lex p) ks = None
ended_control (stop.End p) ks = control_of ks

-- what a line asks for; another one is refused
abbrev pub control_read : List ℕ → Option Control
control_read line = ended_control (lexed line).stop (tokens_in (lexed line).tokens)

-- a fault says that the line asks for nothing that there is, or is out of memory
abbrev pub FailsControl : ControlFault → Option Control → Type 0
FailsControl fault.NoMemory read = Unit {0}
FailsControl fault.Syntax read = read ≡ None

-- what was returned is what the line asks for, or a fault
abbrev pub ReturnsControl : Result Control ControlFault → Option Control → Type 0
ReturnsControl (Ok c) read = read ≡ Some c
ReturnsControl (Err e) read = FailsControl e read
