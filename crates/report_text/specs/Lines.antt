-- The lines that a session prints.
use Rattle.std.specs.Prelude.{ℕ, Bool, true, false, if◌then◌else◌, List, [], ◌++◌, codes, decimal, Option, Some, None, slice_get}
use Rattle.std.specs.List.{flat_map}
use Rattle.value_core.specs.declared.state.Stage.{Stage}
use Rattle.value_core.specs.declared.state.Stage.TheVariants.{Ready, Waiting, Running}
use Rattle.value_core.specs.declared.state.State.{State}
use Rattle.value_core.specs.declared.state.State.TheVariants.{Fine, Failed, Active}
use Rattle.value_core.specs.Printed.{printed, quoted}
use Rattle.op_keys.specs.declared.order.Order.{Order}
use Rattle.term_core.specs.declared.program.Program.{Program}
use Rattle.core_rules.specs.declared.events.Refusal.{Refusal}
use Rattle.core_rules.specs.declared.events.Refusal.TheVariants as refusal
use Rattle.core_rules.specs.declared.done.Done.{Done}
use Rattle.core_rules.specs.declared.jobs.Job.{Job}
use Rattle.core_rules.specs.declared.jobs.Mark.{Mark}
use Rattle.core_rules.specs.declared.jobs.Mark.TheVariants.{Unmarked, Automatic, User}
use Rattle.core_rules.specs.declared.notes.Ending.{Ending}
use Rattle.core_rules.specs.declared.notes.Ending.TheVariants as ending
use Rattle.core_rules.specs.declared.notes.Note.{Note}
use Rattle.core_rules.specs.declared.notes.Note.TheVariants as note
use Rattle.core_rules.specs.Core.{CoreState, is_output, stage}
use Rattle.core_rules.specs.Entries.{refs}
use Rattle.report_text.specs.declared.watched.WatchFault.{WatchFault}
use Rattle.report_text.specs.declared.watched.WatchFault.TheVariants as watch
use Rattle.report_text.specs.Reports.{name_at}

-- ---- words

-- the name of the node with this number
abbrev pub node_name : Program → ℕ → List ℕ
node_name p n = name_at (λ d. d.name) p.nodes n

-- the name of the operation with this number
abbrev pub op_name : Program → ℕ → List ℕ
op_name p n = name_at (λ d. d.name) p.ops n

-- the name of the worker with this number
abbrev pub worker_name : Program → ℕ → List ℕ
worker_name p n = name_at (λ d. d.name) p.workers n

-- a stage as a word
abbrev pub stage_word : Stage → List ℕ
stage_word Ready = codes "ready"
stage_word Waiting = codes "waiting"
stage_word Running = codes "running"

-- a state: `ok V`, `failed "M" at NODE` or `active STAGE at NODE`
unfoldable pub state_text : Program → State → List ℕ
state_text p (Fine v) = codes "ok " ++ printed v
state_text p (Failed origin message) =
    codes "failed " ++ (quoted message ++ (codes " at " ++ node_name p origin))
state_text p (Active origin stage) =
    codes "active " ++ (stage_word stage ++ (codes " at " ++ node_name p origin))

-- the line of a node: `NODE: STATE`
unfoldable pub node_line : Program → ℕ × State → List ℕ
node_line p c = node_name p c.0 ++ (codes ": " ++ (state_text p c.1 ++ codes "\n"))

-- `version N`, and a line for each changed node
unfoldable pub version_text : Program → ℕ → List (ℕ × State) → List ℕ
version_text p version changed =
    codes "version " ++ (decimal version ++ (codes "\n" ++ flat_map (node_line p) changed))

-- an operation and a key: `OP "KEY"`
unfoldable pub key_text : Program → ℕ → List ℕ → List ℕ
key_text p op key = op_name p op ++ (codes " " ++ quoted key)

-- the value that an output sets its key to, after a space; a build has none
unfoldable pub set_text : Program → ℕ → List ℕ → List ℕ
set_text p op value = if is_output (slice_get p.ops op) then codes " " ++ quoted value else []

-- what is built, `OP "KEY"`, or set, `OP "KEY" "VALUE"`
unfoldable pub target_text : Program → ℕ → List ℕ → List ℕ → List ℕ
target_text p op key value = key_text p op key ++ set_text p op value

-- ---- the lines of a step

-- how a job ended
unfoldable pub ending_text : Ending → List ℕ
ending_text ending.Fine = codes "ok"
ending_text (ending.Failed message) = codes "failed " ++ quoted message
ending_text ending.Cancelled = codes "cancelled"
ending_text ending.Dropped = codes "dropped"

-- the line of an order: `start JOB WORKER OP "KEY"`, or the same with ` "VALUE"`
unfoldable pub start_line : Program → Order → List ℕ
start_line p o =
    codes "start "
    ++ (decimal o.job ++ (codes " " ++ (worker_name p o.worker ++ (codes " " ++ (target_text p o.op o.key o.value ++ codes "\n")))))

-- the line of the end of a job: `end JOB ok`, or how else it ended
unfoldable pub end_line : ℕ → Ending → List ℕ
end_line job e = codes "end " ++ (decimal job ++ (codes " " ++ (ending_text e ++ codes "\n")))

-- the line of a note, if it has one
unfoldable pub note_text : Program → Note → List ℕ
note_text p note.Plain = []
note_text p (note.Started o) = start_line p o
note_text p (note.Ended job e) = end_line job e
note_text p note.Nothing = []
note_text p note.Ignored = []

-- the line of a conflict: `conflict OP "KEY"`
unfoldable pub conflict_line : Program → ℕ × List ℕ → List ℕ
conflict_line p c = codes "conflict " ++ (key_text p c.0 c.1 ++ codes "\n")

-- the line of a count of evaluations, if one is asked for: `evaluated N`
unfoldable pub evaluated_text : Option ℕ → List ℕ
evaluated_text None = []
evaluated_text (Some n) = codes "evaluated " ++ (decimal n ++ codes "\n")

-- the note, the version with its changed nodes, and the new conflicts
unfoldable pub step_text : Program → Done → Option ℕ → List ℕ
step_text p r evaluated =
    note_text p r.note
    ++ (version_text p r.version r.changed
    ++ (flat_map (conflict_line p) r.conflicts
    ++ evaluated_text evaluated))

-- whether a note says that nothing changed
abbrev pub is_idle : Note → Bool
is_idle note.Plain = false
is_idle (note.Started o) = false
is_idle (note.Ended job e) = false
is_idle note.Nothing = true
is_idle note.Ignored = true

-- the lines of a reply, with the count of evaluations if one is asked for: none if nothing changed
unfoldable pub reply_text : Program → Done → Option ℕ → List ℕ
reply_text p r evaluated = if is_idle r.note then [] else step_text p r evaluated

-- ---- live jobs

-- that a job's result will be thrown away
abbrev pub mark_text : Mark → List ℕ
mark_text Unmarked = []
mark_text Automatic = codes " cancelling"
mark_text User = codes " cancelling"

-- the line of a live job, by its stage and the count of its references: `job N OP "KEY" STAGE refs R`;
-- an output's value follows the key, and ` cancelling` ends the line of a job with a mark
unfoldable pub job_line : Program → Job → Stage → ℕ → List ℕ
job_line p j stage refs =
    codes "job "
    ++ (decimal j.number
    ++ (codes " "
    ++ (target_text p j.triple.op j.triple.key j.triple.value
    ++ (codes " " ++ (stage_word stage ++ (codes " refs " ++ (decimal refs ++ (mark_text j.mark ++ codes "\n"))))))))

-- the lines of the live jobs of a state, in order of their numbers
unfoldable pub jobs_text : CoreState → List ℕ
jobs_text s = flat_map (λ j. job_line s.program j (stage s j) (refs s j.triple)) s.jobs

-- ---- refusals

-- why an event is refused; that numbers are used up, or out of memory, ends a session and has no words
abbrev pub refusal_words : Refusal → Option (List ℕ)
refusal_words refusal.UnknownInput = Some (codes "unknown input")
refusal_words refusal.WrongKind = Some (codes "wrong kind")
refusal_words refusal.UnknownJob = Some (codes "unknown job")
refusal_words refusal.UnknownOp = Some (codes "unknown operation")
refusal_words refusal.UnknownWorker = Some (codes "unknown worker")
refusal_words refusal.UnknownClient = Some (codes "unknown client")
refusal_words (refusal.NotWaiting stage) = Some (codes "not waiting " ++ stage_word stage)
refusal_words refusal.AlreadyCancelling = Some (codes "already cancelling")
refusal_words (refusal.Busy job) = Some (codes "busy " ++ decimal job)
refusal_words refusal.NoRow = Some (codes "no row")
refusal_words (refusal.RateOutOfRange rate) = Some (codes "rate " ++ decimal rate)
refusal_words refusal.NumbersUsed = None
refusal_words refusal.NoMemory = None

-- the line of a refusal
abbrev pub refused_line : List ℕ → List ℕ
refused_line why = codes "refused " ++ (why ++ codes "\n")

-- ---- other lines

-- what is wrong with a watched file
abbrev pub watch_words : WatchFault → List ℕ
watch_words watch.Missing = codes "missing"
watch_words watch.TooLarge = codes "too large"
watch_words watch.NotText = codes "not text"

-- the line of an input's watched file: `watch NAME` and what is wrong with it
unfoldable pub watch_line : List ℕ → WatchFault → List ℕ
watch_line name fault = codes "watch " ++ (name ++ (codes " " ++ (watch_words fault ++ codes "\n")))

-- the line that says that orders are left for later
abbrev pub paused_line : List ℕ
paused_line = codes "paused\n"
