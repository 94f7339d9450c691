-- A worked run: a running job is cancelled, keeps that mark where its build isn't wanted any more, and leaves a failed row. States are named by their versions.
use Rattle.std.proofs.Common.{◌≡◌, false, [], ◌∷◌, Some, refl}
use Rattle.std.specs.Prelude.{codes}
use Rattle.std.specs.FinMap.{from_entries}
use Rattle.value_core.specs.declared.value.Value.TheVariants as value
use Rattle.value_core.specs.declared.state.State.TheVariants.{Active}
use Rattle.value_core.specs.declared.state.Stage.TheVariants.{Ready, Running}
use Rattle.sched_rows.specs.declared.row.Row.{Row}
use Rattle.core_rules.specs.declared.events.What.TheVariants as what
use Rattle.core_rules.specs.declared.events.Refusal.TheVariants as refusal
use Rattle.core_rules.specs.declared.jobs.Job.{Job}
use Rattle.core_rules.specs.declared.jobs.Mark.TheVariants.{User}
use Rattle.core_rules.specs.declared.notes.Ending.TheVariants as ending
use Rattle.core_rules.specs.declared.notes.Note.TheVariants as note
use Rattle.core_rules.specs.Core.{CoreState}
use Rattle.core_rules.specs.Entries.{states}
use Rattle.core_rules.specs.Replies.{next_alone}
use Rattle.core_rules.specs.Steps.{Refused, Accepted, step}
use Rattle.core_rules.proofs.FirstRun.{taken}
use Rattle.core_rules.proofs.OneBuild.{queued, row_left, running, set, text_stored, ticket, tickets, x, y}
use Rattle.core_rules.proofs.ReplyParts.{sets}
use Rattle.core_rules.proofs.WorkedRuns.{answered, at, ends, keyed, quiet, states_are}

-- ---- the running job is cancelled, and signalled

-- the job with the user's mark
abbrev pub cancelled : Job
cancelled = record (running 1 (codes "x")) { mark = User }

abbrev pub third : CoreState
third = record taken { version = 3; jobs = cancelled ∷ [] }

pub running_cancelled : step taken (at 0 (what.Cancel 1)) ≡ Accepted third (record (quiet 3 2) { signals = 1 ∷ [] })
running_cancelled = answered x [] taken x [] _ refl refl refl refl refl refl

pub third_states : states third ≡ Active 0 Running ∷ []
third_states = states_are x [] third

pub cancelled_once : step third (at 0 (what.Cancel 1)) ≡ Refused refusal.AlreadyCancelling
unfolding step
cancelled_once = refl

-- ---- another text: the job keeps its mark and isn't signalled again, and the build of that text has a job

abbrev pub fourth : CoreState
fourth = record third { version = 4; inputs = value.Words (codes "y") ∷ []; next = 3; jobs = cancelled ∷ queued 2 (codes "y") ∷ []; fair = tickets (ticket 2 1000 0 ∷ []) 2000 }

pub mark_kept : step third (at 0 (set (codes "y"))) ≡ Accepted fourth (record (quiet 4 3) { changed = (0, Active 0 Ready) ∷ []; delta = text_stored 3 (codes "y") })
mark_kept = answered x [] third y [] _ (sets (codes "br") (codes "x") (codes "y")) refl refl refl refl refl

pub fourth_states : states fourth ≡ Active 0 Ready ∷ []
fourth_states = states_are y [] fourth

-- ---- the job ends well, and leaves a failed row all the same

abbrev pub left : Row
left = row_left 1 (codes "x") false (codes "cancelled") 0

abbrev pub fifth : CoreState
fifth = record fourth { version = 5; rows = from_entries (keyed left ∷ []); jobs = queued 2 (codes "y") ∷ [] }

pub ended_cancelled : step fourth (at 0 (ends 1 (codes "one\n"))) ≡ Accepted fifth (record (quiet 5 3) {
  note = note.Ended 1 ending.Cancelled;
  delta = record (next_alone 3) { put = Some left; log = Some (1, codes "one\n") };
})
ended_cancelled = answered y [] fourth y (keyed left ∷ []) _ refl refl refl refl refl refl

pub fifth_states : states fifth ≡ Active 0 Ready ∷ []
fifth_states = states_are y (keyed left ∷ []) fifth
