-- A worked run: jobs that nothing refers to any more go where they wait and are marked where they run, and one is cancelled. States are named by their versions.
use Rattle.std.proofs.Common.{◌≡◌, false, [], ◌∷◌, Some, refl}
use Rattle.std.specs.Prelude.{codes}
use Rattle.std.specs.FinMap.{from_entries}
use Rattle.value_core.specs.declared.value.Value.TheVariants as value
use Rattle.value_core.specs.declared.state.State.TheVariants.{Failed, Active}
use Rattle.value_core.specs.declared.state.Stage.TheVariants.{Ready, Running}
use Rattle.sched_rows.specs.declared.row.Row.{Row}
use Rattle.core_rules.specs.declared.events.What.TheVariants as what
use Rattle.core_rules.specs.declared.events.Refusal.TheVariants as refusal
use Rattle.core_rules.specs.declared.jobs.Job.{Job}
use Rattle.core_rules.specs.declared.jobs.Mark.TheVariants.{Automatic}
use Rattle.core_rules.specs.declared.notes.Ending.TheVariants as ending
use Rattle.core_rules.specs.declared.notes.Note.TheVariants as note
use Rattle.core_rules.specs.Core.{CoreState}
use Rattle.core_rules.specs.Entries.{states}
use Rattle.core_rules.specs.Replies.{next_alone}
use Rattle.core_rules.specs.Steps.{Refused, Idle, Accepted, step}
use Rattle.core_rules.proofs.FirstRun.{opened}
use Rattle.core_rules.proofs.OneBuild.{order, queued, row_left, running, set, text_stored, ticket, tickets, x, y}
use Rattle.core_rules.proofs.ReplyParts.{sets}
use Rattle.core_rules.proofs.WorkedRuns.{answered, at, ends, keyed, quiet, states_are}

-- ---- the input has another text: the queued job goes, and the build of that text has a job

abbrev pub second : CoreState
second = record opened { version = 2; inputs = value.Words (codes "y") ∷ []; next = 3; jobs = queued 2 (codes "y") ∷ []; fair = tickets (ticket 2 1000 0 ∷ []) 2000 }

pub queued_goes : step opened (at 0 (set (codes "y"))) ≡ Accepted second (record (quiet 2 3) { delta = text_stored 3 (codes "y") })
queued_goes = answered x [] opened y [] _ (sets (codes "br") (codes "x") (codes "y")) refl refl refl refl refl

pub second_states : states second ≡ Active 0 Ready ∷ []
second_states = states_are y [] second

-- ---- the worker takes that job

abbrev pub third : CoreState
third = record second { version = 3; jobs = running 2 (codes "y") ∷ []; fair = tickets [] 2000 }

pub second_taken : step second (at 0 (what.Take 0)) ≡ Accepted third (record (quiet 3 3) { note = note.Started (order 2 (codes "y")); changed = (0, Active 0 Running) ∷ [] })
second_taken = answered y [] second y [] _ refl refl refl refl refl refl

pub third_states : states third ≡ Active 0 Running ∷ []
third_states = states_are y [] third

-- ---- the first text again: the running job is marked and signalled, and the build of that text has a job

-- the running job, whose result isn't wanted
abbrev pub lost : Job
lost = record (running 2 (codes "y")) { mark = Automatic }

abbrev pub fourth : CoreState
fourth = record third { version = 4; inputs = value.Words (codes "x") ∷ []; next = 4; jobs = lost ∷ queued 3 (codes "x") ∷ []; fair = tickets (ticket 3 2000 0 ∷ []) 3000 }

pub running_marked : step third (at 0 (set (codes "x"))) ≡ Accepted fourth (record (quiet 4 4) { changed = (0, Active 0 Ready) ∷ []; signals = 2 ∷ []; delta = text_stored 4 (codes "x") })
running_marked = answered y [] third x [] _ (sets (codes "br") (codes "x") (codes "x")) refl refl refl refl refl

pub fourth_states : states fourth ≡ Active 0 Ready ∷ []
fourth_states = states_are x [] fourth

-- ---- the marked job's text again: the queued job goes, and there is no other while the marked one lives

abbrev pub fifth : CoreState
fifth = record fourth { version = 5; inputs = value.Words (codes "y") ∷ []; jobs = lost ∷ []; fair = tickets [] 3000 }

pub none_beside : step fourth (at 0 (set (codes "y"))) ≡ Accepted fifth (record (quiet 5 4) { changed = (0, Active 0 Running) ∷ []; delta = text_stored 4 (codes "y") })
none_beside = answered x [] fourth y [] _ (sets (codes "br") (codes "x") (codes "y")) refl refl refl refl refl

pub fifth_states : states fifth ≡ Active 0 Running ∷ []
fifth_states = states_are y [] fifth

-- ---- the marked job ends well: it leaves no row, and the build has a new job

abbrev pub sixth : CoreState
sixth = record fifth { version = 6; next = 5; jobs = queued 4 (codes "y") ∷ []; fair = tickets (ticket 4 3000 0 ∷ []) 4000 }

pub result_dropped : step fifth (at 0 (ends 2 (codes "one\n"))) ≡ Accepted sixth (record (quiet 6 5) {
  note = note.Ended 2 ending.Dropped;
  changed = (0, Active 0 Ready) ∷ [];
  delta = record (next_alone 5) { log = Some (2, codes "one\n") };
})
result_dropped = answered y [] fifth y [] _ refl refl refl refl refl refl

pub sixth_states : states sixth ≡ Active 0 Ready ∷ []
sixth_states = states_are y [] sixth

pub ignored_then : step sixth (at 0 (ends 2 (codes "one\n"))) ≡ Idle (record (quiet 6 5) { note = note.Ignored })
unfolding step
ignored_then = refl

-- ---- the new job is cancelled: it leaves a failed row, and none follows

abbrev pub left : Row
left = row_left 4 (codes "y") false (codes "cancelled") 0

abbrev pub seventh : CoreState
seventh = record sixth { version = 7; rows = from_entries (keyed left ∷ []); jobs = []; fair = tickets [] 4000 }

pub queued_cancelled : step sixth (at 0 (what.Cancel 4)) ≡ Accepted seventh (record (quiet 7 5) { changed = (0, Failed 0 (codes "cancelled")) ∷ []; delta = record (next_alone 5) { put = Some left } })
queued_cancelled = answered y [] sixth y (keyed left ∷ []) _ refl refl refl refl refl refl

pub seventh_states : states seventh ≡ Failed 0 (codes "cancelled") ∷ []
seventh_states = states_are y (keyed left ∷ []) seventh

pub cancelled_once : step seventh (at 0 (what.Cancel 4)) ≡ Refused refusal.UnknownJob
unfolding step
cancelled_once = refl
