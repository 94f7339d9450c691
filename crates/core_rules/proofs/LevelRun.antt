-- A worked run: whether a job waits follows the threshold of the moment, and a confirmed one may start all the same. States are named by their versions.
use Rattle.std.proofs.Common.{◌≡◌, true, false, [], ◌∷◌, Some, None, refl}
use Rattle.std.specs.Prelude.{codes}
use Rattle.std.specs.Char.{encode_utf8}
use Rattle.std.specs.Str.{chars, is_utf8}
use Rattle.std.specs.FinMap.{from_entries}
use Rattle.value_core.specs.declared.value.Value.TheVariants as value
use Rattle.value_core.specs.declared.state.State.TheVariants.{Fine, Active}
use Rattle.value_core.specs.declared.state.Stage.TheVariants.{Ready, Waiting, Running}
use Rattle.op_keys.specs.declared.declarations.Expiry.TheVariants.{Never}
use Rattle.op_keys.specs.declared.level.Level.TheVariants.{Average}
use Rattle.sched_rows.specs.declared.row.Row.{Row}
use Rattle.core_rules.specs.declared.events.What.TheVariants as what
use Rattle.core_rules.specs.declared.notes.Ending.TheVariants as ending
use Rattle.core_rules.specs.declared.notes.Note.TheVariants as note
use Rattle.core_rules.specs.Core.{CoreState}
use Rattle.core_rules.specs.Entries.{states}
use Rattle.core_rules.specs.Openings.{start}
use Rattle.core_rules.specs.Replies.{next_alone}
use Rattle.core_rules.specs.Steps.{Idle, Accepted, step}
use Rattle.core_rules.proofs.OneBuild.{first, order, pipeline, queued, row_left, running, ticket, tickets, x}
use Rattle.core_rules.proofs.WorkedRuns.{answered, at, ends, keyed, nothing_stored, opens, quiet, states_are}

-- ---- the opening under the operation's level: the job waits

abbrev pub opened : CoreState
opened = first Never false (Some Average) 0

pub opening : start pipeline nothing_stored (Some Average) 0 ≡ Some opened
opening = opens x (Some Average) 0 refl refl

pub opened_states : states opened ≡ Active 0 Waiting ∷ []
opened_states = states_are x [] opened

-- ---- the worker is paused

abbrev pub second : CoreState
second = record opened { version = 2; fair = record (tickets (ticket 1 0 0 ∷ []) 1000) { paused = true ∷ [] } }

pub paused : step opened (at 0 (what.Pause (codes "w"))) ≡ Accepted second (quiet 2 2)
paused = answered x [] opened x [] _ refl refl refl refl refl refl

-- ---- without a threshold the job is ready

abbrev pub third : CoreState
third = record second { version = 3; threshold = None }

pub let_go : step second (at 0 (what.SetLevel None)) ≡ Accepted third (record (quiet 3 2) { changed = (0, Active 0 Ready) ∷ [] })
let_go = answered x [] second x [] _ refl refl refl refl refl refl

pub third_states : states third ≡ Active 0 Ready ∷ []
third_states = states_are x [] third

-- ---- under the level again the same job waits again

abbrev pub fourth : CoreState
fourth = record third { version = 4; threshold = Some Average }

pub held_back : step third (at 0 (what.SetLevel (Some Average))) ≡ Accepted fourth (record (quiet 4 2) { changed = (0, Active 0 Waiting) ∷ [] })
held_back = answered x [] third x [] _ refl refl refl refl refl refl

pub fourth_states : states fourth ≡ Active 0 Waiting ∷ []
fourth_states = states_are x [] fourth

-- ---- the worker is no longer paused

abbrev pub fifth : CoreState
fifth = record fourth { version = 5; fair = tickets (ticket 1 0 0 ∷ []) 1000 }

pub resumed : step fourth (at 0 (what.Resume (codes "w"))) ≡ Accepted fifth (quiet 5 2)
resumed = answered x [] fourth x [] _ refl refl refl refl refl refl

-- a job that waits isn't taken
pub none_taken : step fifth (at 0 (what.Take 0)) ≡ Idle (record (quiet 5 2) { note = note.Nothing })
unfolding step
none_taken = refl

-- ---- the job is confirmed, and ready

abbrev pub sixth : CoreState
sixth = record fifth { version = 6; jobs = record (queued 1 (codes "x")) { confirmed = true } ∷ [] }

pub confirmed : step fifth (at 0 (what.Confirm 1)) ≡ Accepted sixth (record (quiet 6 2) { changed = (0, Active 0 Ready) ∷ [] })
confirmed = answered x [] fifth x [] _ refl refl refl refl refl refl

pub sixth_states : states sixth ≡ Active 0 Ready ∷ []
sixth_states = states_are x [] sixth

-- ---- the worker takes it

abbrev pub seventh : CoreState
seventh = record sixth { version = 7; jobs = record (running 1 (codes "x")) { confirmed = true } ∷ []; fair = tickets [] 1000 }

pub taken : step sixth (at 0 (what.Take 0)) ≡ Accepted seventh (record (quiet 7 2) { note = note.Started (order 1 (codes "x")); changed = (0, Active 0 Running) ∷ [] })
taken = answered x [] sixth x [] _ refl refl refl refl refl refl

pub seventh_states : states seventh ≡ Active 0 Running ∷ []
seventh_states = states_are x [] seventh

-- ---- the job ends well

abbrev pub left : Row
left = row_left 1 (codes "x") true (codes "one") 0

abbrev pub eighth : CoreState
eighth = record seventh { version = 8; rows = from_entries (keyed left ∷ []); jobs = [] }

pub ended : step seventh (at 0 (ends 1 (codes "one\n"))) ≡ Accepted eighth (record (quiet 8 2) {
  note = note.Ended 1 ending.Fine;
  changed = (0, Fine (value.Words (codes "one"))) ∷ [];
  delta = record (next_alone 2) { put = Some left; log = Some (1, codes "one\n") };
})
unfolding is_utf8 chars encode_utf8
ended = answered x [] seventh x (keyed left ∷ []) _ refl refl refl refl refl refl

pub eighth_states : states eighth ≡ Fine (value.Words (codes "one")) ∷ []
eighth_states = states_are x (keyed left ∷ []) eighth
