-- A worked run: a build that waits to be confirmed goes when another one is wanted in its place. States are named by their versions.
use Rattle.std.proofs.Common.{◌≡◌, true, false, [], ◌∷◌, Some, refl}
use Rattle.std.specs.Prelude.{codes}
use Rattle.std.specs.Char.{encode_utf8}
use Rattle.std.specs.Str.{chars, is_utf8}
use Rattle.std.specs.FinMap.{from_entries}
use Rattle.value_core.specs.declared.value.Value.TheVariants as value
use Rattle.value_core.specs.declared.state.State.TheVariants.{Fine, Active}
use Rattle.value_core.specs.declared.state.Stage.TheVariants.{Ready, Running}
use Rattle.op_keys.specs.declared.declarations.Expiry.TheVariants.{Never}
use Rattle.op_keys.specs.declared.level.Level.TheVariants.{Average}
use Rattle.sched_rows.specs.declared.row.Row.{Row}
use Rattle.core_rules.specs.declared.events.Refusal.TheVariants as refusal
use Rattle.core_rules.specs.declared.events.What.TheVariants as what
use Rattle.core_rules.specs.declared.notes.Ending.TheVariants as ending
use Rattle.core_rules.specs.declared.notes.Note.TheVariants as note
use Rattle.core_rules.specs.Core.{CoreState}
use Rattle.core_rules.specs.Openings.{start}
use Rattle.core_rules.specs.declared.done.Done.{Done}
use Rattle.core_rules.specs.Replies.{next_alone}
use Rattle.core_rules.specs.Steps.{Accepted, Refused, step}
use Rattle.core_rules.proofs.OneBuild.{first, order, pipeline, queued, row_left, running, set, text_stored, ticket, tickets, x, y}
use Rattle.core_rules.proofs.ReplyParts.{sets}
use Rattle.core_rules.proofs.WorkedRuns.{answered, at, ends, keyed, nothing_stored, opens, quiet}

-- ---- the build waits

abbrev pub opened : CoreState
opened = first Never false (Some Average) 0

pub opening : start pipeline nothing_stored (Some Average) 0 ≡ Some opened
opening = opens x (Some Average) 0 refl refl

-- ---- another one is wanted: the first goes

abbrev pub second : CoreState
second = record opened { version = 2; inputs = value.Words (codes "y") ∷ []; next = 3; jobs = queued 2 (codes "y") ∷ []; fair = tickets (ticket 2 1000 0 ∷ []) 2000 }

abbrev pub setting_y : Done
setting_y = record (quiet 2 3) { delta = text_stored 3 (codes "y") }

pub sets_y : step opened (at 0 (set (codes "y"))) ≡ Accepted second setting_y
sets_y = answered x [] opened y [] _ (sets (codes "br") (codes "x") (codes "y")) refl refl refl refl refl

-- ---- and back: it has a new job

abbrev pub third : CoreState
third = record second { version = 3; inputs = value.Words (codes "x") ∷ []; next = 4; jobs = queued 3 (codes "x") ∷ []; fair = tickets (ticket 3 2000 0 ∷ []) 3000 }

abbrev pub setting_x : Done
setting_x = record (quiet 3 4) { delta = text_stored 4 (codes "x") }

pub sets_x : step second (at 0 (set (codes "x"))) ≡ Accepted third setting_x
sets_x = answered y [] second x [] _ (sets (codes "br") (codes "x") (codes "x")) refl refl refl refl refl

-- the first job is no longer there
pub unknown : step third (at 0 (what.Confirm 1)) ≡ Refused refusal.UnknownJob
unfolding step
unknown = refl

-- ---- the job is confirmed and run

abbrev pub fourth : CoreState
fourth = record third { version = 4; jobs = record (queued 3 (codes "x")) { confirmed = true } ∷ [] }

abbrev pub confirming : Done
confirming = record (quiet 4 4) { changed = (0, Active 0 Ready) ∷ [] }

pub confirms : step third (at 0 (what.Confirm 3)) ≡ Accepted fourth confirming
confirms = answered x [] third x [] _ refl refl refl refl refl refl

abbrev pub fifth : CoreState
fifth = record fourth { version = 5; jobs = record (running 3 (codes "x")) { confirmed = true } ∷ []; fair = tickets [] 3000 }

abbrev pub taking : Done
taking = record (quiet 5 4) { note = note.Started (order 3 (codes "x")); changed = (0, Active 0 Running) ∷ [] }

pub takes : step fourth (at 0 (what.Take 0)) ≡ Accepted fifth taking
takes = answered x [] fourth x [] _ refl refl refl refl refl refl

abbrev pub left : Row
left = row_left 3 (codes "x") true (codes "one") 0

abbrev pub sixth : CoreState
sixth = record fifth { version = 6; rows = from_entries (keyed left ∷ []); jobs = [] }

abbrev pub ending_one : Done
ending_one = record (quiet 6 4) {
  note = note.Ended 3 ending.Fine;
  changed = (0, Fine (value.Words (codes "one"))) ∷ [];
  delta = record (next_alone 4) { put = Some left; log = Some (3, codes "one\n") };
}

pub ends_one : step fifth (at 0 (ends 3 (codes "one\n"))) ≡ Accepted sixth ending_one
unfolding is_utf8 chars encode_utf8
ends_one = answered x [] fifth x (keyed left ∷ []) _ refl refl refl refl refl refl
