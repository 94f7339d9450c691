-- A worked run: a row is to be made anew, and is kept in view meanwhile where its operation is latched. States are named by their versions.
use Rattle.std.proofs.Common.{◌≡◌, Bool, true, false, [], ◌∷◌, Some, None, refl, ap, arith}
use Rattle.std.specs.Prelude.{codes, slice_index}
use Rattle.std.specs.Char.{encode_utf8}
use Rattle.std.specs.Str.{chars, is_utf8}
use Rattle.std.specs.FinMap.{from_entries, get-from_entries}
use Rattle.value_core.specs.declared.value.Value.TheVariants as value
use Rattle.value_core.specs.declared.state.State.TheVariants.{Fine, Active}
use Rattle.value_core.specs.declared.state.Stage.TheVariants.{Ready, Running}
use Rattle.op_keys.specs.declared.declarations.Expiry.TheVariants.{Never}
use Rattle.sched_rows.specs.declared.row.Row.{Row}
use Rattle.sched_rows.specs.RowKeys.{key_of, row_key_cmp_total}
use Rattle.core_rules.specs.declared.events.What.{What}
use Rattle.core_rules.specs.declared.events.What.TheVariants as what
use Rattle.core_rules.specs.declared.notes.Ending.TheVariants as ending
use Rattle.core_rules.specs.declared.notes.Note.TheVariants as note
use Rattle.core_rules.specs.Changes.{rebuild_row}
use Rattle.core_rules.specs.Core.{CoreState}
use Rattle.core_rules.specs.Entries.{states}
use Rattle.core_rules.specs.Replies.{next_alone}
use Rattle.core_rules.specs.Steps.{Accepted, change, step}
use Rattle.core_rules.proofs.OneBuild.{first, order, queued, row_left, running, text_x, ticket, tickets, with_text}
use Rattle.core_rules.proofs.ReplyParts.{other_text, unchanged}
use Rattle.core_rules.proofs.WorkedRuns.{Evaluated, answered, at, ends, keyed, over, quiet, states_are}

-- the pipeline with the text, latched or not
abbrev pub x : Bool → Evaluated
x latched = with_text Never latched text_x

-- ---- the first job of the pipeline, latched or not, leaves a row

abbrev pub opened : Bool → CoreState
opened latched = first Never latched None 0

abbrev pub second : Bool → CoreState
second latched = record (opened latched) { version = 2; jobs = running 1 (codes "x") ∷ []; fair = tickets [] 1000 }

pub taken : (latched : Bool) → step (opened latched) (at 0 (what.Take 0)) ≡ Accepted (second latched) (record (quiet 2 2) { note = note.Started (order 1 (codes "x")); changed = (0, Active 0 Running) ∷ [] })
taken latched = answered (x latched) [] (opened latched) (x latched) [] _ refl refl refl refl refl refl

abbrev pub one : Row
one = row_left 1 (codes "x") true (codes "one") 0

abbrev pub third : Bool → CoreState
third latched = record (second latched) { version = 3; rows = from_entries (keyed one ∷ []); jobs = [] }

pub ended : (latched : Bool) → step (second latched) (at 0 (ends 1 (codes "one\n"))) ≡ Accepted (third latched) (record (quiet 3 2) {
  note = note.Ended 1 ending.Fine;
  changed = (0, Fine (value.Words (codes "one"))) ∷ [];
  delta = record (next_alone 2) { put = Some one; log = Some (1, codes "one\n") };
})
unfolding is_utf8 chars encode_utf8
ended latched = answered (x latched) [] (second latched) (x latched) (keyed one ∷ []) _ refl refl refl refl refl refl

pub third_states : (latched : Bool) → states (third latched) ≡ Fine (value.Words (codes "one")) ∷ []
third_states latched = states_are (x latched) (keyed one ∷ []) (third latched)

-- ---- the row is marked, and its build has a job

-- the row is to be made anew
abbrev pub rebuild : What
rebuild = what.Rebuild (codes "test") (codes "x")

abbrev pub marked : Row
marked = record one { rebuild = true }

abbrev pub fourth : Bool → CoreState
fourth latched = record (third latched) { version = 4; rows = from_entries (keyed marked ∷ []); next = 3; jobs = queued 2 (codes "x") ∷ []; fair = tickets (ticket 2 1000 0 ∷ []) 2000 }

-- the row's own change
rebuilds : (latched : Bool) → change (third latched) rebuild ≡ rebuild_row (third latched) (key_of one) (Some one)
rebuilds latched = ap (rebuild_row (third latched) (key_of one)) (get-from_entries row_key_cmp_total (keyed one ∷ []) (key_of one))

-- a latched one's node stays as it is
pub kept_in_view : step (third true) (at 0 rebuild) ≡ Accepted (fourth true) (record (quiet 4 3) { delta = record (next_alone 3) { put = Some marked } })
kept_in_view = answered (x true) (keyed one ∷ []) (third true) (x true) (keyed marked ∷ []) _ (rebuilds true) (over (record (third true) { rows = from_entries (keyed marked ∷ []) }) marked one refl) refl refl refl (unchanged 0 (Fine (value.Words (codes "one")) ∷ []))

pub kept_states : states (fourth true) ≡ Fine (value.Words (codes "one")) ∷ []
kept_states = states_are (x true) (keyed marked ∷ []) (fourth true)

-- the other's is ready
pub out_of_view : step (third false) (at 0 rebuild) ≡ Accepted (fourth false) (record (quiet 4 3) { changed = (0, Active 0 Ready) ∷ []; delta = record (next_alone 3) { put = Some marked } })
out_of_view = answered (x false) (keyed one ∷ []) (third false) (x false) (keyed marked ∷ []) _ (rebuilds false) (over (record (third false) { rows = from_entries (keyed marked ∷ []) }) marked one refl) refl refl refl refl

pub ready_states : states (fourth false) ≡ Active 0 Ready ∷ []
ready_states = states_are (x false) (keyed marked ∷ []) (fourth false)

-- ---- the worker takes the job

abbrev pub fifth : Bool → CoreState
fifth latched = record (fourth latched) { version = 5; jobs = running 2 (codes "x") ∷ []; fair = tickets [] 2000 }

pub taken_in_view : step (fourth true) (at 0 (what.Take 0)) ≡ Accepted (fifth true) (record (quiet 5 3) { note = note.Started (order 2 (codes "x")) })
taken_in_view = answered (x true) (keyed marked ∷ []) (fourth true) (x true) (keyed marked ∷ []) _ refl refl refl refl refl (unchanged 0 (Fine (value.Words (codes "one")) ∷ []))

pub still_kept_states : states (fifth true) ≡ Fine (value.Words (codes "one")) ∷ []
still_kept_states = states_are (x true) (keyed marked ∷ []) (fifth true)

pub taken_out_of_view : step (fourth false) (at 0 (what.Take 0)) ≡ Accepted (fifth false) (record (quiet 5 3) { note = note.Started (order 2 (codes "x")); changed = (0, Active 0 Running) ∷ [] })
taken_out_of_view = answered (x false) (keyed marked ∷ []) (fourth false) (x false) (keyed marked ∷ []) _ refl refl refl refl refl refl

pub running_states : states (fifth false) ≡ Active 0 Running ∷ []
running_states = states_are (x false) (keyed marked ∷ []) (fifth false)

-- ---- the new row is seen

abbrev pub two : Row
two = row_left 2 (codes "x") true (codes "two") 0

abbrev pub sixth : Bool → CoreState
sixth latched = record (fifth latched) { version = 6; rows = from_entries (keyed two ∷ []); jobs = [] }

pub ended_anew : (latched : Bool) → step (fifth latched) (at 0 (ends 2 (codes "two\n"))) ≡ Accepted (sixth latched) (record (quiet 6 3) {
  note = note.Ended 2 ending.Fine;
  changed = (0, Fine (value.Words (codes "two"))) ∷ [];
  delta = record (next_alone 3) { put = Some two; log = Some (2, codes "two\n") };
})
unfolding is_utf8 chars encode_utf8
ended_anew true = answered (x true) (keyed marked ∷ []) (fifth true) (x true) (keyed two ∷ []) _ refl (over (record (sixth true) { version = 5 }) two marked refl) refl refl refl (other_text (codes "one") (codes "two") (λ e. omega (arith, ap (λ t. slice_index t 0) e)))
ended_anew false = answered (x false) (keyed marked ∷ []) (fifth false) (x false) (keyed two ∷ []) _ refl (over (record (sixth false) { version = 5 }) two marked refl) refl refl refl refl

pub new_states : (latched : Bool) → states (sixth latched) ≡ Fine (value.Words (codes "two")) ∷ []
new_states latched = states_are (x latched) (keyed two ∷ []) (sixth latched)
