-- A worked run: a row runs out 1,000 milliseconds after its end, and its build has a new job. States are named by their versions.
use Rattle.std.proofs.Common.{◌≡◌, true, false, [], ◌∷◌, Some, None, refl}
use Rattle.std.specs.Prelude.{codes}
use Rattle.std.specs.Char.{encode_utf8}
use Rattle.std.specs.Str.{chars, is_utf8}
use Rattle.std.specs.FinMap.{from_entries}
use Rattle.value_core.specs.declared.value.Value.TheVariants as value
use Rattle.value_core.specs.declared.state.State.TheVariants.{Fine, Active}
use Rattle.value_core.specs.declared.state.Stage.TheVariants.{Ready, Running}
use Rattle.op_keys.specs.declared.declarations.Expiry.{Expiry}
use Rattle.op_keys.specs.declared.declarations.Expiry.TheVariants.{After}
use Rattle.sched_rows.specs.declared.row.Row.{Row}
use Rattle.core_rules.specs.declared.events.What.TheVariants as what
use Rattle.core_rules.specs.declared.notes.Ending.TheVariants as ending
use Rattle.core_rules.specs.declared.notes.Note.TheVariants as note
use Rattle.core_rules.specs.Core.{CoreState}
use Rattle.core_rules.specs.Entries.{states}
use Rattle.core_rules.specs.Openings.{start}
use Rattle.core_rules.specs.Replies.{next_alone}
use Rattle.core_rules.specs.Steps.{Accepted, step}
use Rattle.core_rules.proofs.OneBuild.{first, order, pipeline_with, queued, row_left, running, text_x, ticket, tickets, with_text}
use Rattle.core_rules.proofs.ReplyParts.{unchanged}
use Rattle.core_rules.proofs.WorkedRuns.{Evaluated, answered, at, ends, keyed, nothing_stored, opens, over, quiet, states_are}

-- rows are valid for 1,000 milliseconds
abbrev pub for_a_second : Expiry
for_a_second = After 1000

abbrev pub x : Evaluated
x = with_text for_a_second false text_x

-- ---- the opening

abbrev pub opened : CoreState
opened = first for_a_second false None 5000

pub opening : start (pipeline_with for_a_second false) nothing_stored None 5000 ≡ Some opened
opening = opens x None 5000 refl refl

pub opened_states : states opened ≡ Active 0 Ready ∷ []
opened_states = states_are x [] opened

-- ---- the worker takes the job

abbrev pub second : CoreState
second = record opened { now = 6000; version = 2; jobs = running 1 (codes "x") ∷ []; fair = tickets [] 6000 }

pub taken : step opened (at 6000 (what.Take 0)) ≡ Accepted second (record (quiet 2 2) { note = note.Started (order 1 (codes "x")); changed = (0, Active 0 Running) ∷ [] })
taken = answered x [] opened x [] _ refl refl refl refl refl refl

pub second_states : states second ≡ Active 0 Running ∷ []
second_states = states_are x [] second

-- ---- the job leaves a row

abbrev pub one : Row
one = row_left 1 (codes "x") true (codes "one") 6000

abbrev pub third : CoreState
third = record second { version = 3; rows = from_entries (keyed one ∷ []); jobs = [] }

pub ended : step second (at 6000 (ends 1 (codes "one\n"))) ≡ Accepted third (record (quiet 3 2) {
  note = note.Ended 1 ending.Fine;
  changed = (0, Fine (value.Words (codes "one"))) ∷ [];
  delta = record (next_alone 2) { put = Some one; log = Some (1, codes "one\n") };
})
unfolding is_utf8 chars encode_utf8
ended = answered x [] second x (keyed one ∷ []) _ refl refl refl refl refl refl

pub third_states : states third ≡ Fine (value.Words (codes "one")) ∷ []
third_states = states_are x (keyed one ∷ []) third

-- ---- a millisecond before its end the row is valid

abbrev pub fourth : CoreState
fourth = record third { now = 6999; version = 4 }

pub still_valid : step third (at 6999 what.Tick) ≡ Accepted fourth (quiet 4 2)
still_valid = answered x (keyed one ∷ []) third x (keyed one ∷ []) _ refl refl refl refl refl (unchanged 0 (Fine (value.Words (codes "one")) ∷ []))

pub fourth_states : states fourth ≡ Fine (value.Words (codes "one")) ∷ []
fourth_states = states_are x (keyed one ∷ []) fourth

-- ---- an earlier reading doesn't set the moment back

abbrev pub fifth : CoreState
fifth = record fourth { version = 5 }

pub not_set_back : step fourth (at 6000 what.Tick) ≡ Accepted fifth (quiet 5 2)
not_set_back = answered x (keyed one ∷ []) fourth x (keyed one ∷ []) _ refl refl refl refl refl (unchanged 0 (Fine (value.Words (codes "one")) ∷ []))

pub fifth_states : states fifth ≡ Fine (value.Words (codes "one")) ∷ []
fifth_states = states_are x (keyed one ∷ []) fifth

-- ---- the row has run out: it stays where it is, and its build has a job

abbrev pub sixth : CoreState
sixth = record fifth { now = 7000; version = 6; next = 3; jobs = queued 2 (codes "x") ∷ []; fair = tickets (ticket 2 7000 7000 ∷ []) 8000 }

pub run_out : step fifth (at 7000 what.Tick) ≡ Accepted sixth (record (quiet 6 3) { changed = (0, Active 0 Ready) ∷ [] })
run_out = answered x (keyed one ∷ []) fifth x (keyed one ∷ []) _ refl refl refl refl refl refl

pub sixth_states : states sixth ≡ Active 0 Ready ∷ []
sixth_states = states_are x (keyed one ∷ []) sixth

-- ---- the worker takes that job; the old row stays, since the operation only builds

abbrev pub seventh : CoreState
seventh = record sixth { version = 7; jobs = running 2 (codes "x") ∷ []; fair = tickets [] 8000 }

pub taken_anew : step sixth (at 7000 (what.Take 0)) ≡ Accepted seventh (record (quiet 7 3) { note = note.Started (order 2 (codes "x")); changed = (0, Active 0 Running) ∷ [] })
taken_anew = answered x (keyed one ∷ []) sixth x (keyed one ∷ []) _ refl refl refl refl refl refl

pub seventh_states : states seventh ≡ Active 0 Running ∷ []
seventh_states = states_are x (keyed one ∷ []) seventh

-- ---- the new row stands in place of the old one

abbrev pub two : Row
two = row_left 2 (codes "x") true (codes "two") 7000

abbrev pub eighth : CoreState
eighth = record seventh { version = 8; rows = from_entries (keyed two ∷ []); jobs = [] }

pub ended_anew : step seventh (at 7000 (ends 2 (codes "two\n"))) ≡ Accepted eighth (record (quiet 8 3) {
  note = note.Ended 2 ending.Fine;
  changed = (0, Fine (value.Words (codes "two"))) ∷ [];
  delta = record (next_alone 3) { put = Some two; log = Some (2, codes "two\n") };
})
unfolding is_utf8 chars encode_utf8
ended_anew = answered x (keyed one ∷ []) seventh x (keyed two ∷ []) _ refl (over (record eighth { version = 7 }) two one refl) refl refl refl refl

pub eighth_states : states eighth ≡ Fine (value.Words (codes "two")) ∷ []
eighth_states = states_are x (keyed two ∷ []) eighth
