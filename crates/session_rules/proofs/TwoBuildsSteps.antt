-- A worked run: a node builds the input's text, which is set to another one and back. States are named by their versions.
use Rattle.std.proofs.Common.{◌≡◌, true, false, [], ◌∷◌, Some, None, refl, ap, arith}
use Rattle.std.specs.Prelude.{codes, slice_index}
use Rattle.std.specs.Char.{encode_utf8}
use Rattle.std.specs.Str.{chars, is_utf8}
use Rattle.std.specs.FinMap.{from_entries}
use Rattle.value_core.specs.declared.value.Value.TheVariants as value
use Rattle.value_core.specs.declared.state.State.TheVariants.{Fine, Active}
use Rattle.value_core.specs.declared.state.Stage.TheVariants.{Ready, Running}
use Rattle.op_keys.specs.declared.declarations.Expiry.TheVariants.{Never}
use Rattle.sched_rows.specs.declared.row.Row.{Row}
use Rattle.core_rules.specs.declared.events.What.TheVariants as what
use Rattle.core_rules.specs.declared.notes.Ending.TheVariants as ending
use Rattle.core_rules.specs.declared.notes.Note.TheVariants as note
use Rattle.core_rules.specs.Core.{CoreState}
use Rattle.core_rules.specs.Entries.{states}
use Rattle.core_rules.specs.Openings.{start}
use Rattle.core_rules.specs.declared.done.Done.{Done}
use Rattle.core_rules.specs.Replies.{next_alone}
use Rattle.core_rules.specs.Steps.{Accepted, step}
use Rattle.core_rules.proofs.OneBuild.{first, order, pipeline, queued, row_left, running, set, text_stored, ticket, tickets, x, y}
use Rattle.core_rules.proofs.ReplyParts.{other_text, sets}
use Rattle.core_rules.proofs.WorkedRuns.{answered, at, ends, keyed, nothing_stored, opens, quiet, states_are}

-- ---- version 1

abbrev pub opened : CoreState
opened = first Never false None 0

pub opening : start pipeline nothing_stored None 0 ≡ Some opened
opening = opens x None 0 refl refl

pub opened_states : states opened ≡ Active 0 Ready ∷ []
opened_states = states_are x [] opened

-- ---- the first order

abbrev pub second : CoreState
second = record opened { version = 2; jobs = running 1 (codes "x") ∷ []; fair = tickets [] 1000 }

abbrev pub taking : Done
taking = record (quiet 2 2) { note = note.Started (order 1 (codes "x")); changed = (0, Active 0 Running) ∷ [] }

pub takes : step opened (at 0 (what.Take 0)) ≡ Accepted second taking
takes = answered x [] opened x [] _ refl refl refl refl refl refl

abbrev pub one : Row
one = row_left 1 (codes "x") true (codes "one") 0

abbrev pub third : CoreState
third = record second { version = 3; rows = from_entries (keyed one ∷ []); jobs = [] }

abbrev pub ending_one : Done
ending_one = record (quiet 3 2) {
  note = note.Ended 1 ending.Fine;
  changed = (0, Fine (value.Words (codes "one"))) ∷ [];
  delta = record (next_alone 2) { put = Some one; log = Some (1, codes "one\n") };
}

pub ends_one : step second (at 0 (ends 1 (codes "one\n"))) ≡ Accepted third ending_one
unfolding is_utf8 chars encode_utf8
ends_one = answered x [] second x (keyed one ∷ []) _ refl refl refl refl refl refl

-- ---- another text

abbrev pub fourth : CoreState
fourth = record third { version = 4; inputs = value.Words (codes "y") ∷ []; next = 3; jobs = queued 2 (codes "y") ∷ []; fair = tickets (ticket 2 1000 0 ∷ []) 2000 }

abbrev pub setting_y : Done
setting_y = record (quiet 4 3) { changed = (0, Active 0 Ready) ∷ []; delta = text_stored 3 (codes "y") }

pub sets_y : step third (at 0 (set (codes "y"))) ≡ Accepted fourth setting_y
sets_y = answered x (keyed one ∷ []) third y (keyed one ∷ []) _ (sets (codes "br") (codes "x") (codes "y")) refl refl refl refl refl

-- ---- the second order

abbrev pub fifth : CoreState
fifth = record fourth { version = 5; jobs = running 2 (codes "y") ∷ []; fair = tickets [] 2000 }

abbrev pub taking_y : Done
taking_y = record (quiet 5 3) { note = note.Started (order 2 (codes "y")); changed = (0, Active 0 Running) ∷ [] }

pub takes_y : step fourth (at 0 (what.Take 0)) ≡ Accepted fifth taking_y
takes_y = answered y (keyed one ∷ []) fourth y (keyed one ∷ []) _ refl refl refl refl refl refl

abbrev pub two : Row
two = row_left 2 (codes "y") true (codes "two") 0

abbrev pub sixth : CoreState
sixth = record fifth { version = 6; rows = from_entries (keyed two ∷ keyed one ∷ []); jobs = [] }

abbrev pub ending_two : Done
ending_two = record (quiet 6 3) {
  note = note.Ended 2 ending.Fine;
  changed = (0, Fine (value.Words (codes "two"))) ∷ [];
  delta = record (next_alone 3) { put = Some two; log = Some (2, codes "two\n") };
}

pub ends_two : step fifth (at 0 (ends 2 (codes "two\n"))) ≡ Accepted sixth ending_two
unfolding is_utf8 chars encode_utf8
ends_two = answered y (keyed one ∷ []) fifth y (keyed two ∷ keyed one ∷ []) _ refl refl refl refl refl refl

-- ---- back to the first text, whose row is still valid

abbrev pub seventh : CoreState
seventh = record sixth { version = 7; inputs = value.Words (codes "x") ∷ [] }

abbrev pub setting_x : Done
setting_x = record (quiet 7 3) { changed = (0, Fine (value.Words (codes "one"))) ∷ []; delta = text_stored 3 (codes "x") }

pub sets_x : step sixth (at 0 (set (codes "x"))) ≡ Accepted seventh setting_x
sets_x = answered y (keyed two ∷ keyed one ∷ []) sixth x (keyed two ∷ keyed one ∷ []) _ (sets (codes "br") (codes "x") (codes "x")) refl refl refl refl (other_text (codes "two") (codes "one") (λ e. omega (arith, ap (λ t. slice_index t 0) e)))
