-- A worked run: two nodes want one key to have different values, and then one. States are named by their versions.
use Rattle.std.proofs.Common.{◌≡◌, [], ◌∷◌, Some, None, refl, ap}
use Rattle.std.specs.Prelude.{codes}
use Rattle.std.specs.Char.{encode_utf8}
use Rattle.std.specs.Str.{chars, is_utf8}
use Rattle.std.specs.FinMap.{empty, from_entries}
use Rattle.value_core.specs.declared.value.Value.TheVariants as value
use Rattle.value_core.specs.declared.state.State.TheVariants.{Active}
use Rattle.value_core.specs.declared.state.Stage.TheVariants.{Ready, Running}
use Rattle.value_core.specs.Printed.{printed}
use Rattle.sched_rows.specs.declared.row.Row.{Row}
use Rattle.sched_rows.specs.RowKeys.{row_key_cmp_total}
use Rattle.sched_rows.proofs.KeyOrders.{row_key_cmp_tells}
use Rattle.core_rules.specs.declared.events.What.TheVariants as what
use Rattle.core_rules.specs.declared.notes.Ending.TheVariants as ending
use Rattle.core_rules.specs.declared.notes.Note.TheVariants as note
use Rattle.core_rules.specs.Core.{CoreState}
use Rattle.core_rules.specs.Openings.{start}
use Rattle.core_rules.specs.declared.done.Done.{Done}
use Rattle.core_rules.specs.Replies.{next_alone}
use Rattle.core_rules.specs.Steps.{Accepted, step}
use Rattle.core_rules.proofs.FewEntries.{none_out, one_out}
use Rattle.core_rules.proofs.OneBuild.{ticket, tickets}
use Rattle.core_rules.proofs.ReplyParts.{sets}
use Rattle.core_rules.proofs.SharedKey.{done, of_key, order, queued, row_left, running}
use Rattle.core_rules.proofs.WorkedRuns.{answered, at, ends, keyed, nothing_stored, opens, quiet}
use Rattle.session_rules.proofs.TwoInputs.{alike, apart, pipeline}

-- ---- two values of one key: the lesser has a job

abbrev pub opened : CoreState
opened = record {
  program = pipeline;
  threshold = None;
  now = 0;
  version = 1;
  inputs = value.Words (codes "v1") ∷ value.Words (codes "v2") ∷ [];
  rows = empty;
  next = 2;
  jobs = queued 1 (codes "v1") ∷ [];
  fair = tickets (ticket 1 0 0 ∷ []) 1000;
}

pub opening : start pipeline nothing_stored None 0 ≡ Some opened
opening = opens apart None 0 refl refl

-- ---- its order

abbrev pub second : CoreState
second = record opened { version = 2; jobs = running 1 (codes "v1") ∷ []; fair = tickets [] 1000 }

abbrev pub taking : Done
taking = record (quiet 2 2) { note = note.Started (order 1 (codes "v1")); changed = (0, Active 0 Running) ∷ []; delta = record (next_alone 2) { void = Some (codes "put", codes "k") } }

pub takes : step opened (at 0 (what.Take 0)) ≡ Accepted second taking
takes = answered apart [] opened apart [] _ refl (ap (λ rows. record second { version = 1; rows = rows }) (none_out row_key_cmp_total row_key_cmp_tells of_key)) refl refl refl refl

abbrev pub one : Row
one = row_left 1 (codes "v1")

abbrev pub third : CoreState
third = record second { version = 3; rows = from_entries (keyed one ∷ []); jobs = [] }

abbrev pub ending_one : Done
ending_one = record (quiet 3 2) { note = note.Ended 1 ending.Fine; changed = (0, done) ∷ []; delta = record (next_alone 2) { put = Some one; log = Some (1, codes "one\n") } }

pub ends_one : step second (at 0 (ends 1 (codes "one\n"))) ≡ Accepted third ending_one
unfolding is_utf8 chars encode_utf8
ends_one = answered apart [] second apart (keyed one ∷ []) _ refl refl refl refl refl refl

-- ---- both want the other value

abbrev pub fourth : CoreState
fourth = record third { version = 4; inputs = value.Words (codes "v2") ∷ value.Words (codes "v2") ∷ []; next = 3; jobs = queued 2 (codes "v2") ∷ []; fair = tickets (ticket 2 1000 0 ∷ []) 2000 }

abbrev pub setting_a : Done
setting_a = record (quiet 4 3) { changed = (0, Active 0 Ready) ∷ []; delta = record (next_alone 3) { input = Some (codes "a", printed (value.Words (codes "v2"))) } }

pub sets_a : step third (at 0 (what.SetInput (codes "a") (value.Words (codes "v2")))) ≡ Accepted fourth setting_a
sets_a = answered apart (keyed one ∷ []) third alike (keyed one ∷ []) _ (sets (codes "a") (codes "v1") (codes "v2")) refl refl refl refl refl

-- ---- its order: the row goes

abbrev pub fifth : CoreState
fifth = record fourth { version = 5; rows = empty; jobs = running 2 (codes "v2") ∷ []; fair = tickets [] 2000 }

abbrev pub taking_other : Done
taking_other = record (quiet 5 3) { note = note.Started (order 2 (codes "v2")); changed = (0, Active 0 Running) ∷ (1, Active 1 Running) ∷ []; delta = record (next_alone 3) { void = Some (codes "put", codes "k") } }

pub takes_other : step fourth (at 0 (what.Take 0)) ≡ Accepted fifth taking_other
takes_other = answered alike (keyed one ∷ []) fourth alike [] _ refl (ap (λ rows. record fifth { version = 4; rows = rows }) (one_out row_key_cmp_total row_key_cmp_tells of_key one)) refl refl refl refl

abbrev pub two : Row
two = row_left 2 (codes "v2")

abbrev pub sixth : CoreState
sixth = record fifth { version = 6; rows = from_entries (keyed two ∷ []); jobs = [] }

abbrev pub ending_two : Done
ending_two = record (quiet 6 3) { note = note.Ended 2 ending.Fine; changed = (0, done) ∷ (1, done) ∷ []; delta = record (next_alone 3) { put = Some two; log = Some (2, codes "two\n") } }

pub ends_two : step fifth (at 0 (ends 2 (codes "two\n"))) ≡ Accepted sixth ending_two
unfolding is_utf8 chars encode_utf8
ends_two = answered alike [] fifth alike (keyed two ∷ []) _ refl refl refl refl refl refl
