-- A worked run: two nodes set one key to different values, and the row of the one goes when the order for the other is taken. States are named by their versions.
use Rattle.std.proofs.Common.{◌≡◌, [], ◌∷◌, Some, None, refl, ap}
use Rattle.std.specs.Prelude.{codes}
use Rattle.std.specs.Char.{encode_utf8}
use Rattle.std.specs.Str.{chars, is_utf8}
use Rattle.std.specs.FinMap.{empty, from_entries}
use Rattle.value_core.specs.declared.value.Value.TheVariants as value
use Rattle.value_core.specs.declared.state.State.TheVariants.{Active}
use Rattle.value_core.specs.declared.state.Stage.TheVariants.{Ready, Running}
use Rattle.value_core.specs.Printed.{printed}
use Rattle.sched_rows.specs.declared.row.Row.{Row}
use Rattle.sched_rows.specs.RowKeys.{row_key_cmp_total}
use Rattle.sched_rows.proofs.KeyOrders.{row_key_cmp_tells}
use Rattle.core_rules.specs.declared.events.What.TheVariants as what
use Rattle.core_rules.specs.declared.notes.Ending.TheVariants as ending
use Rattle.core_rules.specs.declared.notes.Note.TheVariants as note
use Rattle.core_rules.specs.Core.{CoreState}
use Rattle.core_rules.specs.Entries.{states}
use Rattle.core_rules.specs.Openings.{start}
use Rattle.core_rules.specs.Replies.{next_alone}
use Rattle.core_rules.specs.Steps.{Accepted, step}
use Rattle.core_rules.proofs.FewEntries.{none_out, one_out}
use Rattle.core_rules.proofs.OneBuild.{ticket, tickets}
use Rattle.core_rules.proofs.ReplyParts.{sets, unchanged}
use Rattle.core_rules.proofs.WorkedRuns.{answered, at, ends, keyed, nothing_stored, opens, quiet, states_are}
use Rattle.core_rules.proofs.SharedKey.{done, of_key, order, other, pipeline, queued, row_left, running, same}

-- ---- the opening: both nodes want the same, and there is one job

abbrev pub opened : CoreState
opened = record {
  program = pipeline;
  threshold = None;
  now = 0;
  version = 1;
  inputs = value.Words (codes "v1") ∷ [];
  rows = empty;
  next = 2;
  jobs = queued 1 (codes "v1") ∷ [];
  fair = tickets (ticket 1 0 0 ∷ []) 1000;
}

pub opening : start pipeline nothing_stored None 0 ≡ Some opened
opening = opens same None 0 refl refl

pub opened_states : states opened ≡ Active 0 Ready ∷ Active 1 Ready ∷ []
opened_states = states_are same [] opened

-- ---- the worker takes the job

abbrev pub second : CoreState
second = record opened { version = 2; jobs = running 1 (codes "v1") ∷ []; fair = tickets [] 1000 }

pub taken : step opened (at 0 (what.Take 0)) ≡ Accepted second (record (quiet 2 2) {
  note = note.Started (order 1 (codes "v1"));
  changed = (0, Active 0 Running) ∷ (1, Active 1 Running) ∷ [];
  delta = record (next_alone 2) { void = Some (codes "put", codes "k") };
})
taken = answered same [] opened same [] _ refl (ap (λ rows. record second { version = 1; rows = rows }) (none_out row_key_cmp_total row_key_cmp_tells of_key)) refl refl refl refl

pub second_states : states second ≡ Active 0 Running ∷ Active 1 Running ∷ []
second_states = states_are same [] second

-- ---- the job ends well, and both nodes have what they want

-- the row for `v1`
abbrev pub row_same : Row
row_same = row_left 1 (codes "v1")

abbrev pub third : CoreState
third = record second { version = 3; rows = from_entries (keyed row_same ∷ []); jobs = [] }

pub ended : step second (at 0 (ends 1 (codes "one\n"))) ≡ Accepted third (record (quiet 3 2) {
  note = note.Ended 1 ending.Fine;
  changed = (0, done) ∷ (1, done) ∷ [];
  delta = record (next_alone 2) { put = Some row_same; log = Some (1, codes "one\n") };
})
unfolding is_utf8 chars encode_utf8
ended = answered same [] second same (keyed row_same ∷ []) _ refl refl refl refl refl refl

pub third_states : states third ≡ done ∷ done ∷ []
third_states = states_are same (keyed row_same ∷ []) third

-- ---- the input has another text: there are two wanted values, and the lesser has a job

abbrev pub fourth : CoreState
fourth = record third { version = 4; inputs = value.Words (codes "v0") ∷ []; next = 3; jobs = queued 2 (codes "v0") ∷ []; fair = tickets (ticket 2 1000 0 ∷ []) 2000 }

pub set_apart : step third (at 0 (what.SetInput (codes "a") (value.Words (codes "v0")))) ≡ Accepted fourth (record (quiet 4 3) {
  changed = (0, Active 0 Ready) ∷ [];
  conflicts = (0, codes "k") ∷ [];
  delta = record (next_alone 3) { input = Some (codes "a", printed (value.Words (codes "v0"))) };
})
set_apart = answered same (keyed row_same ∷ []) third other (keyed row_same ∷ []) _ (sets (codes "a") (codes "v1") (codes "v0")) refl refl refl refl (ap (λ later. (0, Active 0 Ready) ∷ later) (unchanged 1 (done ∷ [])))

pub fourth_states : states fourth ≡ Active 0 Ready ∷ done ∷ []
fourth_states = states_are other (keyed row_same ∷ []) fourth

-- ---- the worker takes that job: the row goes, and the other node's value is no longer set

abbrev pub fifth : CoreState
fifth = record fourth { version = 5; rows = empty; jobs = running 2 (codes "v0") ∷ []; fair = tickets [] 2000 }

pub row_voided : step fourth (at 0 (what.Take 0)) ≡ Accepted fifth (record (quiet 5 3) {
  note = note.Started (order 2 (codes "v0"));
  changed = (0, Active 0 Running) ∷ (1, Active 1 Ready) ∷ [];
  delta = record (next_alone 3) { void = Some (codes "put", codes "k") };
})
row_voided = answered other (keyed row_same ∷ []) fourth other [] _ refl (ap (λ rows. record fifth { version = 4; rows = rows }) (one_out row_key_cmp_total row_key_cmp_tells of_key row_same)) refl refl refl refl

pub fifth_states : states fifth ≡ Active 0 Running ∷ Active 1 Ready ∷ []
fifth_states = states_are other [] fifth

-- ---- the job ends well, and one node has what it wants

-- the row for `v0`
abbrev pub row_other : Row
row_other = row_left 2 (codes "v0")

abbrev pub sixth : CoreState
sixth = record fifth { version = 6; rows = from_entries (keyed row_other ∷ []); jobs = [] }

pub ended_apart : step fifth (at 0 (ends 2 (codes "two\n"))) ≡ Accepted sixth (record (quiet 6 3) {
  note = note.Ended 2 ending.Fine;
  changed = (0, done) ∷ [];
  delta = record (next_alone 3) { put = Some row_other; log = Some (2, codes "two\n") };
})
unfolding is_utf8 chars encode_utf8
ended_apart = answered other [] fifth other (keyed row_other ∷ []) _ refl refl refl refl refl refl

pub sixth_states : states sixth ≡ done ∷ Active 1 Ready ∷ []
sixth_states = states_are other (keyed row_other ∷ []) sixth
