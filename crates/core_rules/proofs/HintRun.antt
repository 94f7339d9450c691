-- A worked run: a job waits for the worker of its hint, unless that one is paused.
use Rattle.std.proofs.Common.{◌≡◌, true, false, [], ◌∷◌, Some, None, refl, ap}
use Rattle.std.specs.Prelude.{codes}
use Rattle.std.specs.Char.{encode_utf8}
use Rattle.std.specs.Str.{chars, is_utf8}
use Rattle.std.specs.FinMap.{empty, from_entries}
use Rattle.value_core.specs.declared.value.Value.TheVariants as value
use Rattle.value_core.specs.declared.state.State.TheVariants.{Fine, Active}
use Rattle.value_core.specs.declared.state.Stage.TheVariants.{Ready, Running}
use Rattle.value_core.specs.Printed.{printed}
use Rattle.sched_rows.specs.declared.row.Row.{Row}
use Rattle.core_rules.specs.declared.events.What.TheVariants as what
use Rattle.core_rules.specs.declared.notes.Ending.TheVariants as ending
use Rattle.core_rules.specs.declared.notes.Note.TheVariants as note
use Rattle.core_rules.specs.Core.{CoreState}
use Rattle.core_rules.specs.Openings.{start}
use Rattle.core_rules.specs.Orders.{picked, take_pick}
use Rattle.core_rules.specs.Replies.{next_alone}
use Rattle.core_rules.specs.Steps.{Accepted, step}
use Rattle.core_rules.proofs.ReplyParts.{sets, unchanged}
use Rattle.core_rules.proofs.WorkedRuns.{answered, at, ends, keyed, nothing_stored, opens, quiet}
use Rattle.core_rules.proofs.HintedBuild.{costed, order, picks, pipeline, pool, queued, row_left, running, set, text_1, text_2, text_3, text_4, ticket}

-- ---- the opening: either worker may take the first job

abbrev pub opened : CoreState
opened = record {
  program = pipeline;
  threshold = None;
  now = 0;
  version = 1;
  inputs = value.Words (codes "1") ∷ [];
  rows = empty;
  next = 2;
  jobs = queued 1 (codes "1") ∷ [];
  fair = pool (ticket 1 0 ∷ []) 10000 (false ∷ false ∷ []) [];
}

pub opening : start pipeline nothing_stored None 0 ≡ Some opened
opening = opens text_1 None 0 refl (costed opened 0 [])

pub first_for_w1 : picked opened 0 ≡ Some 1
first_for_w1 = picks opened 1 0 [] 0

pub first_for_w2 : picked opened 1 ≡ Some 1
first_for_w2 = picks opened 1 0 [] 1

-- ---- w1 takes it, and has the hint

abbrev pub first_runs : CoreState
first_runs = record opened { version = 2; jobs = running 0 1 (codes "1") ∷ []; fair = pool [] 10000 (false ∷ false ∷ []) (0 ∷ []) }

pub first_taken : step opened (at 0 (what.Take 0)) ≡ Accepted first_runs (record (quiet 2 2) { note = note.Started (order 0 1 (codes "1")); changed = (0, Active 0 Running) ∷ [] })
first_taken = answered text_1 [] opened text_1 [] _ (ap (take_pick opened 0) first_for_w1) refl refl refl refl refl

abbrev pub row_1 : Row
row_1 = row_left 1 (codes "1") (codes "one")

abbrev pub first_done : CoreState
first_done = record first_runs { version = 3; rows = from_entries (keyed row_1 ∷ []); jobs = [] }

pub first_ended : step first_runs (at 0 (ends 1 (codes "one\n"))) ≡ Accepted first_done (record (quiet 3 2) {
  note = note.Ended 1 ending.Fine;
  changed = (0, Fine (value.Words (codes "one"))) ∷ [];
  delta = record (next_alone 2) { put = Some row_1; log = Some (1, codes "one\n") };
})
unfolding is_utf8 chars encode_utf8
first_ended = answered text_1 [] first_runs text_1 (keyed row_1 ∷ []) _ refl refl refl refl refl refl

-- ---- w1 is paused: w2 may take the second job, though w1 has its hint

abbrev pub without_w1 : CoreState
without_w1 = record first_done { version = 4; fair = pool [] 10000 (true ∷ false ∷ []) (0 ∷ []) }

pub w1_paused : step first_done (at 0 (what.Pause (codes "w1"))) ≡ Accepted without_w1 (quiet 4 2)
w1_paused = answered text_1 (keyed row_1 ∷ []) first_done text_1 (keyed row_1 ∷ []) _ refl refl refl refl refl (unchanged 0 (Fine (value.Words (codes "one")) ∷ []))

abbrev pub second_waits : CoreState
second_waits = record without_w1 { version = 5; inputs = value.Words (codes "2") ∷ []; next = 3; jobs = queued 2 (codes "2") ∷ []; fair = pool (ticket 2 10000 ∷ []) 12000 (true ∷ false ∷ []) (0 ∷ []) }

pub second_made : step without_w1 (at 0 (set (codes "2"))) ≡ Accepted second_waits (record (quiet 5 3) {
  changed = (0, Active 0 Ready) ∷ [];
  delta = record (next_alone 3) { input = Some (codes "x", printed (value.Words (codes "2"))) };
})
second_made = answered text_1 (keyed row_1 ∷ []) without_w1 text_2 (keyed row_1 ∷ []) _ (sets (codes "x") (codes "1") (codes "2")) refl refl (costed (record second_waits { version = 4 }) 10000 (0 ∷ [])) refl refl

pub second_for_w2 : picked second_waits 1 ≡ Some 2
second_for_w2 = picks second_waits 2 10000 (0 ∷ []) 1

pub second_not_for_w1 : picked second_waits 0 ≡ None
second_not_for_w1 = picks second_waits 2 10000 (0 ∷ []) 0

-- ---- w2 takes it, and has the hint

abbrev pub second_runs : CoreState
second_runs = record second_waits { version = 6; jobs = running 1 2 (codes "2") ∷ []; fair = pool [] 12000 (true ∷ false ∷ []) (1 ∷ 0 ∷ []) }

pub second_taken : step second_waits (at 0 (what.Take 1)) ≡ Accepted second_runs (record (quiet 6 3) { note = note.Started (order 1 2 (codes "2")); changed = (0, Active 0 Running) ∷ [] })
second_taken = answered text_2 (keyed row_1 ∷ []) second_waits text_2 (keyed row_1 ∷ []) _ (ap (take_pick second_waits 1) second_for_w2) refl refl refl refl refl

abbrev pub row_2 : Row
row_2 = row_left 2 (codes "2") (codes "two")

abbrev pub second_done : CoreState
second_done = record second_runs { version = 7; rows = from_entries (keyed row_2 ∷ keyed row_1 ∷ []); jobs = [] }

pub second_ended : step second_runs (at 0 (ends 2 (codes "two\n"))) ≡ Accepted second_done (record (quiet 7 3) {
  note = note.Ended 2 ending.Fine;
  changed = (0, Fine (value.Words (codes "two"))) ∷ [];
  delta = record (next_alone 3) { put = Some row_2; log = Some (2, codes "two\n") };
})
unfolding is_utf8 chars encode_utf8
second_ended = answered text_2 (keyed row_1 ∷ []) second_runs text_2 (keyed row_2 ∷ keyed row_1 ∷ []) _ refl refl refl refl refl refl

-- ---- w1 is no longer paused: the third job waits for w2, which has its hint now

abbrev pub with_both : CoreState
with_both = record second_done { version = 8; fair = pool [] 12000 (false ∷ false ∷ []) (1 ∷ 0 ∷ []) }

pub w1_resumed : step second_done (at 0 (what.Resume (codes "w1"))) ≡ Accepted with_both (quiet 8 3)
w1_resumed = answered text_2 (keyed row_2 ∷ keyed row_1 ∷ []) second_done text_2 (keyed row_2 ∷ keyed row_1 ∷ []) _ refl refl refl refl refl (unchanged 0 (Fine (value.Words (codes "two")) ∷ []))

abbrev pub third_waits : CoreState
third_waits = record with_both { version = 9; inputs = value.Words (codes "3") ∷ []; next = 4; jobs = queued 3 (codes "3") ∷ []; fair = pool (ticket 3 12000 ∷ []) 14000 (false ∷ false ∷ []) (1 ∷ 0 ∷ []) }

pub third_made : step with_both (at 0 (set (codes "3"))) ≡ Accepted third_waits (record (quiet 9 4) {
  changed = (0, Active 0 Ready) ∷ [];
  delta = record (next_alone 4) { input = Some (codes "x", printed (value.Words (codes "3"))) };
})
third_made = answered text_2 (keyed row_2 ∷ keyed row_1 ∷ []) with_both text_3 (keyed row_2 ∷ keyed row_1 ∷ []) _ (sets (codes "x") (codes "1") (codes "3")) refl refl (costed (record third_waits { version = 8 }) 12000 (1 ∷ 0 ∷ [])) refl refl

pub third_for_w2 : picked third_waits 1 ≡ Some 3
third_for_w2 = picks third_waits 3 12000 (1 ∷ 0 ∷ []) 1

pub third_not_for_w1 : picked third_waits 0 ≡ None
third_not_for_w1 = picks third_waits 3 12000 (1 ∷ 0 ∷ []) 0

-- ---- w2 takes it, and has the hint

abbrev pub third_runs : CoreState
third_runs = record third_waits { version = 10; jobs = running 1 3 (codes "3") ∷ []; fair = pool [] 14000 (false ∷ false ∷ []) (1 ∷ 1 ∷ 0 ∷ []) }

pub third_taken : step third_waits (at 0 (what.Take 1)) ≡ Accepted third_runs (record (quiet 10 4) { note = note.Started (order 1 3 (codes "3")); changed = (0, Active 0 Running) ∷ [] })
third_taken = answered text_3 (keyed row_2 ∷ keyed row_1 ∷ []) third_waits text_3 (keyed row_2 ∷ keyed row_1 ∷ []) _ (ap (take_pick third_waits 1) third_for_w2) refl refl refl refl refl

abbrev pub row_3 : Row
row_3 = row_left 3 (codes "3") (codes "three")

abbrev pub third_done : CoreState
third_done = record third_runs { version = 11; rows = from_entries (keyed row_3 ∷ keyed row_2 ∷ keyed row_1 ∷ []); jobs = [] }

pub third_ended : step third_runs (at 0 (ends 3 (codes "three\n"))) ≡ Accepted third_done (record (quiet 11 4) {
  note = note.Ended 3 ending.Fine;
  changed = (0, Fine (value.Words (codes "three"))) ∷ [];
  delta = record (next_alone 4) { put = Some row_3; log = Some (3, codes "three\n") };
})
unfolding is_utf8 chars encode_utf8
third_ended = answered text_3 (keyed row_2 ∷ keyed row_1 ∷ []) third_runs text_3 (keyed row_3 ∷ keyed row_2 ∷ keyed row_1 ∷ []) _ refl refl refl refl refl refl

-- ---- w2 is paused: w1 may take the fourth job

abbrev pub without_w2 : CoreState
without_w2 = record third_done { version = 12; fair = pool [] 14000 (false ∷ true ∷ []) (1 ∷ 1 ∷ 0 ∷ []) }

pub w2_paused : step third_done (at 0 (what.Pause (codes "w2"))) ≡ Accepted without_w2 (quiet 12 4)
w2_paused = answered text_3 (keyed row_3 ∷ keyed row_2 ∷ keyed row_1 ∷ []) third_done text_3 (keyed row_3 ∷ keyed row_2 ∷ keyed row_1 ∷ []) _ refl refl refl refl refl (unchanged 0 (Fine (value.Words (codes "three")) ∷ []))

abbrev pub fourth_waits : CoreState
fourth_waits = record without_w2 { version = 13; inputs = value.Words (codes "4") ∷ []; next = 5; jobs = queued 4 (codes "4") ∷ []; fair = pool (ticket 4 14000 ∷ []) 16000 (false ∷ true ∷ []) (1 ∷ 1 ∷ 0 ∷ []) }

pub fourth_made : step without_w2 (at 0 (set (codes "4"))) ≡ Accepted fourth_waits (record (quiet 13 5) {
  changed = (0, Active 0 Ready) ∷ [];
  delta = record (next_alone 5) { input = Some (codes "x", printed (value.Words (codes "4"))) };
})
fourth_made = answered text_3 (keyed row_3 ∷ keyed row_2 ∷ keyed row_1 ∷ []) without_w2 text_4 (keyed row_3 ∷ keyed row_2 ∷ keyed row_1 ∷ []) _ (sets (codes "x") (codes "1") (codes "4")) refl refl (costed (record fourth_waits { version = 12 }) 14000 (1 ∷ 1 ∷ 0 ∷ [])) refl refl

pub fourth_for_w1 : picked fourth_waits 0 ≡ Some 4
fourth_for_w1 = picks fourth_waits 4 14000 (1 ∷ 1 ∷ 0 ∷ []) 0

pub fourth_not_for_w2 : picked fourth_waits 1 ≡ None
fourth_not_for_w2 = picks fourth_waits 4 14000 (1 ∷ 1 ∷ 0 ∷ []) 1

-- ---- w1 takes it, and has the hint

abbrev pub fourth_runs : CoreState
fourth_runs = record fourth_waits { version = 14; jobs = running 0 4 (codes "4") ∷ []; fair = pool [] 16000 (false ∷ true ∷ []) (0 ∷ 1 ∷ 1 ∷ 0 ∷ []) }

pub fourth_taken : step fourth_waits (at 0 (what.Take 0)) ≡ Accepted fourth_runs (record (quiet 14 5) { note = note.Started (order 0 4 (codes "4")); changed = (0, Active 0 Running) ∷ [] })
fourth_taken = answered text_4 (keyed row_3 ∷ keyed row_2 ∷ keyed row_1 ∷ []) fourth_waits text_4 (keyed row_3 ∷ keyed row_2 ∷ keyed row_1 ∷ []) _ (ap (take_pick fourth_waits 0) fourth_for_w1) refl refl refl refl refl

abbrev pub row_4 : Row
row_4 = row_left 4 (codes "4") (codes "four")

abbrev pub fourth_done : CoreState
fourth_done = record fourth_runs { version = 15; rows = from_entries (keyed row_4 ∷ keyed row_3 ∷ keyed row_2 ∷ keyed row_1 ∷ []); jobs = [] }

pub fourth_ended : step fourth_runs (at 0 (ends 4 (codes "four\n"))) ≡ Accepted fourth_done (record (quiet 15 5) {
  note = note.Ended 4 ending.Fine;
  changed = (0, Fine (value.Words (codes "four"))) ∷ [];
  delta = record (next_alone 5) { put = Some row_4; log = Some (4, codes "four\n") };
})
unfolding is_utf8 chars encode_utf8
fourth_ended = answered text_4 (keyed row_3 ∷ keyed row_2 ∷ keyed row_1 ∷ []) fourth_runs text_4 (keyed row_4 ∷ keyed row_3 ∷ keyed row_2 ∷ keyed row_1 ∷ []) _ refl refl refl refl refl refl
