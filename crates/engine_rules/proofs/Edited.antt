-- The own change of an event is the one that its data tell, where its test is passed.
use Rattle.std.proofs.Common.{◌≡◌, ℕ, ◌<◌, Bool, true, false, List, [], ◌∷◌, Option, Some, None, is_some, refl, ap, sym, ◌∙◌}
use Rattle.std.proofs.lemmas.Bool.{ltb-true}
use Rattle.std.specs.Prelude.{◌||◌, if◌then◌else◌, nat_lt, length, slice_get, slice_set}
use Rattle.std.specs.FinMap.{get, remove}
use Rattle.std.specs.Option.{option_and_then, option_map}
use Rattle.value_core.specs.declared.value.Value.{Value}
use Rattle.value_core.specs.declared.state.Stage.{Stage}
use Rattle.value_core.specs.declared.state.Stage.TheVariants.{Ready, Waiting, Running}
use Rattle.op_keys.specs.declared.order.Exit.{Exit}
use Rattle.term_core.specs.declared.program.InputDecl.{InputDecl}
use Rattle.sched_rows.specs.declared.row.Row.{Row}
use Rattle.sched_rows.specs.RowKeys.{row_key}
use Rattle.sched_rows.specs.Rows.{Rows, mark_found, marked}
use Rattle.fair_pool.specs.Fair.{hint_noted, withdrawn}
use Rattle.fair_pool.specs.Layouts.{client_number, declared, worker_number}
use Rattle.fair_pool.specs.Sound.{is_rate}
use Rattle.core_rules.specs.declared.events.Event.{Event}
use Rattle.core_rules.specs.declared.events.Refusal.{Refusal}
use Rattle.core_rules.specs.declared.events.Refusal.TheVariants as refusal
use Rattle.core_rules.specs.declared.events.What.{What}
use Rattle.core_rules.specs.declared.events.What.TheVariants as what
use Rattle.core_rules.specs.declared.jobs.Job.{Job}
use Rattle.core_rules.specs.declared.jobs.Mark.{Mark}
use Rattle.core_rules.specs.declared.jobs.Mark.TheVariants.{Unmarked, Automatic, User}
use Rattle.core_rules.specs.declared.notes.Note.TheVariants as note
use Rattle.core_rules.specs.Changes.{Change, Refuses, Idles, Makes, cancel, cancelled_row, cancel_queued, cancel_running, confirm, confirm_at, input_index, op_named, pause, plain, rebuild, rebuild_free, rebuild_row, set_input, set_rate, takes}
use Rattle.core_rules.specs.Core.{CoreState, is_output, job_numbered, may_start, op_name, op_of, stage, when_allowed, with_job, without_job}
use Rattle.core_rules.specs.Entries.{key_for}
use Rattle.core_rules.specs.Exits.{exit_log}
use Rattle.core_rules.specs.Orders.{finish, finish_by, is_ready, is_ready_job, order_for, picked, take_by, take_job, take_pick, void_of, voided}
use Rattle.core_rules.specs.Replies.{next_alone}
use Rattle.core_rules.specs.Settling.{is_unmarked, live_on}
use Rattle.core_rules.specs.Steps.{answer, at_time, change, step}
use Rattle.core_rules.proofs.Helpers.{then_some}
use Rattle.core_rules.proofs.Starts.{number_found, pick_ready}
use Rattle.engine_rules.specs.declared.edits.Edit.{Edit}
use Rattle.core_rules.specs.declared.own.Own.{Own}
use Rattle.core_rules.specs.declared.own.Own.TheVariants as own
use Rattle.core_rules.specs.declared.own.RowChange.TheVariants as row
use Rattle.engine_rules.specs.declared.tests.Tested.{Tested}
use Rattle.engine_rules.specs.declared.tests.Tested.TheVariants as tested
use Rattle.engine_rules.specs.Edits.{HasJob, MayOwn, cancelled_rows, inputs_made, change_of, edit_of, edited, end_note, ending_by, left_row, left_rows, pick_job, running_number, start_note, stored_row, taken_rows, voided_key}
use Rattle.core_rules.specs.Own.{cancelled, own_made, rows_made, took}
use Rattle.core_rules.specs.Orders.{taken_by}
use Rattle.core_rules.specs.Changes.{confirmed, user_marked}
use Rattle.engine_rules.specs.Tests.{answer_of, answered, busy_with, cancel_test, confirm_test, finish_test, free_test, input_test, rate_test, rebuild_test, runs, take_test, test_of, tried, unless, worker_test}

-- ---- each event

if_tried : (b : Bool) (c : Change) (r : Refusal) → (if b then Makes c else Refuses r) ≡ tried (unless r b) c
if_tried true c r = refl
if_tried false c r = refl

input_tried : (s : CoreState) (name : List ℕ) (v : Value) (o : Option InputDecl) → set_input s name v (input_index s name) o ≡ tried (input_test o v) (change_of s (what.SetInput name v))
input_tried s name v None = refl
input_tried s name v (Some d) = if_tried (takes d v) (change_of s (what.SetInput name v)) refusal.WrongKind

confirm_tried : (s : CoreState) (n : ℕ) (o : Option Job) → job_numbered s.jobs n ≡ o → confirm s o ≡ tried (confirm_test (option_map (stage s) o)) (change_of s (what.Confirm n))
confirm_tried s n None is = refl
confirm_tried s n (Some j) is = elim (stage s j) as (λ g. confirm_at s j g ≡ tried (confirm_test (Some g)) (change_of s (what.Confirm n))) [
  | Ready ↦ refl
  | Waiting ↦ ap (λ m. plain (record s { jobs = with_job m confirmed s.jobs })) (number_found s.jobs n j is)
  | Running ↦ refl
]

-- the change of a Cancel, for the job that is found
abbrev cancel_change : CoreState → Option Job → Change
cancel_change s o = record {
  state = record (cancelled s o) { rows = rows_made (cancelled_rows s o) s.rows; inputs = s.inputs };
  note = note.Plain;
  marks = running_number o;
  delta = record (next_alone s.next) { put = stored_row s.rows (cancelled_rows s o); void = voided_key (cancelled_rows s o) };
}

cancel_made : (s : CoreState) (j : Job) → (if is_some j.worker then cancel_running s j else cancel_queued s j) ≡ Makes (cancel_change s (Some j))
cancel_made s j = elim j.worker as (λ w. (if is_some w then cancel_running s j else cancel_queued s j) ≡ Makes (record {
  state = record (if is_some w then record s { jobs = with_job j.number user_marked s.jobs } else record s { jobs = without_job j.number s.jobs; fair = withdrawn j.number s.fair }) {
    rows = rows_made (if is_some w then row.None else row.Put (cancelled_row s j)) s.rows;
    inputs = s.inputs;
  };
  note = note.Plain;
  marks = if is_some w then j.number ∷ [] else [];
  delta = record (next_alone s.next) {
    put = stored_row s.rows (if is_some w then row.None else row.Put (cancelled_row s j));
    void = voided_key (if is_some w then row.None else row.Put (cancelled_row s j));
  };
})) [
  | None ↦ refl
  | Some w ↦ refl
]

cancel_tried : (s : CoreState) (o : Option Job) → cancel s o ≡ tried (cancel_test (option_map (λ j. j.mark) o)) (cancel_change s o)
cancel_tried s None = refl
cancel_tried s (Some j) = ap (λ x. if is_unmarked j.mark then x else Refuses refusal.AlreadyCancelling) (cancel_made s j) ∙ if_tried (is_unmarked j.mark) (cancel_change s (Some j)) refusal.AlreadyCancelling

-- the change of a Rebuild, for the row that is found
abbrev rebuild_change : CoreState → List ℕ → List ℕ → Option Row → Change
rebuild_change s name key r = record {
  state = record s { rows = mark_found (row_key name key) r s.rows };
  note = note.Plain;
  marks = [];
  delta = record (next_alone s.next) { put = option_map marked r };
}

rebuild_row_tried : (s : CoreState) (name key : List ℕ) (r : Option Row) → rebuild_row s (row_key name key) r ≡ tried (unless refusal.NoRow (is_some r)) (rebuild_change s name key r)
rebuild_row_tried s name key None = refl
rebuild_row_tried s name key (Some r) = refl

rebuild_free_tried : (s : CoreState) (name key : List ℕ) (o : Option Job) →
    rebuild_free s (row_key name key) o ≡ tried (free_test (option_map (λ j. j.number) o) (is_some (get s.rows (row_key name key)))) (change_of s (what.Rebuild name key))
rebuild_free_tried s name key (Some j) = refl
rebuild_free_tried s name key None = rebuild_row_tried s name key (get s.rows (row_key name key))

rebuild_tried : (s : CoreState) (name key : List ℕ) (o : Option ℕ) →
    rebuild s name key o ≡ tried (rebuild_test o (busy_with s o key) (is_some (get s.rows (row_key name key)))) (change_of s (what.Rebuild name key))
rebuild_tried s name key None = refl
rebuild_tried s name key (Some op) = rebuild_free_tried s name key (live_on s.jobs op key)

pub pause_tried : (b : Bool) (s : CoreState) (w : ℕ) (c : Bool) →
    pause b s (if c then Some w else None)
    ≡ tried (worker_test (if c then Some w else None)) (record { state = record s { fair = record s.fair { paused = slice_set s.fair.paused w b } }; note = note.Plain; marks = []; delta = next_alone s.next })
pause_tried b s w true = refl
pause_tried b s w false = refl

pub rate_tried : (s : CoreState) (n rate : ℕ) (c : Bool) →
    set_rate s rate (if c then Some n else None)
    ≡ tried (rate_test (if c then Some n else None) rate) (record { state = record s { fair = record s.fair { rates = slice_set s.fair.rates n rate } }; note = note.Plain; marks = []; delta = next_alone s.next })
rate_tried s n rate true = if_tried (is_rate rate) _ (refusal.RateOutOfRange rate)
rate_tried s n rate false = refl

-- the change of a Take, for the number and the job that are found
abbrev take_change : CoreState → ℕ → Option ℕ → Option Job → Change
take_change s w p o = record {
  state = record (took s w p) { rows = rows_made (taken_rows s o) s.rows; inputs = s.inputs };
  note = start_note s w o;
  marks = [];
  delta = record (next_alone s.next) { put = stored_row s.rows (taken_rows s o); void = voided_key (taken_rows s o) };
}

-- a job with this number is taken, with these rows
abbrev taken_with : CoreState → ℕ → Job → ℕ → Rows → Option Row → Option (List ℕ × List ℕ) → Change
taken_with s w j m rows put void = record {
  state = record s { jobs = with_job m (taken_by w) s.jobs; rows = rows; fair = withdrawn m (hint_noted m w s.fair) };
  note = note.Started (order_for s w j);
  marks = [];
  delta = record (next_alone s.next) { put = put; void = void };
}

take_rows : (s : CoreState) (w : ℕ) (j : Job) (m : ℕ) →
    Makes (taken_with s w j m (voided s j.triple) None (void_of s j.triple)) ≡ Makes (taken_with s w j m (rows_made (taken_rows s (Some j)) s.rows) (stored_row s.rows (taken_rows s (Some j))) (voided_key (taken_rows s (Some j))))
take_rows s w j m = elim (is_output (op_of s j.triple.op)) as (λ b.
    Makes (taken_with s w j m (if b then remove s.rows (key_for s j.triple) else s.rows) None (if b then Some (op_name (op_of s j.triple.op), j.triple.key) else None))
    ≡ Makes (taken_with s w j m (rows_made (if b then row.Void (op_name (op_of s j.triple.op)) j.triple.key else row.None) s.rows)
    (stored_row s.rows (if b then row.Void (op_name (op_of s j.triple.op)) j.triple.key else row.None))
    (voided_key (if b then row.Void (op_name (op_of s j.triple.op)) j.triple.key else row.None)))) [
      | true ↦ refl
      | false ↦ refl
    ]

-- passed where there is a pick, else nothing is taken
abbrev pick_test : Bool → Tested
pick_test b = if b then tested.Passes else tested.Nothing

take_job_tried : (s : CoreState) (w n : ℕ) (o : Option Job) → job_numbered s.jobs n ≡ o → take_job s w o ≡ tried (pick_test (is_some o)) (take_change s w (Some n) o)
take_job_tried s w n None is = refl
take_job_tried s w n (Some j) is = ap (λ m. Makes (taken_with s w j m (voided s j.triple) None (void_of s j.triple))) (number_found s.jobs n j is) ∙ take_rows s w j n

take_pick_tried : (s : CoreState) (w : ℕ) (p : Option ℕ) → take_pick s w p ≡ tried (pick_test (is_some (option_and_then (job_numbered s.jobs) p))) (take_change s w p (option_and_then (job_numbered s.jobs) p))
take_pick_tried s w None = refl
take_pick_tried s w (Some n) = take_job_tried s w n (job_numbered s.jobs n) refl

if_taken : (b : Bool) (t : Tested) (c : Change) → (if b then tried t c else Refuses refusal.UnknownWorker) ≡ tried (if b then t else tested.Refused refusal.UnknownWorker) c
if_taken true t c = refl
if_taken false t c = refl

take_tried : (s : CoreState) (w : ℕ) → take_by s w ≡ tried (take_test (nat_lt w (length s.program.workers)) (is_some (pick_job s w))) (change_of s (what.Take w))
take_tried s w = ap (λ x. if nat_lt w (length s.program.workers) then x else Refuses refusal.UnknownWorker) (take_pick_tried s w (picked s w))
    ∙ if_taken (nat_lt w (length s.program.workers)) (pick_test (is_some (pick_job s w))) (change_of s (what.Take w))

-- the change of a Finish, by the number, the job and its mark
abbrev finish_with : CoreState → ℕ → Job → Exit → Mark → Change
finish_with s n j x m = record {
  state = record s { jobs = without_job n s.jobs; rows = rows_made (left_row m s j x) s.rows };
  note = note.Ended n (ending_by m x);
  marks = [];
  delta = record (next_alone s.next) { put = stored_row s.rows (left_row m s j x); void = voided_key (left_row m s j x); log = Some (n, exit_log x) };
}

finish_made : (s : CoreState) (j : Job) (x : Exit) (m : Mark) → finish_by m s j x ≡ Makes (finish_with s j.number j x m)
finish_made s j x Automatic = refl
finish_made s j x User = refl
finish_made s j x Unmarked = refl

if_finished : (b : Bool) (c : Change) → (if b then Makes c else Idles note.Ignored) ≡ tried (finish_test b) c
if_finished true c = refl
if_finished false c = refl

-- the change of a Finish, for the job that is found
abbrev finish_change : CoreState → ℕ → Option Job → Exit → Change
finish_change s n o x = record {
  state = record s { jobs = without_job n s.jobs; rows = rows_made (left_rows s o x) s.rows };
  note = end_note n o x;
  marks = [];
  delta = record (next_alone s.next) { put = stored_row s.rows (left_rows s o x); void = voided_key (left_rows s o x); log = Some (n, exit_log x) };
}

finish_tried : (s : CoreState) (n : ℕ) (o : Option Job) (x : Exit) → job_numbered s.jobs n ≡ o → finish s o x ≡ tried (finish_test (runs o)) (finish_change s n o x)
finish_tried s n None x is = refl
finish_tried s n (Some j) x is =
    ap (λ y. if is_some j.worker then y else Idles note.Ignored) (finish_made s j x j.mark ∙ ap (λ m. Makes (finish_with s m j x j.mark)) (number_found s.jobs n j is))
    ∙ if_finished (is_some j.worker) (finish_change s n (Some j) x)

pub tests_decide : (s : CoreState) (w : What) → change s w ≡ tried (test_of s w) (change_of s w)
tests_decide s (what.SetInput name v) = input_tried s name v (slice_get s.program.inputs (input_index s name))
tests_decide s what.Tick = refl
tests_decide s (what.SetLevel threshold) = refl
tests_decide s (what.Confirm n) = confirm_tried s n (job_numbered s.jobs n) refl
tests_decide s (what.Cancel n) = cancel_tried s (job_numbered s.jobs n)
tests_decide s (what.Rebuild op key) = rebuild_tried s op key (op_named s op)
tests_decide s (what.Pause w) = pause_tried true s (worker_number s.program.workers w) (nat_lt (worker_number s.program.workers w) (length s.program.workers))
tests_decide s (what.Resume w) = pause_tried false s (worker_number s.program.workers w) (nat_lt (worker_number s.program.workers w) (length s.program.workers))
tests_decide s (what.Rate pool client rate) = rate_tried s (client_number s.program.clients pool client) rate (nat_lt (client_number s.program.clients pool client) (length s.program.clients))
tests_decide s (what.Take w) = take_tried s w
tests_decide s (what.Finish n x) = finish_tried s n (job_numbered s.jobs n) x refl

-- ---- the answer

answer_tried : (s : CoreState) (t : Tested) (c : Change) → answer s (tried t c) ≡ answered s t c
answer_tried s tested.Passes c = refl
answer_tried s (tested.Refused r) c = refl
answer_tried s tested.Nothing c = refl
answer_tried s tested.Ignored c = refl

pub answers_by_tests : (s : CoreState) (e : Event) → step s e ≡ answer_of s e
unfolding step
answers_by_tests s e = ap (answer s) (tests_decide (at_time s e.at) e.what) ∙ answer_tried s (test_of (at_time s e.at) e.what) (change_of (at_time s e.at) e.what)

-- a change that is made is the one of the data, and its test is passed
pub made_so : (t : Tested) (c d : Change) → tried t c ≡ Makes d → (t ≡ tested.Passes) × (c ≡ d)
made_so tested.Passes c d e = (refl, cc)
made_so (tested.Refused r) c d e = let z : ⊥ = cc in absurd z
made_so tested.Nothing c d e = let z : ⊥ = cc in absurd z
made_so tested.Ignored c d e = let z : ⊥ = cc in absurd z

pub change_made : (s : CoreState) (w : What) (c : Change) → change s w ≡ Makes c → (test_of s w ≡ tested.Passes) × (change_of s w ≡ c)
change_made s w c e = made_so (test_of s w) (change_of s w) c (sym (tests_decide s w) ∙ e)

-- ---- what a passed test tells

pub unless_passes : (r : Refusal) (b : Bool) → unless r b ≡ tested.Passes → b ≡ true
unless_passes r true e = refl
unless_passes r false e = let z : ⊥ = cc in absurd z

confirm_may : (s : CoreState) (n : ℕ) (o : Option Job) → job_numbered s.jobs n ≡ o → confirm_test (option_map (stage s) o) ≡ tested.Passes → HasJob s n (λ j. stage s j ≡ Waiting)
confirm_may s n None is e = let z : ⊥ = cc in absurd z
confirm_may s n (Some j) is e = (j, is, waits (stage s j) e)
  where
    waits : (g : Stage) → confirm_test (Some g) ≡ tested.Passes → g ≡ Waiting
    waits Ready e = let z : ⊥ = cc in absurd z
    waits Waiting e = refl
    waits Running e = let z : ⊥ = cc in absurd z

cancel_may : (s : CoreState) (n : ℕ) (o : Option Job) → job_numbered s.jobs n ≡ o → cancel_test (option_map (λ j. j.mark) o) ≡ tested.Passes → HasJob s n (λ j. is_unmarked j.mark ≡ true)
cancel_may s n None is e = let z : ⊥ = cc in absurd z
cancel_may s n (Some j) is e = (j, is, unless_passes refusal.AlreadyCancelling (is_unmarked j.mark) e)

finish_passes : (b : Bool) → finish_test b ≡ tested.Passes → b ≡ true
finish_passes true e = refl
finish_passes false e = let z : ⊥ = cc in absurd z

runs_may : (s : CoreState) (n : ℕ) (o : Option Job) → job_numbered s.jobs n ≡ o → runs o ≡ true → HasJob s n (λ j. is_some j.worker ≡ true)
runs_may s n None is e = let z : ⊥ = cc in absurd z
runs_may s n (Some j) is e = (j, is, e)

below_count : (c : Bool) (n : ℕ) → is_some (if c then Some n else None) ≡ true → c ≡ true
below_count true n e = refl
below_count false n e = let z : ⊥ = cc in absurd z

worker_may : (count n : ℕ) → worker_test (declared count n) ≡ tested.Passes → n < count
worker_may count n e = ltb-true n count (below_count (nat_lt n count) n (unless_passes refusal.UnknownWorker (is_some (declared count n)) e))

rate_may : (c : Bool) (n rate : ℕ) → rate_test (if c then Some n else None) rate ≡ tested.Passes → (c ≡ true) × (is_rate rate ≡ true)
rate_may true n rate e = (refl, unless_passes (refusal.RateOutOfRange rate) (is_rate rate) e)
rate_may false n rate e = let z : ⊥ = cc in absurd z

pub take_passes : (b p : Bool) → take_test b p ≡ tested.Passes → (b ≡ true) × (p ≡ true)
take_passes true true e = (refl, refl)
take_passes true false e = let z : ⊥ = cc in absurd z
take_passes false p e = let z : ⊥ = cc in absurd z

there : {A : Type 0} (o : Option A) → is_some o ≡ true → (x : A) × (o ≡ Some x)
there None e = let z : ⊥ = cc in absurd z
there (Some x) e = (x, refl)

ready_free : (s : CoreState) (j : Job) → is_ready (stage s j) ≡ true → is_some j.worker ≡ false
ready_free s j e = by_worker (is_some j.worker) (may_start s.threshold (op_of s j.triple.op) || j.confirmed) e
  where
    by_worker : (w b : Bool) → is_ready (if w then Running else when_allowed b) ≡ true → w ≡ false
    by_worker true b e = let z : ⊥ = cc in absurd z
    by_worker false b e = refl

-- the job that a worker takes next is there and queued
pub pick_found : (s : CoreState) (w : ℕ) → is_some (pick_job s w) ≡ true → (n : ℕ) × (picked s w ≡ Some n) × HasJob s n (λ j. is_some j.worker ≡ false)
pick_found s w e =
    let j = there (pick_job s w) e in
    let n = then_some (job_numbered s.jobs) (picked s w) j.0 j.1 in
    let able : is_ready (stage s j.0) ≡ true = ap (is_ready_job s) (sym n.2) ∙ pick_ready s w n.0 n.1 in
    (n.0, n.1, (j.0, n.2, ready_free s j.0 able))

take_may : (s : CoreState) (w : ℕ) → take_test (nat_lt w (length s.program.workers)) (is_some (pick_job s w)) ≡ tested.Passes → MayOwn s (own.Take w)
take_may s w e =
    let p = take_passes (nat_lt w (length s.program.workers)) (is_some (pick_job s w)) e in
    let f = pick_found s w p.1 in
    (ltb-true w (length s.program.workers) p.0, f.0, f.1, f.2)

pub passed_may_own : (s : CoreState) (w : What) → test_of s w ≡ tested.Passes → MayOwn s (edit_of s w).own
passed_may_own s (what.SetInput name v) e = tt
passed_may_own s what.Tick e = tt
passed_may_own s (what.SetLevel threshold) e = tt
passed_may_own s (what.Confirm n) e = confirm_may s n (job_numbered s.jobs n) refl e
passed_may_own s (what.Cancel n) e = cancel_may s n (job_numbered s.jobs n) refl e
passed_may_own s (what.Rebuild op key) e = tt
passed_may_own s (what.Pause w) e = worker_may (length s.program.workers) (worker_number s.program.workers w) e
passed_may_own s (what.Resume w) e = worker_may (length s.program.workers) (worker_number s.program.workers w) e
passed_may_own s (what.Rate pool client rate) e =
    let p = rate_may (nat_lt (client_number s.program.clients pool client) (length s.program.clients)) (client_number s.program.clients pool client) rate e in
    (ltb-true (client_number s.program.clients pool client) (length s.program.clients) p.0, p.1)
passed_may_own s (what.Take w) e = take_may s w e
passed_may_own s (what.Finish n x) e = runs_may s n (job_numbered s.jobs n) refl (finish_passes (runs (job_numbered s.jobs n)) e)

-- ---- what a change among the jobs leaves alone

-- what settling and evaluation read beside jobs and threshold
pub record Untouched (s t : CoreState) : Type 0 where
  pub program : t.program ≡ s.program
  pub now : t.now ≡ s.now
  pub next : t.next ≡ s.next
  pub version : t.version ≡ s.version
  pub rows : t.rows ≡ s.rows
  pub inputs : t.inputs ≡ s.inputs

itself : (s : CoreState) → Untouched s s
itself s = record { program = refl; now = refl; next = refl; version = refl; rows = refl; inputs = refl }

cancelled_untouched : (s : CoreState) (o : Option Job) → Untouched s (cancelled s o)
cancelled_untouched s None = itself s
cancelled_untouched s (Some j) = elim (is_some j.worker) as (λ b. Untouched s (if b then record s { jobs = with_job j.number user_marked s.jobs } else record s { jobs = without_job j.number s.jobs; fair = withdrawn j.number s.fair })) [
  | true ↦ record { program = refl; now = refl; next = refl; version = refl; rows = refl; inputs = refl }
  | false ↦ record { program = refl; now = refl; next = refl; version = refl; rows = refl; inputs = refl }
]

took_untouched : (s : CoreState) (w : ℕ) (p : Option ℕ) → Untouched s (took s w p)
took_untouched s w None = itself s
took_untouched s w (Some n) = record { program = refl; now = refl; next = refl; version = refl; rows = refl; inputs = refl }

pub own_untouched : (s : CoreState) (o : Own) → Untouched s (own_made o s)
own_untouched s own.None = itself s
own_untouched s (own.Level threshold) = record { program = refl; now = refl; next = refl; version = refl; rows = refl; inputs = refl }
own_untouched s (own.Confirm n) = record { program = refl; now = refl; next = refl; version = refl; rows = refl; inputs = refl }
own_untouched s (own.Cancel n) = cancelled_untouched s (job_numbered s.jobs n)
own_untouched s (own.Take w) = took_untouched s w (picked s w)
own_untouched s (own.Finish n) = record { program = refl; now = refl; next = refl; version = refl; rows = refl; inputs = refl }
own_untouched s (own.Pause w) = record { program = refl; now = refl; next = refl; version = refl; rows = refl; inputs = refl }
own_untouched s (own.Resume w) = record { program = refl; now = refl; next = refl; version = refl; rows = refl; inputs = refl }
own_untouched s (own.Rate c rate) = record { program = refl; now = refl; next = refl; version = refl; rows = refl; inputs = refl }

-- a state with other rows, inputs and version
abbrev pub over : CoreState → Rows → List Value → ℕ → CoreState
over s rows inputs version = record s { rows = rows; inputs = inputs; version = version }

cancelled_over : (s : CoreState) (rows : Rows) (inputs : List Value) (version : ℕ) (o : Option Job) → cancelled (over s rows inputs version) o ≡ over (cancelled s o) rows inputs version
cancelled_over s rows inputs version None = refl
cancelled_over s rows inputs version (Some j) = elim (is_some j.worker) as (λ b.
    (if b then record (over s rows inputs version) { jobs = with_job j.number user_marked s.jobs } else record (over s rows inputs version) { jobs = without_job j.number s.jobs; fair = withdrawn j.number s.fair })
    ≡ over (if b then record s { jobs = with_job j.number user_marked s.jobs } else record s { jobs = without_job j.number s.jobs; fair = withdrawn j.number s.fair }) rows inputs version) [
      | true ↦ refl
      | false ↦ refl
    ]

took_over : (s : CoreState) (rows : Rows) (inputs : List Value) (version w : ℕ) (p : Option ℕ) → took (over s rows inputs version) w p ≡ over (took s w p) rows inputs version
took_over s rows inputs version w None = refl
took_over s rows inputs version w (Some n) = refl

pub own_over : (s : CoreState) (o : Own) (rows : Rows) (inputs : List Value) (version : ℕ) → own_made o (over s rows inputs version) ≡ over (own_made o s) rows inputs version
own_over s own.None rows inputs version = refl
own_over s (own.Level threshold) rows inputs version = refl
own_over s (own.Confirm n) rows inputs version = refl
own_over s (own.Cancel n) rows inputs version = cancelled_over s rows inputs version (job_numbered s.jobs n)
own_over s (own.Take w) rows inputs version = took_over s rows inputs version w (picked s w)
own_over s (own.Finish n) rows inputs version = refl
own_over s (own.Pause w) rows inputs version = refl
own_over s (own.Resume w) rows inputs version = refl
own_over s (own.Rate c rate) rows inputs version = refl

-- a change of all three is the one among the jobs over the changed rows and inputs
pub edited_over : (s : CoreState) (e : Edit) → own_made e.own (over s (rows_made e.row s.rows) (inputs_made e.input s.inputs) s.version) ≡ edited e s
edited_over s e = own_over s e.own (rows_made e.row s.rows) (inputs_made e.input s.inputs) s.version
    ∙ (λ i. record (own_made e.own s) { rows = rows_made e.row s.rows; inputs = inputs_made e.input s.inputs; version = sym (own_untouched s e.own).version i })
