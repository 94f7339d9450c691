-- A step by the parts of a state.
use Rattle.std.proofs.Common.{◌≡◌, ◌⊎◌, inl, inr, ℕ, ◌-◌, ◌^◌, ◌≤◌, Bool, true, false, List, [], Option, Some, None, is_some, refl, ap, sym, ◌∙◌, subst}
use Rattle.std.proofs.lemmas.Bool.{lt-ltb}
use Rattle.std.specs.Prelude.{◌==◌, if◌then◌else◌, nat_lt, option_and_then, option_map, length}
use Rattle.std.specs.FinMap.{empty}
use Rattle.value_core.specs.declared.state.Triple.{Triple}
use Rattle.op_keys.specs.declared.level.Level.{Level}
use Rattle.op_keys.specs.declared.order.Exit.{Exit}
use Rattle.op_keys.specs.declared.order.Exit.TheVariants as exit
use Rattle.term_core.specs.declared.program.Program.{Program}
use Rattle.sched_rows.specs.declared.row.Row.{Row}
use Rattle.sched_rows.specs.Rows.{Rows}
use Rattle.sched_rows.specs.Validity.{IsTime}
use Rattle.core_rules.specs.declared.events.Event.{Event}
use Rattle.core_rules.specs.declared.events.Refusal.TheVariants as refusal
use Rattle.core_rules.specs.declared.events.What.{What}
use Rattle.core_rules.specs.declared.events.What.TheVariants as what
use Rattle.core_rules.specs.declared.jobs.Job.{Job}
use Rattle.core_rules.specs.declared.jobs.Mark.{Mark}
use Rattle.core_rules.specs.declared.jobs.Mark.TheVariants.{Unmarked, Automatic, User}
use Rattle.core_rules.specs.Changes.{Change, Tried, Makes, cancelled_row}
use Rattle.core_rules.specs.Core.{CoreState, is_output, job_numbered, op_of, stage}
use Rattle.core_rules.specs.Exits.{exit_outcome}
use Rattle.core_rules.specs.Openings.{Durable, opened, start}
use Rattle.core_rules.specs.Orders.{result_row}
use Rattle.core_rules.specs.Parts.{Work, core_of, dressed, work_of}
use Rattle.core_rules.specs.Settling.{newly_marked, settle, settle_for, wanted}
use Rattle.core_rules.specs.Steps.{Accepted, Refused, at_time, settled_answer, step}
use Rattle.core_rules.proofs.Parts.{settle_by_work}
use Rattle.engine_rules.specs.declared.edits.Edit.{Edit}
use Rattle.core_rules.specs.declared.own.Own.{Own}
use Rattle.core_rules.specs.declared.own.Own.TheVariants as own
use Rattle.core_rules.specs.declared.own.RowChange.{RowChange}
use Rattle.core_rules.specs.declared.own.RowChange.TheVariants as row
use Rattle.engine_rules.specs.declared.tests.Tested.{Tested}
use Rattle.engine_rules.specs.declared.tests.Tested.TheVariants as tested
use Rattle.engine_rules.specs.Answers.{reply_before}
use Rattle.engine_rules.specs.Edits.{IsOwnChange, MayOwn, cancelled_rows, change_of, edit_of, edited, inputs_made, left_row, left_rows, marks_of, pick_job, taken_rows}
use Rattle.core_rules.specs.Own.{own_change, own_made, rows_made}
use Rattle.engine_rules.specs.Laws.{joined, settled_parts}
use Rattle.core_rules.specs.Own.{PutsInTime}
use Rattle.engine_rules.specs.Openings.{opened_parts, opened_with}
use Rattle.engine_rules.specs.Tests.{answered, cancel_test, confirm_test, finish_test, passed, rate_test, runs, take_test, test_of, tried, unless, worker_test}
use Rattle.engine_rules.proofs.Edited.{answers_by_tests, own_over, own_untouched, pause_tried, rate_tried, tests_decide}
use Rattle.engine_rules.proofs.RepliedBefore.{replies_before}
use Rattle.core_rules.specs.Entries.{stage_in}

-- ---- steps

-- settling after an own change, by the jobs alone
settled_by_parts : (s : CoreState) (e : Event) →
    settle (edited (edit_of (at_time s e.at) e.what) (at_time s e.at))
    ≡ option_map (dressed (inputs_made (edit_of (at_time s e.at) e.what).input s.inputs) (own_made (edit_of (at_time s e.at) e.what).own (at_time s e.at)).version) (settled_parts s e)
settled_by_parts s e =
    let u : CoreState = at_time s e.at in
    let d : Edit = edit_of u e.what in
    let v : CoreState = own_made d.own u in
    settle_by_work (wanted (edited d u)) (edited d u)
    ∙ (λ i. option_map (dressed (inputs_made d.input s.inputs) v.version) (settle_for (wanted (edited d u)) (core_of (work_of v) (rows_made d.row s.rows) ((own_untouched u d.own).now i))))

passed_step : (s : CoreState) (e : Event) → test_of (at_time s e.at) e.what ≡ tested.Passes → step s e ≡ passed s (change_of (at_time s e.at) e.what)
passed_step s e t = answers_by_tests s e ∙ ap (λ x. answered s x (change_of (at_time s e.at) e.what)) t

pub accepted_by_parts : (s : CoreState) (e : Event) (w : Work) → test_of (at_time s e.at) e.what ≡ tested.Passes → (s.version == 2 ^ 64 - 1) ≡ false →
    settled_parts s e ≡ Some (core_of w (rows_made (edit_of (at_time s e.at) e.what).row s.rows) (at_time s e.at).now) →
    step s e ≡ Accepted (joined s e w) (reply_before s (change_of (at_time s e.at) e.what) w.next)
accepted_by_parts s e w t v h =
    let u : CoreState = at_time s e.at in
    let d : Edit = edit_of u e.what in
    let c : Change = change_of u e.what in
    let after : CoreState = dressed (inputs_made d.input s.inputs) (own_made d.own u).version (core_of w (rows_made d.row s.rows) u.now) in
    let settled : settle c.state ≡ Some after = settled_by_parts s e ∙ ap (option_map (dressed (inputs_made d.input s.inputs) (own_made d.own u).version)) h in
    passed_step s e t
    ∙ ap (λ b. if b then Refused refusal.NumbersUsed else settled_answer s c (settle c.state)) v
    ∙ ap (settled_answer s c) settled
    ∙ ap (Accepted (joined s e w)) (replies_before s c after settled)

pub used_by_parts : (s : CoreState) (e : Event) → test_of (at_time s e.at) e.what ≡ tested.Passes → ((s.version == 2 ^ 64 - 1) ≡ true) ⊎ (settled_parts s e ≡ None) → step s e ≡ Refused refusal.NumbersUsed
used_by_parts s e t (inl v) = passed_step s e t ∙ ap (λ b. if b then Refused refusal.NumbersUsed else settled_answer s (change_of (at_time s e.at) e.what) (settle (change_of (at_time s e.at) e.what).state)) v
used_by_parts s e t (inr h) =
    let u : CoreState = at_time s e.at in
    let d : Edit = edit_of u e.what in
    let c : Change = change_of u e.what in
    let settled : settle c.state ≡ None = settled_by_parts s e ∙ ap (option_map (dressed (inputs_made d.input s.inputs) (own_made d.own u).version)) h in
    passed_step s e t
    ∙ ap (λ o. if s.version == 2 ^ 64 - 1 then Refused refusal.NumbersUsed else settled_answer s c o) settled
    ∙ used (s.version == 2 ^ 64 - 1)
  where
    used : (b : Bool) → (if b then Refused refusal.NumbersUsed else Refused refusal.NumbersUsed) ≡ Refused refusal.NumbersUsed
    used true = refl
    used false = refl

-- ---- openings

pub opened_by_parts : (program : Program) (durable : Durable) (threshold : Option Level) (reading : ℕ) (w : Work) →
    opened_parts program durable threshold reading ≡ Some (core_of w durable.rows (opened program durable threshold reading).now) →
    start program durable threshold reading ≡ Some (opened_with (opened program durable threshold reading) w)
unfolding start
opened_by_parts program durable threshold reading w h =
    let o : CoreState = opened program durable threshold reading in
    settle_by_work (wanted o) o ∙ ap (option_map (dressed o.inputs 1)) h

pub unopened_by_parts : (program : Program) (durable : Durable) (threshold : Option Level) (reading : ℕ) → opened_parts program durable threshold reading ≡ None → start program durable threshold reading ≡ None
unfolding start
unopened_by_parts program durable threshold reading h =
    let o : CoreState = opened program durable threshold reading in
    settle_by_work (wanted o) o ∙ ap (option_map (dressed o.inputs 1)) h

-- ---- changes among the jobs are the core's own

told_by : (s : CoreState) (o : Own) (x : Tried) (t : Tested) (c : Change) → x ≡ tried t c → t ≡ tested.Passes → work_of c.state ≡ work_of (own_made o s) → c.marks ≡ marks_of s o → IsOwnChange s o x
told_by s o x t c e passes work marks = record { made = c; is = e ∙ ap (λ y. tried y c) passes; work = work; marks = marks }

pub own_is_change : (s : CoreState) (o : Own) → MayOwn s o → IsOwnChange s o (own_change s o)
own_is_change s own.None m = record { made = _; is = refl; work = refl; marks = refl }
own_is_change s (own.Level threshold) m = record { made = _; is = refl; work = refl; marks = refl }
own_is_change s (own.Confirm n) m = told_by s (own.Confirm n) _ _ (change_of s (what.Confirm n)) (tests_decide s (what.Confirm n))
    (ap (λ o. confirm_test (option_map (stage s) o)) m.1 ∙ ap (λ g. confirm_test (Some g)) m.2) refl refl
own_is_change s (own.Cancel n) m = told_by s (own.Cancel n) _ _ (change_of s (what.Cancel n)) (tests_decide s (what.Cancel n))
    (ap (λ o. cancel_test (option_map (λ j. j.mark) o)) m.1 ∙ ap (unless refusal.AlreadyCancelling) m.2) refl refl
own_is_change s (own.Take w) m = told_by s (own.Take w) _ _ (change_of s (what.Take w)) (tests_decide s (what.Take w))
    (ap (λ b. take_test b (is_some (pick_job s w))) (lt-ltb w (length s.program.workers) m.0)
    ∙ ap (λ o. take_test true (is_some o)) (ap (option_and_then (job_numbered s.jobs)) m.2 ∙ m.3.1)) refl refl
own_is_change s (own.Finish n) m = told_by s (own.Finish n) _ _ (change_of s (what.Finish n exit.Fault)) (tests_decide s (what.Finish n exit.Fault))
    (ap (λ o. finish_test (runs o)) m.1 ∙ ap finish_test m.2) refl refl
own_is_change s (own.Pause w) m = told_by s (own.Pause w) _ _ _ (pause_tried true s w (nat_lt w (length s.program.workers)))
    (ap (λ b. worker_test (if b then Some w else None)) (lt-ltb w (length s.program.workers) m)) refl refl
own_is_change s (own.Resume w) m = told_by s (own.Resume w) _ _ _ (pause_tried false s w (nat_lt w (length s.program.workers)))
    (ap (λ b. worker_test (if b then Some w else None)) (lt-ltb w (length s.program.workers) m)) refl refl
own_is_change s (own.Rate c rate) m = told_by s (own.Rate c rate) _ _ _ (rate_tried s c rate (nat_lt c (length s.program.clients)))
    (ap (λ b. rate_test (if b then Some c else None) rate) (lt-ltb c (length s.program.clients) m.0) ∙ ap (unless (refusal.RateOutOfRange rate)) m.1) refl refl

-- ---- jobs alone

may_alone : (s : CoreState) (o : Own) (rows : Rows) → MayOwn s o → MayOwn (core_of (work_of s) rows s.now) o
may_alone s own.None rows m = m
may_alone s (own.Level threshold) rows m = m
may_alone s (own.Confirm n) rows m = m
may_alone s (own.Cancel n) rows m = m
may_alone s (own.Take w) rows m = m
may_alone s (own.Finish n) rows m = m
may_alone s (own.Pause w) rows m = m
may_alone s (own.Resume w) rows m = m
may_alone s (own.Rate c rate) rows m = m

pub own_alone : (s : CoreState) (o : Own) (rows : Rows) → (work_of (own_made o (core_of (work_of s) rows s.now)) ≡ work_of (own_made o s)) × (MayOwn s o → MayOwn (core_of (work_of s) rows s.now) o)
own_alone s o rows = (ap work_of (own_over s o rows [] 0), may_alone s o rows)

pub stages_by_work : (s u : CoreState) (t : Triple) → work_of s ≡ work_of u → stage_in s t ≡ stage_in u t
stages_by_work s u t e = ap (λ w. stage_in (core_of w empty 0) t) e

marks_alone : (s : CoreState) (o : Own) (rows : Rows) → marks_of (core_of (work_of s) rows s.now) o ≡ marks_of s o
marks_alone s own.None rows = refl
marks_alone s (own.Level threshold) rows = refl
marks_alone s (own.Confirm n) rows = refl
marks_alone s (own.Cancel n) rows = refl
marks_alone s (own.Take w) rows = refl
marks_alone s (own.Finish n) rows = refl
marks_alone s (own.Pause w) rows = refl
marks_alone s (own.Resume w) rows = refl
marks_alone s (own.Rate c rate) rows = refl

pub own_alone_is_change : (s : CoreState) (o : Own) (rows : Rows) → MayOwn s o →
    (made : Change) × (own_change (core_of (work_of s) rows s.now) o ≡ Makes made) × (work_of made.state ≡ work_of (own_made o s)) × (made.marks ≡ marks_of s o)
own_alone_is_change s o rows m =
    let t = own_is_change (core_of (work_of s) rows s.now) o (may_alone s o rows m) in
    (t.made, t.is, t.work ∙ (own_alone s o rows).0, t.marks ∙ marks_alone s o rows)

-- ---- rows that are put

-- a row of a change, where it puts one, ended now
abbrev PutNow : CoreState → RowChange → Type 0
PutNow s c = (r : Row) → c ≡ row.Put r → r.finished ≡ s.now

none_put : (s : CoreState) (c : RowChange) → ((r : Row) → c ≡ row.Put r → ⊥) → PutNow s c
none_put s c h r e = absurd (h r e)

put_now : (s : CoreState) (q : Row) → q.finished ≡ s.now → PutNow s (row.Put q)
put_now s q f r e = let same : q ≡ r = cc in subst (λ x. x.finished ≡ s.now) same f

if_put : (s : CoreState) (b : Bool) (c d : RowChange) → PutNow s c → PutNow s d → PutNow s (if b then c else d)
if_put s true c d p q = p
if_put s false c d p q = q

no_row_put : (s : CoreState) → PutNow s row.None
no_row_put s = none_put s row.None (λ r e. let z : ⊥ = cc in z)

void_put : (s : CoreState) (op key : List ℕ) → PutNow s (row.Void op key)
void_put s op key = none_put s (row.Void op key) (λ r e. let z : ⊥ = cc in z)

mark_put : (s : CoreState) (op key : List ℕ) → PutNow s (row.Mark op key)
mark_put s op key = none_put s (row.Mark op key) (λ r e. let z : ⊥ = cc in z)

cancelled_put : (s : CoreState) (o : Option Job) → PutNow s (cancelled_rows s o)
cancelled_put s None = no_row_put s
cancelled_put s (Some j) = if_put s (is_some j.worker) row.None (row.Put (cancelled_row s j)) (no_row_put s) (put_now s (cancelled_row s j) refl)

taken_put : (s : CoreState) (o : Option Job) → PutNow s (taken_rows s o)
taken_put s None = no_row_put s
taken_put s (Some j) = if_put s (is_output (op_of s j.triple.op)) _ _ (void_put s _ _) (no_row_put s)

left_put : (s : CoreState) (j : Job) (x : Exit) (m : Mark) → PutNow s (left_row m s j x)
left_put s j x Automatic = no_row_put s
left_put s j x User = put_now s (cancelled_row s j) refl
left_put s j x Unmarked = put_now s (result_row s j (exit_outcome x)) refl

ended_put : (s : CoreState) (o : Option Job) (x : Exit) → PutNow s (left_rows s o x)
ended_put s None x = no_row_put s
ended_put s (Some j) x = left_put s j x j.mark

pub puts_now : (s : CoreState) (w : What) (r : Row) → (edit_of s w).row ≡ row.Put r → r.finished ≡ s.now
puts_now s (what.SetInput name v) r e = no_row_put s r e
puts_now s what.Tick r e = no_row_put s r e
puts_now s (what.SetLevel threshold) r e = no_row_put s r e
puts_now s (what.Confirm n) r e = no_row_put s r e
puts_now s (what.Cancel n) r e = cancelled_put s (job_numbered s.jobs n) r e
puts_now s (what.Rebuild op key) r e = mark_put s op key r e
puts_now s (what.Pause w) r e = no_row_put s r e
puts_now s (what.Resume w) r e = no_row_put s r e
puts_now s (what.Rate pool client rate) r e = no_row_put s r e
puts_now s (what.Take w) r e = taken_put s (pick_job s w) r e
puts_now s (what.Finish n x) r e = ended_put s (job_numbered s.jobs n) x r e

in_time : (c : RowChange) → ((r : Row) → c ≡ row.Put r → IsTime r.finished) → PutsInTime c
in_time row.None h = tt
in_time (row.Put r) h = h r refl
in_time (row.Void op key) h = tt
in_time (row.Mark op key) h = tt

pub puts_at_times : (s : CoreState) (w : What) → IsTime s.now → PutsInTime (edit_of s w).row
puts_at_times s w t = in_time (edit_of s w).row (λ r e. subst (λ n. n ≤ 2 ^ 60) (sym (puts_now s w r e)) t)

-- ---- marks

pub marked_alone : (s : CoreState) (ws : List Triple) (rows : Rows) (now : ℕ) → newly_marked ws (core_of (work_of s) rows now) ≡ newly_marked ws s
marked_alone s ws rows now = refl
