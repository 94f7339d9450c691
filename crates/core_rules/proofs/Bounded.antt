-- The bounds at openings and through steps.
use Rattle.std.proofs.Common.{◌≡◌, ℕ, zero, suc, ◌+◌, ◌-◌, ◌<◌, ◌≤◌, ◌^◌, max, min, Bool, true, false, cond, inl, inr, List, [], ◌∷◌, map, length, Option, Some, None, is_some, refl, ap, sym, ◌∙◌, subst, arith}
use Rattle.std.proofs.lemmas.Bool.{cases_lt, cond_both, eq-eqb, le-leb, ltb-true, and_from}
use Rattle.std.proofs.lemmas.List.{length-map, length-replicate, length-set}
use Rattle.std.specs.Prelude.{◌==◌, nat_le, not, filter, nat_lt, slice_set}
use Rattle.std.specs.FinMap.{get, get-empty, get-entries, get-insert, get-remove, entries, insert, remove}
use Rattle.std.specs.FinMap.Entries.{find as find_entry}
use Rattle.std.specs.List.{AllByRecursion}
use Rattle.std.specs.Ordering.{eq_by_cmp}
use Rattle.value_core.specs.declared.state.Stage.{Stage}
use Rattle.value_core.specs.declared.state.Stage.TheVariants.{Ready, Waiting, Running}
use Rattle.value_core.specs.declared.state.Triple.{Triple}
use Rattle.value_core.specs.declared.value.Value.{Value}
use Rattle.op_keys.specs.declared.declarations.ClientDecl.{ClientDecl}
use Rattle.op_keys.specs.declared.declarations.OpDecl.{OpDecl}
use Rattle.op_keys.specs.declared.level.Level.{Level}
use Rattle.op_keys.specs.declared.order.Exit.{Exit}
use Rattle.term_core.specs.Limits.{IsClientWithin, IsWithinLimits}
use Rattle.term_core.specs.declared.program.InputDecl.{InputDecl}
use Rattle.term_core.specs.declared.program.Program.{Program}
use Rattle.sched_rows.specs.declared.row.Row.{Row}
use Rattle.sched_rows.specs.RowKeys.{RowKey, key_of, row_key, row_key_cmp, row_key_cmp_total}
use Rattle.sched_rows.specs.Rows.{Rows, marked}
use Rattle.sched_rows.proofs.KeyOrders.{row_keys_tie}
use Rattle.fair_pool.specs.declared.ticket.Ticket.{Ticket}
use Rattle.fair_pool.specs.Fair.{Fair, ticket_of, with_hint, with_hint_of}
use Rattle.fair_pool.specs.Hints.{HintKey, HintWorkers, hint_key_cmp, hint_key_total}
use Rattle.fair_pool.specs.Sound.{is_rate}
use Rattle.core_rules.specs.declared.done.Done.{Done}
use Rattle.core_rules.specs.declared.events.Event.{Event}
use Rattle.core_rules.specs.declared.events.What.{What}
use Rattle.core_rules.specs.declared.events.What.TheVariants as what
use Rattle.core_rules.specs.declared.jobs.Job.{Job}
use Rattle.core_rules.specs.declared.jobs.Mark.{Mark}
use Rattle.core_rules.specs.declared.jobs.Mark.TheVariants.{Automatic, Unmarked, User}
use Rattle.core_rules.specs.declared.notes.Ending.{Ending}
use Rattle.core_rules.specs.Bounds.{AreRowsKeyed, IsBounded, IsFairWithin}
use Rattle.core_rules.specs.Changes.{Change, Tried, cancel, cancelled_row, confirm, confirm_at, input_index, pause, rebuild, rebuild_free, rebuild_row, set_input, set_rate, takes}
use Rattle.core_rules.specs.Core.{CoreState, is_output, job_numbered, op_of, stage}
use Rattle.core_rules.specs.Entries.{key_for}
use Rattle.core_rules.specs.Exits.{exit_outcome}
use Rattle.core_rules.specs.Openings.{Durable, IsDurable, IsOpenable, IsRowOpenable, latest, opened, or_declared, start, stored_at}
use Rattle.core_rules.specs.Orders.{finish, finish_by, leave, picked, result_row, take_by, take_job, take_pick, taken, voided}
use Rattle.core_rules.specs.Settling.{created, dropped, is_unmarked, live_on, lost_marked, mark_lost, new_job, new_ticket, settle_for, stays, targets, wanted}
use Rattle.core_rules.specs.Steps.{Accepted, at_time, change, step}
use Rattle.core_rules.proofs.Helpers.{all_filter, all_push}
use Rattle.core_rules.proofs.Moves.{Aside, Ended, Gone, Marked, Moved, Noted, Took, accepts}
use Rattle.core_rules.proofs.Numbers.{frame_of, marked_number, next_bounded, now_bounded}
use Rattle.core_rules.proofs.Rising.{all_map, all_with, found_in}
use Rattle.core_rules.proofs.Settling.{kept_by_creating, same_settled}
use Rattle.core_rules.proofs.Trying.{Holds, barred, by_test, either, idles, makes}
use Rattle.value_core.proofs.Basics.{cond_is}

-- ---- tickets, starts, rates, pauses and hints

-- with other tickets and as many next starts
fair_like : (p : Program) (f : Fair) (tickets : List Ticket) (next : List ℕ) → length next ≡ length f.next → IsFairWithin p f → IsFairWithin p (record f { tickets = tickets; next = next })
fair_like p f tickets next e h = record { next = e ∙ h.next; rates = h.rates; paused = h.paused; each_rate = h.each_rate; hints = h.hints }

rates_set : (rs : List ℕ) (c rate : ℕ) → is_rate rate ≡ true → AllByRecursion (λ r. is_rate r ≡ true) rs → AllByRecursion (λ r. is_rate r ≡ true) (slice_set rs c rate)
rates_set [] c rate ok h = tt
rates_set (r ∷ rs) zero rate ok h = (ok, h.1)
rates_set (r ∷ rs) (suc c) rate ok h = (h.0, rates_set rs c rate ok h.1)

hints_noted : (n w : ℕ) (o : Option Ticket) (hints : HintWorkers) → w < n → ((k : HintKey) (v : ℕ) → get hints k ≡ Some v → v < n) → (k : HintKey) (v : ℕ) → get (with_hint_of w o hints) k ≡ Some v → v < n
hints_noted n w None hints l h k v e = h k v e
hints_noted n w (Some t) hints l h k v e = by_hint t.hint e
  where
    by_hint : (o : Option (List ℕ)) → get (with_hint w t.pool o hints) k ≡ Some v → v < n
    by_hint None f = h k v f
    by_hint (Some x) f = elim (cond_is {A = Option ℕ} (eq_by_cmp hint_key_cmp k (record { pool = t.pool; hint = x })) (Some w) (get hints k) (Some v) (sym (get-insert hint_key_total hints (record { pool = t.pool; hint = x }) w k) ∙ f)) [
      | inl i ↦ let is : w ≡ v = (let g = i.1 in cc) in subst (λ z. z < n) is l
      | inr i ↦ h k v i.1
    ]

fair_taken : (p : Program) (s : CoreState) (w : ℕ) (j : Job) → w < length p.workers → IsFairWithin p s.fair → IsFairWithin p (taken s w j).fair
fair_taken p s w j l h = record {
  next = h.next;
  rates = h.rates;
  paused = h.paused;
  each_rate = h.each_rate;
  hints = hints_noted (length p.workers) w (ticket_of j.number s.fair.tickets) s.fair.hints l h.hints;
}

-- ---- rows

pub keyed_insert : (rows : Rows) (k : RowKey) (r : Row) → key_of r ≡ k → 1 ≤ r.job → AreRowsKeyed rows → AreRowsKeyed (insert rows k r)
keyed_insert rows k r is one h k' r' e = elim (eq_by_cmp row_key_cmp k' k) as (λ b. eq_by_cmp row_key_cmp k' k ≡ b → cond b (Some r) (get rows k') ≡ Some r' → (key_of r' ≡ k') × (1 ≤ r'.job)) [
  | true ↦ λ t f. let same : r ≡ r' = cc in (ap key_of (sym same) ∙ is ∙ sym (row_keys_tie k' k t), subst (λ (x : Row). 1 ≤ x.job) same one)
  | false ↦ λ t f. h k' r' f
] refl (sym (get-insert row_key_cmp_total rows k r k') ∙ e)

pub keyed_remove : (rows : Rows) (k : RowKey) → AreRowsKeyed rows → AreRowsKeyed (remove rows k)
keyed_remove rows k h k' r' e = elim (cond_is {A = Option Row} (eq_by_cmp row_key_cmp k' k) None (get rows k') (Some r') (sym (get-remove row_key_cmp_total rows k k') ∙ e)) [
  | inl i ↦ let z : ⊥ = (let f = i.1 in cc) in absurd z
  | inr i ↦ h k' r' i.1
]

-- rows after a row that a live job leaves
keyed_left : (s : CoreState) (n : ℕ) (j : Job) (r : Row) → job_numbered s.jobs n ≡ Some j → r.job ≡ j.number → AllByRecursion (λ (j : Job). 1 ≤ j.number) s.jobs → AreRowsKeyed s.rows → AreRowsKeyed (insert s.rows (key_of r) r)
keyed_left s n j r is num first h = keyed_insert s.rows (key_of r) r refl (let f = found_in (λ m. 1 ≤ m) n s.jobs j first is in omega arith) h

keyed_voided : (s : CoreState) (t : Triple) → AreRowsKeyed s.rows → AreRowsKeyed (voided s t)
keyed_voided s t h = cond_both (is_output (op_of s t.op)) (remove s.rows (key_for s t)) s.rows AreRowsKeyed (λ _. keyed_remove s.rows (key_for s t) h) (λ _. h)

-- ---- own changes

abbrev AreFirst : List Job → Type 0
AreFirst js = AllByRecursion (λ (j : Job). 1 ≤ j.number) js

-- what an own change keeps
pub record OwnKeeps (s : CoreState) (c : Change) : Type 0 where
  pub inputs : length c.state.inputs ≡ length s.inputs
  pub fair : IsFairWithin s.program s.fair → IsFairWithin s.program c.state.fair
  pub rows : AreFirst s.jobs → AreRowsKeyed s.rows → AreRowsKeyed c.state.rows

abbrev Keeps : CoreState → Tried → Type 0
Keeps s x = Holds (OwnKeeps s) x

-- neither inputs nor rows
fair_alone : (s : CoreState) (c : Change) → c.state.inputs ≡ s.inputs → c.state.rows ≡ s.rows → (IsFairWithin s.program s.fair → IsFairWithin s.program c.state.fair) → OwnKeeps s c
fair_alone s c inputs rows f = record { inputs = ap length inputs; fair = f; rows = λ _ h. subst AreRowsKeyed (sym rows) h }

set_input_keeps : (s : CoreState) (name : List ℕ) (v : Value) (i : ℕ) (o : Option InputDecl) → Keeps s (set_input s name v i o)
set_input_keeps s name v i None = barred (OwnKeeps s) _
set_input_keeps s name v i (Some d) = either (OwnKeeps s) (takes d v) _ _ (makes (OwnKeeps s) _ (record { inputs = length-set s.inputs i v; fair = λ h. h; rows = λ _ h. h })) (barred (OwnKeeps s) _)

confirm_at_keeps : (s : CoreState) (j : Job) (g : Stage) → Keeps s (confirm_at s j g)
confirm_at_keeps s j Ready = barred (OwnKeeps s) _
confirm_at_keeps s j Running = barred (OwnKeeps s) _
confirm_at_keeps s j Waiting = makes (OwnKeeps s) _ (fair_alone s _ refl refl (λ h. h))

confirm_keeps : (s : CoreState) (o : Option Job) → Keeps s (confirm s o)
confirm_keeps s None = barred (OwnKeeps s) _
confirm_keeps s (Some j) = confirm_at_keeps s j (stage s j)

cancel_keeps : (s : CoreState) (n : ℕ) (o : Option Job) → job_numbered s.jobs n ≡ o → Keeps s (cancel s o)
cancel_keeps s n None is = barred (OwnKeeps s) _
cancel_keeps s n (Some j) is = either (OwnKeeps s) (is_unmarked j.mark) _ _
    (either (OwnKeeps s) (is_some j.worker) _ _
    (makes (OwnKeeps s) _ (fair_alone s _ refl refl (λ h. h)))
    (makes (OwnKeeps s) _ (record { inputs = refl; fair = λ h. fair_like s.program s.fair _ s.fair.next refl h; rows = λ f h. keyed_left s n j (cancelled_row s j) is refl f h })))
    (barred (OwnKeeps s) _)

rebuild_row_keeps : (s : CoreState) (k : RowKey) (o : Option Row) → get s.rows k ≡ o → Keeps s (rebuild_row s k o)
rebuild_row_keeps s k None is = barred (OwnKeeps s) _
rebuild_row_keeps s k (Some r) is = makes (OwnKeeps s) _ (record { inputs = refl; fair = λ h. h; rows = λ _ h. keyed_insert s.rows k (marked r) (h k r is).0 (h k r is).1 h })

rebuild_free_keeps : (s : CoreState) (k : RowKey) (o : Option Job) → Keeps s (rebuild_free s k o)
rebuild_free_keeps s k (Some j) = barred (OwnKeeps s) _
rebuild_free_keeps s k None = rebuild_row_keeps s k (get s.rows k) refl

rebuild_keeps : (s : CoreState) (name key : List ℕ) (o : Option ℕ) → Keeps s (rebuild s name key o)
rebuild_keeps s name key None = barred (OwnKeeps s) _
rebuild_keeps s name key (Some op) = rebuild_free_keeps s (row_key name key) (live_on s.jobs op key)

pause_keeps : (b : Bool) (s : CoreState) (o : Option ℕ) → Keeps s (pause b s o)
pause_keeps b s None = barred (OwnKeeps s) _
pause_keeps b s (Some w) = makes (OwnKeeps s) _ (fair_alone s _ refl refl
    (λ h. record { next = h.next; rates = h.rates; paused = length-set s.fair.paused w b ∙ h.paused; each_rate = h.each_rate; hints = h.hints }))

set_rate_keeps : (s : CoreState) (rate : ℕ) (o : Option ℕ) → Keeps s (set_rate s rate o)
set_rate_keeps s rate None = barred (OwnKeeps s) _
set_rate_keeps s rate (Some c) = by_test (OwnKeeps s) (is_rate rate) _ _
    (λ ok. makes (OwnKeeps s) _ (fair_alone s _ refl refl
    (λ h. record { next = h.next; rates = length-set s.fair.rates c rate ∙ h.rates; paused = h.paused; each_rate = rates_set s.fair.rates c rate ok h.each_rate; hints = h.hints })))
    (λ _. barred (OwnKeeps s) _)

take_job_keeps : (s : CoreState) (w : ℕ) (o : Option Job) → w < length s.program.workers → Keeps s (take_job s w o)
take_job_keeps s w None l = idles (OwnKeeps s) _
take_job_keeps s w (Some j) l = makes (OwnKeeps s) _ (record { inputs = refl; fair = λ h. fair_taken s.program s w j l h; rows = λ _ h. keyed_voided s j.triple h })

take_pick_keeps : (s : CoreState) (w : ℕ) (o : Option ℕ) → w < length s.program.workers → Keeps s (take_pick s w o)
take_pick_keeps s w None l = idles (OwnKeeps s) _
take_pick_keeps s w (Some n) l = take_job_keeps s w (job_numbered s.jobs n) l

take_keeps : (s : CoreState) (w : ℕ) → Keeps s (take_by s w)
take_keeps s w = by_test (OwnKeeps s) (nat_lt w (length s.program.workers)) _ _ (λ l. take_pick_keeps s w (picked s w) (ltb-true w (length s.program.workers) l)) (λ _. barred (OwnKeeps s) _)

leave_keeps : (s : CoreState) (n : ℕ) (j : Job) (r : Row) (e : Ending) (log : List ℕ) → job_numbered s.jobs n ≡ Some j → r.job ≡ j.number → Keeps s (leave s j r e log)
leave_keeps s n j r e log is num = makes (OwnKeeps s) _ (record { inputs = refl; fair = λ h. h; rows = λ f h. keyed_left s n j r is num f h })

finish_by_keeps : (m : Mark) (s : CoreState) (n : ℕ) (j : Job) (x : Exit) → job_numbered s.jobs n ≡ Some j → Keeps s (finish_by m s j x)
finish_by_keeps Automatic s n j x is = makes (OwnKeeps s) _ (fair_alone s _ refl refl (λ h. h))
finish_by_keeps User s n j x is = leave_keeps s n j (cancelled_row s j) _ _ is refl
finish_by_keeps Unmarked s n j x is = leave_keeps s n j (result_row s j (exit_outcome x)) _ _ is refl

finish_keeps : (s : CoreState) (n : ℕ) (o : Option Job) (x : Exit) → job_numbered s.jobs n ≡ o → Keeps s (finish s o x)
finish_keeps s n None x is = idles (OwnKeeps s) _
finish_keeps s n (Some j) x is = either (OwnKeeps s) (is_some j.worker) _ _ (finish_by_keeps j.mark s n j x is) (idles (OwnKeeps s) _)

change_keeps : (s : CoreState) (w : What) → Keeps s (change s w)
change_keeps s (what.SetInput name v) = set_input_keeps s name v (input_index s name) _
change_keeps s what.Tick = makes (OwnKeeps s) _ (fair_alone s _ refl refl (λ h. h))
change_keeps s (what.SetLevel threshold) = makes (OwnKeeps s) _ (fair_alone s _ refl refl (λ h. h))
change_keeps s (what.Confirm n) = confirm_keeps s (job_numbered s.jobs n)
change_keeps s (what.Cancel n) = cancel_keeps s n (job_numbered s.jobs n) refl
change_keeps s (what.Rebuild op key) = rebuild_keeps s op key _
change_keeps s (what.Pause w) = pause_keeps true s _
change_keeps s (what.Resume w) = pause_keeps false s _
change_keeps s (what.Rate pool client rate) = set_rate_keeps s rate _
change_keeps s (what.Take w) = take_keeps s w
change_keeps s (what.Finish n x) = finish_keeps s n (job_numbered s.jobs n) x refl

-- numbers of jobs
first_moved : (s t : CoreState) → Moved s t → AreFirst s.jobs → AreFirst t.jobs
first_moved s t (Aside f jobs rows tickets) h = subst AreFirst (sym jobs) h
first_moved s t (Noted f n g same jobs rows tickets) h = subst AreFirst (sym jobs) (all_with (λ m. 1 ≤ m) n g s.jobs same.number h)
first_moved s t (Gone f n j is jobs rows tickets) h = subst AreFirst (sym jobs) (all_filter (λ (i : Job). 1 ≤ i.number) (λ i. not (i.number == j.number)) s.jobs h)
first_moved s t (Ended f n j is jobs k r fin num rows tickets) h = subst AreFirst (sym jobs) (all_filter (λ (i : Job). 1 ≤ i.number) (λ i. not (i.number == j.number)) s.jobs h)
first_moved s t (Marked f jobs k r is rows tickets) h = subst AreFirst (sym jobs) h
first_moved s t (Took w n j p is new) h = subst (λ z. AreFirst z.jobs) (sym new) (all_with (λ m. 1 ≤ m) j.number (λ k. record k { worker = Some w }) s.jobs (λ _. refl) h)

-- ---- settling

-- what creating keeps
record Settles (p : Program) (s : CoreState) : Type 0 where
  fair : IsFairWithin p s.fair
  first : 1 ≤ s.next
  jobs : AreFirst s.jobs

fair_new : (p : Program) (s : CoreState) (t : Triple) (o : Option OpDecl) → IsFairWithin p s.fair → IsFairWithin p (new_ticket s t o)
fair_new p s t None h = fair_like p s.fair _ s.fair.next refl h
fair_new p s t (Some d) h = fair_like p s.fair _ _ (length-set s.fair.next _ _) h

settles_created : (p : Program) (s : CoreState) (t : Triple) → Settles p s → Settles p (created s t)
settles_created p s t h = record {
  fair = fair_new p s t (op_of s t.op) h.fair;
  first = (let f = h.first in omega arith);
  jobs = all_push (λ (j : Job). 1 ≤ j.number) s.jobs (new_job s.next t) h.jobs h.first;
}

settles_settled : (p : Program) (ws : List Triple) (s s' : CoreState) → settle_for ws s ≡ Some s' → Settles p s → Settles p s'
settles_settled p ws s s' e h = kept_by_creating (Settles p) (λ z u _ _ q. settles_created p z u q) (lost_marked ws (dropped ws s)) s' (targets ws s.jobs) e (record {
  fair = fair_like p s.fair _ s.fair.next refl h.fair;
  first = h.first;
  jobs = all_map (λ m. 1 ≤ m) (mark_lost ws (dropped ws s)) (filter (stays ws) s.jobs) (marked_number ws (dropped ws s)) (all_filter (λ (j : Job). 1 ≤ j.number) (stays ws) s.jobs h.jobs);
})

-- ---- steps

one_more : (v : ℕ) → v ≤ 2 ^ 64 - 1 → (v == 2 ^ 64 - 1) ≡ false → v + 1 ≤ 2 ^ 64 - 1
one_more v l e = elim (cases_lt v (2 ^ 64 - 1)) [
  | inl g ↦ omega (arith, g)
  | inr g ↦
      let same : v ≡ 2 ^ 64 - 1 = omega (arith, g, l) in
      let t : (v == 2 ^ 64 - 1) ≡ true = eq-eqb v (2 ^ 64 - 1) same in
      let z : true ≡ false = sym t ∙ e in
      let y : ⊥ = cc in absurd y
]

pub bounded_through_step : (s : CoreState) (e : Event) (s' : CoreState) (r : Done) → step s e ≡ Accepted s' r → IsBounded s → IsBounded s'
bounded_through_step s e s' r h b =
    let a = accepts s e s' r h in
    let u = at_time s e.at in
    let own = change_keeps u e.what a.own a.changed in
    let frame = frame_of u a.own.state a.moved in
    let same = same_settled (wanted a.own.state) a.own.state a.after a.settled in
    let settles = settles_settled s.program (wanted a.own.state) a.own.state a.after a.settled (record {
      fair = own.fair b.fair;
      first = subst (λ n. 1 ≤ n) (sym frame.next) b.first_next;
      jobs = first_moved u a.own.state a.moved b.jobs;
    }) in
    let last = next_bounded (wanted a.own.state) a.own.state a.after a.settled (subst (λ n. n ≤ 2 ^ 62) (sym frame.next) b.last_next) in
    let program : a.after.program ≡ s.program = same.program ∙ frame.program in
    let version : s'.version ≡ s.version + 1 = ap (λ z. z.version) a.new in
    let more = one_more s.version b.last_version a.left in
    record {
      now = now_bounded s e s' r h b.now;
      first_next = subst (λ z. 1 ≤ z.next) (sym a.new) settles.first;
      last_next = subst (λ z. z.next ≤ 2 ^ 62) (sym a.new) last;
      first_version = omega (arith, version);
      last_version = omega (arith, version, more);
      inputs = ap (λ z. length z.inputs) a.new ∙ ap length same.inputs ∙ own.inputs ∙ b.inputs ∙ sym (ap (λ (p : Program). length p.inputs) program) ∙ sym (ap (λ z. length z.program.inputs) a.new);
      rows = subst (λ z. AreRowsKeyed z.rows) (sym a.new) (subst AreRowsKeyed (sym same.rows) (own.rows b.jobs b.rows));
      jobs = subst (λ z. AreFirst z.jobs) (sym a.new) settles.jobs;
      fair = subst (λ z. IsFairWithin z.program z.fair) (sym a.new) (subst (λ p. IsFairWithin p a.after.fair) (sym program) settles.fair);
    }

-- ---- openings

row_openable : (next : ℕ) (es : List (RowKey × Row)) (k : RowKey) (r : Row) → AllByRecursion (IsRowOpenable next) es → find_entry row_key_cmp k es ≡ Some r → IsRowOpenable next (k, r)
row_openable next [] k r h f = let z : ⊥ = cc in absurd z
row_openable next (e ∷ es) k r h f = elim (eq_by_cmp row_key_cmp k e.0) as (λ b. eq_by_cmp row_key_cmp k e.0 ≡ b → cond b (Some e.1) (find_entry row_key_cmp k es) ≡ Some r → IsRowOpenable next (k, r)) [
  | true ↦ λ t g. let is : e.1 ≡ r = cc in subst (IsRowOpenable next) (λ i. (sym (row_keys_tie k e.0 t) i, is i)) h.0
  | false ↦ λ t g. row_openable next es k r h.1 g
] refl f

-- what holds of each entry holds of each row that is found
pub found_openable : (d : Durable) (k : RowKey) (r : Row) → IsOpenable d → get d.rows k ≡ Some r → IsRowOpenable d.next (k, r)
found_openable d k r h e = row_openable d.next (entries d.rows) k r h.rows (sym (get-entries d.rows k) ∙ e)

pub durable_from : (d : Durable) → IsOpenable d → IsDurable d
durable_from d h k r e = (found_openable d k r h e).below

-- rows that may be opened with finished by 2^60, so the last one did
pub latest_within : (t next : ℕ) (es : List (RowKey × Row)) → t ≤ 2 ^ 60 → AllByRecursion (IsRowOpenable next) es → latest t es ≤ 2 ^ 60
latest_within t next [] l h = l
latest_within t next (e ∷ es) l h = let f = h.0.finished in latest_within (max t e.1.finished) next es (omega (arith, l, f)) h.1

declared_rates : (ds : List ClientDecl) → AllByRecursion IsClientWithin ds → AllByRecursion (λ r. is_rate r ≡ true) (map (λ d. d.rate) ds)
declared_rates [] h = tt
declared_rates (d ∷ ds) h = (and_from (nat_le 1 d.rate) (nat_le d.rate 1000) (le-leb 1 d.rate h.0.some_rate) (le-leb d.rate 1000 h.0.rate), declared_rates ds h.1)

fair_opened : (p : Program) (d : Durable) (threshold : Option Level) (reading : ℕ) → IsWithinLimits p → IsFairWithin p (opened p d threshold reading).fair
fair_opened p d threshold reading within = record {
  next = length-replicate (length p.clients) 0;
  rates = length-map p.clients (λ (c : ClientDecl). c.rate);
  paused = length-replicate (length p.workers) false;
  each_rate = declared_rates p.clients within.clients;
  hints = λ k w e. let z : None ≡ Some w = sym (get-empty hint_key_cmp k) ∙ e in let y : ⊥ = cc in absurd y;
}

pub bounded_at_opening : (program : Program) (durable : Durable) (threshold : Option Level) (reading : ℕ) (s : CoreState) → IsWithinLimits program → IsOpenable durable → start program durable threshold reading ≡ Some s → IsBounded s
unfolding start
bounded_at_opening program durable threshold reading s within d h =
    let o : CoreState = opened program durable threshold reading in
    let same = same_settled (wanted o) o s h in
    let settles = settles_settled program (wanted o) o s h (record { fair = fair_opened program durable threshold reading within; first = d.first_next; jobs = tt }) in
    let first : o.now ≤ 2 ^ 60 = latest_within (min reading (2 ^ 60)) durable.next (entries durable.rows) (omega arith) d.rows in
    let now : s.now ≡ o.now = same.now in
    let version : s.version ≡ 1 = same.version in
    record {
      now = omega (arith, first, now);
      first_next = settles.first;
      last_next = next_bounded (wanted o) o s h d.last_next;
      first_version = omega (arith, version);
      last_version = omega (arith, version);
      inputs = ap length same.inputs ∙ length-map program.inputs (λ (i : InputDecl). or_declared i (stored_at durable.inputs i.name)) ∙ sym (ap (λ (p : Program). length p.inputs) same.program);
      rows = subst AreRowsKeyed (sym same.rows) (λ k r e. let g = found_openable durable k r d e in (g.key, g.first));
      jobs = settles.jobs;
      fair = subst (λ p. IsFairWithin p s.fair) (sym same.program) settles.fair;
    }
