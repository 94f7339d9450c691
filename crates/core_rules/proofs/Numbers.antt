-- `now` never falls, no row finished after it, and the next number is above every live job's and every row's.
use Rattle.std.proofs.Common.{◌≡◌, ℕ, ◌+◌, ◌<◌, ◌≤◌, ◌^◌, max, min, true, not, inl, inr, List, [], ◌∷◌, Option, Some, None, refl, ap, sym, ◌∙◌, subst, arith}
use Rattle.std.proofs.lemmas.Bool.{cond_both, ltb-true}
use Rattle.std.specs.Prelude.{◌==◌, filter}
use Rattle.std.specs.Ordering.{eq_by_cmp}
use Rattle.std.specs.FinMap.{get, insert, remove, entries, get-insert, get-remove, get-entries}
use Rattle.std.specs.FinMap.Entries.{find as find_entry}
use Rattle.value_core.specs.declared.state.Triple.{Triple}
use Rattle.core_rules.proofs.Helpers.{all_filter, all_push}
use Rattle.core_rules.proofs.Moves.{Aside, Ended, Frame, Gone, Marked, Moved, Noted, Took, accepts}
use Rattle.core_rules.proofs.Rising.{all_map, all_with, below_more, found_below, rising_filter, rising_map, rising_push, rising_with}
use Rattle.core_rules.proofs.Settling.{kept_by_creating, same_settled}
use Rattle.core_rules.specs.Core.{CoreState, is_output, op_of, with_job, without_job}
use Rattle.core_rules.specs.Entries.{key_for}
use Rattle.core_rules.specs.Laws.{Numbered, RowsWithin}
use Rattle.core_rules.specs.Openings.{Durable, IsDurable, latest, opened, start}
use Rattle.core_rules.specs.declared.done.Done.{Done}
use Rattle.core_rules.specs.Settling.{created, dropped, is_lost, lost_marked, mark_lost, new_job, settle_for, stays, targets, wanted}
use Rattle.core_rules.specs.Steps.{Accepted, at_time, step}
use Rattle.core_rules.specs.declared.events.Event.{Event}
use Rattle.core_rules.specs.declared.jobs.Job.{Job}
use Rattle.op_keys.specs.declared.level.Level.{Level}
use Rattle.sched_rows.specs.RowKeys.{RowKey, row_key_cmp, row_key_cmp_total}
use Rattle.sched_rows.specs.Rows.{Rows}
use Rattle.sched_rows.specs.declared.row.Row.{Row}
use Rattle.term_core.specs.declared.program.Program.{Program}
use Rattle.value_core.proofs.Basics.{cond_is}

abbrev pub NumberedState : CoreState → Type 0
NumberedState s = Numbered s.now s.next s.rows s.jobs

numbered_at : (now now' next next' : ℕ) (rows rows' : Rows) (jobs jobs' : List Job) → now' ≡ now → next' ≡ next → rows' ≡ rows → jobs' ≡ jobs → Numbered now next rows jobs → Numbered now' next' rows' jobs'
numbered_at now now' next next' rows rows' jobs jobs' p q r u h =
    let a = subst (λ x. Numbered x next rows jobs) (sym p) h in
    let b = subst (λ x. Numbered now' x rows jobs) (sym q) a in
    let c = subst (λ x. Numbered now' next' x jobs) (sym r) b in
    subst (λ x. Numbered now' next' rows' x) (sym u) c

-- ---- rows

rows_more : (now now' next next' : ℕ) (rows : Rows) → now ≤ now' → next ≤ next' → RowsWithin now next rows → RowsWithin now' next' rows
rows_more now now' next next' rows p q h k r e = let i = h k r e in (omega (arith, i.0), omega (arith, i.1))

rows_insert : (now next : ℕ) (rows : Rows) (k : RowKey) (r : Row) → r.finished ≤ now → r.job < next → RowsWithin now next rows → RowsWithin now next (insert rows k r)
rows_insert now next rows k r p q h k' r' e = elim (cond_is (eq_by_cmp row_key_cmp k' k) (Some r) (get rows k') (Some r') (sym (get-insert row_key_cmp_total rows k r k') ∙ e)) [
  | inl i ↦ let is : r ≡ r' = (let f = i.1 in cc) in (subst (λ x. x.finished ≤ now) is p, subst (λ x. x.job < next) is q)
  | inr i ↦ h k' r' i.1
]

rows_remove : (now next : ℕ) (rows : Rows) (k : RowKey) → RowsWithin now next rows → RowsWithin now next (remove rows k)
rows_remove now next rows k h k' r' e = elim (cond_is (eq_by_cmp row_key_cmp k' k) None (get rows k') (Some r') (sym (get-remove row_key_cmp_total rows k k') ∙ e)) [
  | inl i ↦ let z : ⊥ = (let f = i.1 in cc) in absurd z
  | inr i ↦ h k' r' i.1
]

-- ---- own changes

numbered_moved : (s t : CoreState) → Moved s t → NumberedState s → NumberedState t
numbered_moved s t (Aside f jobs rows tickets) h = numbered_at s.now t.now s.next t.next s.rows t.rows s.jobs t.jobs f.now f.next rows jobs h
numbered_moved s t (Noted f n g same jobs rows tickets) h = numbered_at s.now t.now s.next t.next s.rows t.rows (with_job n g s.jobs) t.jobs f.now f.next rows jobs
    (record { rows_within = h.rows_within; jobs_below = all_with (λ m. m < s.next) n g s.jobs same.number h.jobs_below; rising = rising_with n g s.jobs same.number h.rising })
numbered_moved s t (Gone f n j is jobs rows tickets) h = numbered_at s.now t.now s.next t.next s.rows t.rows (without_job j.number s.jobs) t.jobs f.now f.next rows jobs
    (record { rows_within = h.rows_within; jobs_below = all_filter (λ (i : Job). i.number < s.next) (λ i. not (i.number == j.number)) s.jobs h.jobs_below; rising = rising_filter (λ i. not (i.number == j.number)) s.jobs h.rising })
numbered_moved s t (Ended f n j is jobs k r fin num rows tickets) h = numbered_at s.now t.now s.next t.next (insert s.rows k r) t.rows (without_job j.number s.jobs) t.jobs f.now f.next rows jobs
    (record {
      rows_within = rows_insert s.now s.next s.rows k r (omega (arith, fin)) (let l = found_below s.next n s.jobs j h.jobs_below is in omega (arith, num)) h.rows_within;
      jobs_below = all_filter (λ (i : Job). i.number < s.next) (λ i. not (i.number == j.number)) s.jobs h.jobs_below;
      rising = rising_filter (λ i. not (i.number == j.number)) s.jobs h.rising;
    })
numbered_moved s t (Marked f jobs k r is rows tickets) h =
    let i = h.rows_within k r is in
    numbered_at s.now t.now s.next t.next (insert s.rows k (record r { rebuild = true })) t.rows s.jobs t.jobs f.now f.next rows jobs
    (record { rows_within = rows_insert s.now s.next s.rows k (record r { rebuild = true }) i.0 i.1 h.rows_within; jobs_below = h.jobs_below; rising = h.rising })
numbered_moved s t (Took w n j p is new) h = subst NumberedState (sym new) (record {
  rows_within = cond_both (is_output (op_of s j.triple.op)) (remove s.rows (key_for s j.triple)) s.rows (RowsWithin s.now s.next)
      (λ _. rows_remove s.now s.next s.rows (key_for s j.triple) h.rows_within) (λ _. h.rows_within);
  jobs_below = all_with (λ m. m < s.next) j.number (λ k. record k { worker = Some w }) s.jobs (λ _. refl) h.jobs_below;
  rising = rising_with j.number (λ k. record k { worker = Some w }) s.jobs (λ _. refl) h.rising;
})

pub frame_of : (s t : CoreState) → Moved s t → Frame s t
frame_of s t (Aside f jobs rows tickets) = f
frame_of s t (Noted f n g same jobs rows tickets) = f
frame_of s t (Gone f n j is jobs rows tickets) = f
frame_of s t (Ended f n j is jobs k r fin num rows tickets) = f
frame_of s t (Marked f jobs k r is rows tickets) = f
frame_of s t (Took w n j p is new) = subst (Frame s) (sym new) (record { program = refl; now = refl; next = refl; version = refl })

-- ---- settling

pub numbered_created : (s : CoreState) (u : Triple) → NumberedState s → NumberedState (created s u)
numbered_created s u h = record {
  rows_within = rows_more s.now s.now s.next (s.next + 1) s.rows (omega arith) (omega arith) h.rows_within;
  jobs_below = all_push (λ (i : Job). i.number < s.next + 1) s.jobs (new_job s.next u) (below_more s.next (s.next + 1) s.jobs (omega arith) h.jobs_below) (omega arith);
  rising = rising_push s.jobs (new_job s.next u) h.jobs_below h.rising;
}

pub marked_number : (ws : List Triple) (s : CoreState) (j : Job) → (mark_lost ws s j).number ≡ j.number
marked_number ws s j = cond_both {A = Job} (is_lost ws s j) _ _ (λ k. k.number ≡ j.number) (λ _. refl) (λ _. refl)

-- after the first two parts of settling
pub numbered_lost : (ws : List Triple) (s : CoreState) → NumberedState s → NumberedState (lost_marked ws (dropped ws s))
numbered_lost ws s h = record {
  rows_within = h.rows_within;
  jobs_below = all_map (λ m. m < s.next) (mark_lost ws (dropped ws s)) (filter (stays ws) s.jobs) (marked_number ws (dropped ws s)) (all_filter (λ (i : Job). i.number < s.next) (stays ws) s.jobs h.jobs_below);
  rising = rising_map (mark_lost ws (dropped ws s)) (filter (stays ws) s.jobs) (marked_number ws (dropped ws s)) (rising_filter (stays ws) s.jobs h.rising);
}

pub numbered_settled : (ws : List Triple) (s s' : CoreState) → settle_for ws s ≡ Some s' → NumberedState s → NumberedState s'
numbered_settled ws s s' e h = kept_by_creating NumberedState (λ z u _ _ p. numbered_created z u p) (lost_marked ws (dropped ws s)) s' (targets ws s.jobs) e (numbered_lost ws s h)

-- ---- steps and openings

-- after the own change, before settling
pub numbered_own : (s : CoreState) (e : Event) (s' : CoreState) (r : Done) (h : step s e ≡ Accepted s' r) → NumberedState s → NumberedState (accepts s e s' r h).own.state
numbered_own s e s' r h numbered =
    let a = accepts s e s' r h in
    let later : NumberedState (at_time s e.at) = record {
      rows_within = rows_more s.now (max s.now (min e.at (2 ^ 60))) s.next s.next s.rows (omega arith) (omega arith) numbered.rows_within;
      jobs_below = numbered.jobs_below;
      rising = numbered.rising;
    } in
    numbered_moved (at_time s e.at) a.own.state a.moved later

pub numbered_step : (s : CoreState) (e : Event) (s' : CoreState) (r : Done) → step s e ≡ Accepted s' r → NumberedState s → NumberedState s'
numbered_step s e s' r h numbered =
    let a = accepts s e s' r h in
    subst NumberedState (sym a.new) (numbered_settled (wanted a.own.state) a.own.state a.after a.settled (numbered_own s e s' r h numbered))

pub now_rises : (s : CoreState) (e : Event) (s' : CoreState) (r : Done) → step s e ≡ Accepted s' r → s.now ≤ s'.now
now_rises s e s' r h =
    let a = accepts s e s' r h in
    let new : s'.now ≡ a.after.now = ap (λ z. z.now) a.new in
    let settled : a.after.now ≡ a.own.state.now = (same_settled (wanted a.own.state) a.own.state a.after a.settled).now in
    let own : a.own.state.now ≡ max s.now (min e.at (2 ^ 60)) = (frame_of (at_time s e.at) a.own.state a.moved).now in
    omega arith

-- a moment within a bound that no reading passes stays within it
pub now_bounded : (s : CoreState) (e : Event) (s' : CoreState) (r : Done) → step s e ≡ Accepted s' r → s.now ≤ 2 ^ 60 → s'.now ≤ 2 ^ 60
now_bounded s e s' r h b =
    let a = accepts s e s' r h in
    let new : s'.now ≡ a.after.now = ap (λ z. z.now) a.new in
    let settled : a.after.now ≡ a.own.state.now = (same_settled (wanted a.own.state) a.own.state a.after a.settled).now in
    let own : a.own.state.now ≡ max s.now (min e.at (2 ^ 60)) = (frame_of (at_time s e.at) a.own.state a.moved).now in
    omega arith

-- settling never passes the last number
pub next_bounded : (ws : List Triple) (s s' : CoreState) → settle_for ws s ≡ Some s' → s.next ≤ 2 ^ 62 → s'.next ≤ 2 ^ 62
next_bounded ws s s' e b = kept_by_creating (λ z. z.next ≤ 2 ^ 62) (λ z u _ l p. let m = ltb-true z.next (2 ^ 62) l in omega arith) (lost_marked ws (dropped ws s)) s' (targets ws s.jobs) e b

latest_from : (t : ℕ) (es : List (RowKey × Row)) → t ≤ latest t es
latest_from t [] = omega arith
latest_from t (e ∷ es) = let h = latest_from (max t e.1.finished) es in omega arith

latest_bounds : (t : ℕ) (es : List (RowKey × Row)) (k : RowKey) (r : Row) → find_entry row_key_cmp k es ≡ Some r → r.finished ≤ latest t es
latest_bounds t [] k r h = let z : ⊥ = cc in absurd z
latest_bounds t (e ∷ es) k r h = elim (cond_is (eq_by_cmp row_key_cmp k e.0) (Some e.1) (find_entry row_key_cmp k es) (Some r) h) [
  | inl i ↦
      let is : e.1 ≡ r = (let f = i.1 in cc) in
      let l = latest_from (max t e.1.finished) es in
      subst (λ x. x.finished ≤ latest (max t e.1.finished) es) is (omega arith)
  | inr i ↦ latest_bounds (max t e.1.finished) es k r i.1
]

pub numbered_opened : (program : Program) (durable : Durable) (threshold : Option Level) (reading : ℕ) → IsDurable durable → NumberedState (opened program durable threshold reading)
numbered_opened program durable threshold reading d = record {
  rows_within = λ k r e. (latest_bounds (min reading (2 ^ 60)) (entries durable.rows) k r (sym (get-entries durable.rows k) ∙ e), d k r e);
  jobs_below = tt;
  rising = tt;
}

pub numbered_start : (program : Program) (durable : Durable) (threshold : Option Level) (reading : ℕ) (s : CoreState) → IsDurable durable → start program durable threshold reading ≡ Some s → NumberedState s
unfolding start
numbered_start program durable threshold reading s d h = numbered_settled (wanted (opened program durable threshold reading)) (opened program durable threshold reading) s h (numbered_opened program durable threshold reading d)
