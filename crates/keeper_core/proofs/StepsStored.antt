-- The delta of an accepted event may be stored.
use Rattle.std.proofs.Common.{◌≡◌, ◌<◌, ◌≤◌, ℕ, Bool, true, false, cond, List, [], ◌∷◌, Option, Some, None, is_some, refl, sym, subst, ap, ◌∙◌, arith}
use Rattle.std.specs.Prelude.{◌==◌, IfSome, length, nat_lt, slice_get}
use Rattle.std.specs.Cmp.{tied_itself}
use Rattle.std.specs.FinMap.{get, get-insert}
use Rattle.std.specs.List.{AllByRecursion}
use Rattle.std.specs.Ordering.{is_eq}
use Rattle.value_core.specs.declared.state.Stage.{Stage}
use Rattle.value_core.specs.declared.state.Stage.TheVariants.{Ready, Waiting, Running}
use Rattle.value_core.specs.declared.value.Value.{Value}
use Rattle.op_keys.specs.declared.order.Exit.{Exit}
use Rattle.term_core.specs.declared.program.InputDecl.{InputDecl}
use Rattle.fair_pool.specs.Sound.{is_rate}
use Rattle.sched_rows.specs.declared.row.Row.{Row}
use Rattle.sched_rows.specs.RowKeys.{RowKey, key_of, row_key, row_key_cmp, row_key_cmp_total}
use Rattle.sched_rows.specs.Rows.{Rows}
use Rattle.core_rules.specs.declared.done.Done.{Done}
use Rattle.core_rules.specs.declared.events.Event.{Event}
use Rattle.core_rules.specs.declared.events.What.{What}
use Rattle.core_rules.specs.declared.events.What.TheVariants as what
use Rattle.core_rules.specs.declared.jobs.Job.{Job}
use Rattle.core_rules.specs.declared.jobs.Mark.{Mark}
use Rattle.core_rules.specs.declared.jobs.Mark.TheVariants.{Automatic, Unmarked, User}
use Rattle.core_rules.specs.Bounds.{IsBounded}
use Rattle.core_rules.specs.Changes.{Change, cancel, confirm, confirm_at, input_index, pause, rebuild, rebuild_free, rebuild_row, set_input, set_rate, takes}
use Rattle.core_rules.specs.Core.{CoreState, job_numbered, stage}
use Rattle.core_rules.specs.Laws.{Invariant}
use Rattle.core_rules.specs.Orders.{finish, finish_by, picked, take_by, take_job, take_pick}
use Rattle.core_rules.specs.Settling.{is_unmarked, live_on}
use Rattle.core_rules.specs.Steps.{Accepted, at_time, change, step}
use Rattle.core_rules.specs.Stored.{stored}
use Rattle.core_rules.specs.Stored as stored_part
use Rattle.core_rules.proofs.Invariant.{invariant_through_step}
use Rattle.core_rules.proofs.Moves.{accepts}
use Rattle.core_rules.proofs.Storing.{steps_store}
use Rattle.core_rules.proofs.Trying.{Holds, barred, either, idles, makes}
use Rattle.keeper_core.specs.Chains.{AreTextsStorable}
use Rattle.keeper_core.specs.Laws.{AreRowTexts, IsStorable, IsStorableRow}
use Rattle.core_rules.proofs.Programs.{next_rises}

-- ---- logs

-- a log that is stored is that of a job with a number from 1 and below the next one
abbrev LogWithin : CoreState → Change → Type 0
LogWithin s c = IfSome c.delta.log (λ l. (1 ≤ l.0) × (l.0 < s.next))

abbrev AreNumbered : CoreState → Type 0
AreNumbered s = AllByRecursion (λ (j : Job). (1 ≤ j.number) × (j.number < s.next)) s.jobs

input_log : (s : CoreState) (name : List ℕ) (v : Value) (i : ℕ) (o : Option InputDecl) → Holds (LogWithin s) (set_input s name v i o)
input_log s name v i None = barred (LogWithin s) _
input_log s name v i (Some d) = either (LogWithin s) (takes d v) _ _ (makes (LogWithin s) _ tt) (barred (LogWithin s) _)

confirm_at_log : (s : CoreState) (j : Job) (g : Stage) → Holds (LogWithin s) (confirm_at s j g)
confirm_at_log s j Ready = barred (LogWithin s) _
confirm_at_log s j Running = barred (LogWithin s) _
confirm_at_log s j Waiting = makes (LogWithin s) _ tt

confirm_log : (s : CoreState) (o : Option Job) → Holds (LogWithin s) (confirm s o)
confirm_log s None = barred (LogWithin s) _
confirm_log s (Some j) = confirm_at_log s j (stage s j)

cancel_log : (s : CoreState) (o : Option Job) → Holds (LogWithin s) (cancel s o)
cancel_log s None = barred (LogWithin s) _
cancel_log s (Some j) = either (LogWithin s) (is_unmarked j.mark) _ _ (either (LogWithin s) (is_some j.worker) _ _ (makes (LogWithin s) _ tt) (makes (LogWithin s) _ tt)) (barred (LogWithin s) _)

row_log : (s : CoreState) (k : RowKey) (o : Option Row) → Holds (LogWithin s) (rebuild_row s k o)
row_log s k None = barred (LogWithin s) _
row_log s k (Some r) = makes (LogWithin s) _ tt

free_log : (s : CoreState) (k : RowKey) (o : Option Job) → Holds (LogWithin s) (rebuild_free s k o)
free_log s k (Some j) = barred (LogWithin s) _
free_log s k None = row_log s k (get s.rows k)

rebuild_log : (s : CoreState) (name key : List ℕ) (o : Option ℕ) → Holds (LogWithin s) (rebuild s name key o)
rebuild_log s name key None = barred (LogWithin s) _
rebuild_log s name key (Some op) = free_log s (row_key name key) (live_on s.jobs op key)

pause_log : (b : Bool) (s : CoreState) (o : Option ℕ) → Holds (LogWithin s) (pause b s o)
pause_log b s None = barred (LogWithin s) _
pause_log b s (Some w) = makes (LogWithin s) _ tt

rate_log : (s : CoreState) (rate : ℕ) (o : Option ℕ) → Holds (LogWithin s) (set_rate s rate o)
rate_log s rate None = barred (LogWithin s) _
rate_log s rate (Some c) = either (LogWithin s) (is_rate rate) _ _ (makes (LogWithin s) _ tt) (barred (LogWithin s) _)

job_log : (s : CoreState) (w : ℕ) (o : Option Job) → Holds (LogWithin s) (take_job s w o)
job_log s w None = idles (LogWithin s) _
job_log s w (Some j) = makes (LogWithin s) _ tt

pick_log : (s : CoreState) (w : ℕ) (o : Option ℕ) → Holds (LogWithin s) (take_pick s w o)
pick_log s w None = idles (LogWithin s) _
pick_log s w (Some n) = job_log s w (job_numbered s.jobs n)

take_log : (s : CoreState) (w : ℕ) → Holds (LogWithin s) (take_by s w)
take_log s w = either (LogWithin s) (nat_lt w (length s.program.workers)) _ _ (pick_log s w (picked s w)) (barred (LogWithin s) _)

end_log : (m : Mark) (s : CoreState) (j : Job) (x : Exit) → (1 ≤ j.number) × (j.number < s.next) → Holds (LogWithin s) (finish_by m s j x)
end_log Automatic s j x h = makes (LogWithin s) _ h
end_log User s j x h = makes (LogWithin s) _ h
end_log Unmarked s j x h = makes (LogWithin s) _ h

numbered : (s : CoreState) (js : List Job) (n : ℕ) (j : Job) → AllByRecursion (λ (i : Job). (1 ≤ i.number) × (i.number < s.next)) js → job_numbered js n ≡ Some j → (1 ≤ j.number) × (j.number < s.next)
numbered s [] n j h e = let z : ⊥ = cc in absurd z
numbered s (i ∷ js) n j (p, h) e = elim (i.number == n) as (λ b. cond b (Some i) (job_numbered js n) ≡ Some j → (1 ≤ j.number) × (j.number < s.next)) [
  | true ↦ λ f. let same : i ≡ j = cc in subst (λ (x : Job). (1 ≤ x.number) × (x.number < s.next)) same p
  | false ↦ λ f. numbered s js n j h f
] e

finish_log : (s : CoreState) (n : ℕ) (o : Option Job) (x : Exit) → job_numbered s.jobs n ≡ o → AreNumbered s → Holds (LogWithin s) (finish s o x)
finish_log s n None x is h = idles (LogWithin s) _
finish_log s n (Some j) x is h = either (LogWithin s) (is_some j.worker) _ _ (end_log j.mark s j x (numbered s s.jobs n j h is)) (idles (LogWithin s) _)

change_log : (s : CoreState) (w : What) → AreNumbered s → Holds (LogWithin s) (change s w)
change_log s (what.SetInput name v) h = input_log s name v (input_index s name) (slice_get s.program.inputs (input_index s name))
change_log s what.Tick h = makes (LogWithin s) _ tt
change_log s (what.SetLevel threshold) h = makes (LogWithin s) _ tt
change_log s (what.Confirm n) h = confirm_log s (job_numbered s.jobs n)
change_log s (what.Cancel n) h = cancel_log s (job_numbered s.jobs n)
change_log s (what.Rebuild op key) h = rebuild_log s op key _
change_log s (what.Pause w) h = pause_log true s _
change_log s (what.Resume w) h = pause_log false s _
change_log s (what.Rate pool client rate) h = rate_log s rate _
change_log s (what.Take w) h = take_log s w
change_log s (what.Finish n x) h = finish_log s n (job_numbered s.jobs n) x refl h

-- ---- numbers

both_numbers : (n : ℕ) (js : List Job) → AllByRecursion (λ (j : Job). 1 ≤ j.number) js → AllByRecursion (λ (j : Job). j.number < n) js → AllByRecursion (λ (j : Job). (1 ≤ j.number) × (j.number < n)) js
both_numbers n [] f b = tt
both_numbers n (j ∷ js) (f, fs) (b, bs) = ((f, b), both_numbers n js fs bs)

-- ---- rows

put_found : (o : Option Row) (rows : Rows) (r : Row) → o ≡ Some r → get (stored_part.with_put o rows) (key_of r) ≡ Some r
put_found o rows r is =
    let tie : is_eq (row_key_cmp (key_of r) (key_of r)) ≡ true = ap is_eq (tied_itself row_key_cmp_total (key_of r)) in
    ap (λ (p : Option Row). get (stored_part.with_put p rows) (key_of r)) is ∙ get-insert row_key_cmp_total rows (key_of r) r (key_of r) ∙ ap (λ b. cond b (Some r) (get rows (key_of r))) tie

put_within : (s' : CoreState) (o : Option Row) (rows : Rows) → s'.rows ≡ stored_part.with_put o rows → Invariant s' → IsBounded s' → IfSome o AreRowTexts → IfSome o (IsStorableRow s'.next)
put_within s' None rows is i b t = tt
put_within s' (Some r) rows is i b t =
    let found : get s'.rows (key_of r) ≡ Some r = ap (λ (m : Rows). get m (key_of r)) is ∙ put_found (Some r) rows r refl in
    let within = i.lawful.numbered.rows_within (key_of r) r found in
    let finished = within.0 in
    let now = b.now in
    record { texts = t; finished = omega (arith, finished, now); some_job = (b.rows (key_of r) r found).1; job = within.1 }

pub steps_may_be_stored : (s : CoreState) (e : Event) (s' : CoreState) (r : Done) → step s e ≡ Accepted s' r → Invariant s → AreTextsStorable r.delta → IsStorable s.next r.delta
steps_may_be_stored s e s' r h i t =
    let a = accepts s e s' r h in
    let b = i.bounded in
    let after = steps_store s e s' r b.rows h in
    let i2 = invariant_through_step s e s' r h i in
    let b2 = i2.bounded in
    let next : s'.next ≡ r.delta.next = ap (λ x. x.next) after in
    let rises = next_rises s e s' r h in
    let last = b2.last_next in
    let row = put_within s' r.delta.put (stored_part.with_void r.delta.void s.rows) (ap (λ x. x.rows) after) i2 b2 t.row in
    let own_log = change_log (at_time s e.at) e.what (both_numbers s.next s.jobs b.jobs i.lawful.numbered.jobs_below) a.own a.changed in
    let log : IfSome r.delta.log (λ l. (1 ≤ l.0) × (l.0 < s.next)) = subst (λ (q : Done). IfSome q.delta.log (λ l. (1 ≤ l.0) × (l.0 < s.next))) (sym a.reply) own_log in
    let more : s.next ≤ r.delta.next = omega (arith, rises, next) in
    record {
      next = more;
      last = omega (arith, last, next);
      input = t.input;
      row = subst (λ n. IfSome r.delta.put (IsStorableRow n)) next row;
      log = log_more r.delta.log s.next r.delta.next more log;
    }
  where
    log_more : (o : Option (ℕ × List ℕ)) (m n : ℕ) → m ≤ n → IfSome o (λ l. (1 ≤ l.0) × (l.0 < m)) → IfSome o (λ l. (1 ≤ l.0) × (l.0 < n))
    log_more None m n h p = tt
    log_more (Some l) m n h p = let q = p.1 in (p.0, omega (arith, q, h))
