-- Rows and thresholds after a change.
use Rattle.std.proofs.Common.{◌≡◌, ℕ, true, false, cond, ◌&&◌, List, Option, Some, None, is_some, refl, ap, sym, ◌∙◌}
use Rattle.std.specs.Prelude.{if◌then◌else◌, option_map}
use Rattle.std.specs.Cmp.{Equal-is, tied_itself, tied_then}
use Rattle.std.specs.Cmp as cmp
use Rattle.std.specs.Cmp.Lexicographic.{bytes_decides, nat_list_cmp_total}
use Rattle.std.specs.FinMap.{get, get-insert, get-remove, insert, nat_cmp-IsAntisymmetric, remove, slice_cmp-IsAntisymmetric}
use Rattle.std.specs.Ordering.{eq_by_cmp, is_eq}
use Rattle.std.specs.Str.{bytes_eq}
use Rattle.sched_rows.specs.declared.row.Row.{Row}
use Rattle.sched_rows.specs.RowKeys.{RowKey, row_key, row_key_cmp, row_key_cmp_total}
use Rattle.value_core.specs.Orders.{bytes_cmp}
use Rattle.sched_rows.specs.Rows.{Rows, mark_found, marked}
use Rattle.fair_pool.specs.Fair.{withdrawn}
use Rattle.core_rules.specs.Core.{CoreState, job_numbered, with_job, without_job}
use Rattle.core_rules.specs.Orders.{picked}
use Rattle.core_rules.specs.declared.jobs.Job.{Job}
use Rattle.core_rules.specs.declared.own.Own.{Own}
use Rattle.core_rules.specs.declared.own.Own.TheVariants as own
use Rattle.core_rules.specs.Own.{cancelled, own_made, took}
use Rattle.core_rules.specs.Changes.{user_marked}
use Rattle.engine_rules.specs.Found.{own_threshold}
use Rattle.engine_rules.specs.inside.Results.{as_marked}
use Rattle.sched_rows.proofs.KeyOrders.{row_keys_tie}

-- ---- keys

bytes_tie : (a b : List ℕ) → is_eq (bytes_cmp a b) ≡ bytes_eq b a
bytes_tie a b = cmp.both_ways (is_eq (bytes_cmp a b)) (bytes_eq b a)
    (λ e. (bytes_decides b a).1 (sym (slice_cmp-IsAntisymmetric nat_cmp-IsAntisymmetric a b ((Equal-is (bytes_cmp a b)).0 e))))
    (λ e. ap is_eq (ap (bytes_cmp a) ((bytes_decides b a).0 e) ∙ tied_itself nat_list_cmp_total a))

pub tie_is : (name of op key : List ℕ) → (bytes_eq op name && bytes_eq key of) ≡ eq_by_cmp row_key_cmp (row_key name of) (row_key op key)
tie_is name of op key = sym (sym (tied_then (bytes_cmp name op) (bytes_cmp of key)) ∙ (λ i. bytes_tie name op i && bytes_tie of key i))

-- ---- rows

pub after_put : (rows : Rows) (k q : RowKey) (r : Row) → get (insert rows k r) q ≡ (if eq_by_cmp row_key_cmp q k then Some r else get rows q)
after_put rows k q r = get-insert row_key_cmp_total rows k r q

pub after_void : (rows : Rows) (k q : RowKey) → get (remove rows k) q ≡ (if eq_by_cmp row_key_cmp q k then None else get rows q)
after_void rows k q = get-remove row_key_cmp_total rows k q

unmarked : (o : Option Row) → o ≡ option_map (as_marked false) o
unmarked None = refl
unmarked (Some r) = refl

marked_there : (rows : Rows) (k q : RowKey) (o : Option Row) → get rows k ≡ o → get (mark_found k o rows) q ≡ option_map (as_marked (eq_by_cmp row_key_cmp q k)) (get rows q)
marked_there rows k q o is = elim (eq_by_cmp row_key_cmp q k) as (λ b. eq_by_cmp row_key_cmp q k ≡ b → get (mark_found k o rows) q ≡ option_map (as_marked b) (get rows q)) [
  | true ↦ λ tie. at_key o is tie
  | false ↦ λ tie. off_key o tie
] refl
  where
    at_key : (o : Option Row) → get rows k ≡ o → eq_by_cmp row_key_cmp q k ≡ true → get (mark_found k o rows) q ≡ option_map (as_marked true) (get rows q)
    at_key None is tie = let none : get rows q ≡ None = ap (get rows) (row_keys_tie q k tie) ∙ is in none ∙ sym (ap (option_map (as_marked true)) none)
    at_key (Some r) is tie =
        get-insert row_key_cmp_total rows k (marked r) q ∙ ap (λ b. cond b (Some (marked r)) (get rows q)) tie
        ∙ sym (ap (option_map (as_marked true)) (ap (get rows) (row_keys_tie q k tie) ∙ is))

    off_key : (o : Option Row) → eq_by_cmp row_key_cmp q k ≡ false → get (mark_found k o rows) q ≡ option_map (as_marked false) (get rows q)
    off_key None tie = unmarked (get rows q)
    off_key (Some r) tie = get-insert row_key_cmp_total rows k (marked r) q ∙ ap (λ b. cond b (Some (marked r)) (get rows q)) tie ∙ unmarked (get rows q)

pub after_mark : (rows : Rows) (k q : RowKey) → get (mark_found k (get rows k) rows) q ≡ option_map (as_marked (eq_by_cmp row_key_cmp q k)) (get rows q)
after_mark rows k q = marked_there rows k q (get rows k) refl

-- ---- thresholds

cancelled_threshold : (s : CoreState) (o : Option Job) → (cancelled s o).threshold ≡ s.threshold
cancelled_threshold s None = refl
cancelled_threshold s (Some j) = elim (is_some j.worker) as (λ b. (if b then record s { jobs = with_job j.number user_marked s.jobs } else record s { jobs = without_job j.number s.jobs; fair = withdrawn j.number s.fair }).threshold ≡ s.threshold) [
  | true ↦ refl
  | false ↦ refl
]

took_threshold : (s : CoreState) (w : ℕ) (p : Option ℕ) → (took s w p).threshold ≡ s.threshold
took_threshold s w None = refl
took_threshold s w (Some n) = refl

pub threshold_is : (s : CoreState) (o : Own) → (own_made o s).threshold ≡ own_threshold o s
threshold_is s own.None = refl
threshold_is s (own.Level threshold) = refl
threshold_is s (own.Confirm n) = refl
threshold_is s (own.Cancel n) = cancelled_threshold s (job_numbered s.jobs n)
threshold_is s (own.Take w) = took_threshold s w (picked s w)
threshold_is s (own.Finish n) = refl
threshold_is s (own.Pause w) = refl
threshold_is s (own.Resume w) = refl
threshold_is s (own.Rate c rate) = refl
