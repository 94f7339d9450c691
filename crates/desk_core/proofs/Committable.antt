-- What steps and openings store may be committed.
use Rattle.std.proofs.Common.{◌≡◌, ◌⊎◌, inl, inr, ℕ, ◌≤◌, ◌^◌, List, Option, Some, None, refl, sym, subst, arith}
use Rattle.std.specs.Prelude.{IfSome, IsNone}
use Rattle.sched_rows.specs.Rows.{Rows}
use Rattle.sched_rows.specs.declared.row.Row.{Row}
use Rattle.core_rules.specs.Core.{CoreState, job_numbered}
use Rattle.core_rules.specs.Laws.{Invariant, JobsBelow}
use Rattle.core_rules.specs.Steps.{Accepted, Answer, Idle, Refused, at_time, step}
use Rattle.core_rules.specs.Stored.{with_void}
use Rattle.core_rules.specs.declared.done.Done.{Done}
use Rattle.core_rules.specs.declared.events.Event.{Event}
use Rattle.core_rules.specs.declared.events.What.{What}
use Rattle.core_rules.specs.declared.events.What.TheVariants as what
use Rattle.core_rules.specs.declared.jobs.Job.{Job}
use Rattle.core_rules.specs.declared.own.RowChange.{RowChange}
use Rattle.core_rules.specs.declared.own.RowChange.TheVariants as row
use Rattle.core_rules.proofs.Invariant.{invariant_through_step}
use Rattle.core_rules.proofs.Rising.{found_below}
use Rattle.core_rules.proofs.Starts.{number_found}
use Rattle.engine_rules.specs.Edits.{edit_of, stored_log, stored_row, voided_key}
use Rattle.engine_rules.specs.Tests.{finish_test, runs, test_of}
use Rattle.engine_rules.specs.declared.tests.Tested.TheVariants.{Passes}
use Rattle.keeper_core.specs.Commits.{Fits, IsCommittable}
use Rattle.engine_core.specs.Answers.{stored_by}
use Rattle.desk_core.proofs.Accepted.{accepted_so, row_put}

-- ---- rows

-- no row is put where one is voided
one_row : (rows : Rows) (c : RowChange) → IsNone (stored_row rows c) ⊎ IsNone (voided_key c)
one_row rows row.None = inl refl
one_row rows (row.Put r) = inr refl
one_row rows (row.Void op key) = inl refl
one_row rows (row.Mark op key) = inr refl

-- ---- logs

number_fits : (s : CoreState) (n : ℕ) (o : Option Job) → job_numbered s.jobs n ≡ o → finish_test (runs o) ≡ Passes → JobsBelow s.next s.jobs → s.next ≤ 2 ^ 62 → Fits n
number_fits s n None is t below last = let z : ⊥ = cc in absurd z
number_fits s n (Some j) is t below last =
    let small = found_below s.next n s.jobs j below is in
    let same = number_found s.jobs n j is in
    omega (arith, small, same, last)

log_fits : (s : CoreState) (w : What) → test_of s w ≡ Passes → JobsBelow s.next s.jobs → s.next ≤ 2 ^ 62 → IfSome (stored_log w) (λ (l : ℕ × List ℕ). Fits l.0)
log_fits s (what.SetInput name v) t below last = tt
log_fits s what.Tick t below last = tt
log_fits s (what.SetLevel threshold) t below last = tt
log_fits s (what.Confirm n) t below last = tt
log_fits s (what.Cancel n) t below last = tt
log_fits s (what.Rebuild op key) t below last = tt
log_fits s (what.Pause w) t below last = tt
log_fits s (what.Resume w) t below last = tt
log_fits s (what.Rate pool client rate) t below last = tt
log_fits s (what.Take w) t below last = tt
log_fits s (what.Finish n x) t below last = number_fits s n (job_numbered s.jobs n) refl t below last

-- ---- deltas

pub step_committable : (s : CoreState) (e : Event) (s' : CoreState) (r : Done) → step s e ≡ Accepted s' r → Invariant s → IsCommittable r.delta
step_committable s e s' r h i =
    let u : CoreState = at_time s e.at in
    let a = accepted_so s e s' r h i.bounded.rows in
    let later = invariant_through_step s e s' r h i in
    let next = a.next in
    let last = later.bounded.last_next in
    let now = later.bounded.now in
    let numbers = later.lawful.numbered.rows_within in
    record {
      next = omega (arith, last, next);
      log = subst (λ (o : Option (ℕ × List ℕ)). IfSome o (λ (l : ℕ × List ℕ). Fits l.0)) (sym a.log) (log_fits u e.what a.passes i.lawful.numbered.jobs_below i.bounded.last_next);
      row = row_put (λ (r : Row). Fits r.finished × Fits r.job) s'.rows r.delta.put (with_void r.delta.void s.rows) a.rows (λ k q found.
          let within = numbers k q found in
          let finished = within.0 in
          let job = within.1 in
          (omega (arith, finished, now), omega (arith, job, last)));
      one = subst (λ (d : Option Row × Option (List ℕ × List ℕ)). IsNone d.0 ⊎ IsNone d.1) (λ j. (sym a.put j, sym a.void j)) (one_row s.rows (edit_of u e.what).row);
    }

answer_committable : (s : CoreState) (e : Event) (a : Answer) → step s e ≡ a → Invariant s → IfSome (stored_by a) IsCommittable
answer_committable s e (Refused r) is i = tt
answer_committable s e (Idle d) is i = tt
answer_committable s e (Accepted t d) is i = step_committable s e t d is i

-- what an event stores
pub stored_committable : (s : CoreState) (e : Event) → Invariant s → IfSome (stored_by (step s e)) IsCommittable
stored_committable s e i = answer_committable s e (step s e) refl i
