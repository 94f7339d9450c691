-- What is known where an own change is made, and what it leaves.
use Rattle.std.proofs.Common.{◌≡◌, ℕ, ◌<◌, Bool, true, false, length, Option, Some, None, is_some, refl, sym, ap, ◌∙◌, subst}
use Rattle.std.proofs.lemmas.Bool.{ltb-true}
use Rattle.std.specs.Prelude.{filter, if◌then◌else◌, nat_lt, slice_set}
use Rattle.value_core.specs.declared.state.Stage.{Stage}
use Rattle.value_core.specs.declared.state.Stage.TheVariants.{Ready, Waiting, Running}
use Rattle.op_keys.specs.declared.order.Exit.TheVariants as exit
use Rattle.fair_pool.specs.Sound.{is_rate}
use Rattle.core_rules.proofs.Queued.{is_not, not_queued, numbers-filter, queued_taken, queued_with, queued_without}
use Rattle.core_rules.specs.Changes.{Idles, Refuses, cancel, cancel_queued, cancel_running, confirm, confirm_at, pause, plain, set_rate}
use Rattle.core_rules.specs.Core.{CoreState, job_numbered, stage, with_job, without_job}
use Rattle.core_rules.specs.Laws.{Rising, Ticketed}
use Rattle.core_rules.specs.Orders.{finish, finish_by, picked, take_by, take_job, take_pick}
use Rattle.core_rules.specs.Parts.{Work, work_of}
use Rattle.core_rules.specs.Settling.{is_unmarked}
use Rattle.core_rules.specs.declared.events.Refusal.TheVariants as refusal
use Rattle.core_rules.specs.declared.jobs.Job.{Job}
use Rattle.core_rules.specs.declared.jobs.Mark.TheVariants.{User}
use Rattle.core_rules.specs.declared.notes.Note.TheVariants as note
use Rattle.job_core.specs.Marking.{cancelled_by, cancelled_jobs}
use Rattle.core_rules.specs.Own.{IsMade, own_change, tried_state}
use Rattle.job_core.specs.Own.{own_work}
use Rattle.job_core.specs.State.{bare, core_at}
use Rattle.core_rules.specs.declared.own.Own.{Own}
use Rattle.core_rules.specs.declared.own.Own.TheVariants as own
use Rattle.job_core.proofs.KeptJobs.{confirm_one, confirm_same, mark_one, mark_same, ticketed_less}
use Rattle.job_core.proofs.OwnWork.{confirm_work, finish_work, mark_work, take_work, withdraw_work}

-- a waiting job
pub record Waits (s : CoreState) (n : ℕ) : Type 0 where
  pub job : Job
  pub found : job_numbered s.jobs n ≡ Some job
  pub waits : stage s job ≡ Waiting

waits_by : (s : CoreState) (n : ℕ) (j : Job) → job_numbered s.jobs n ≡ Some j → (g : Stage) → stage s j ≡ g → IsMade (confirm_at s j g) → Waits s n
waits_by s n j f Ready e h = absurd h
waits_by s n j f Running e h = absurd h
waits_by s n j f Waiting e h = record { job = j; found = f; waits = e }

pub confirm_made : (s : CoreState) (n : ℕ) → IsMade (confirm s (job_numbered s.jobs n)) → Waits s n
confirm_made s n h = elim (job_numbered s.jobs n) as (λ o. job_numbered s.jobs n ≡ o → IsMade (confirm s o) → Waits s n) [
  | None ↦ λ e k. absurd k
  | Some j ↦ λ e k. waits_by s n j e (stage s j) refl k
] refl h

-- a job without a mark
pub record Unmarks (s : CoreState) (n : ℕ) : Type 0 where
  pub job : Job
  pub found : job_numbered s.jobs n ≡ Some job
  pub unmarked : is_unmarked job.mark ≡ true

unmarked_by : (s : CoreState) (n : ℕ) (j : Job) → job_numbered s.jobs n ≡ Some j → (b : Bool) → is_unmarked j.mark ≡ b →
    IsMade (if b then (if is_some j.worker then cancel_running s j else cancel_queued s j) else Refuses refusal.AlreadyCancelling) → Unmarks s n
unmarked_by s n j f true e h = record { job = j; found = f; unmarked = e }
unmarked_by s n j f false e h = absurd h

pub cancel_made : (s : CoreState) (n : ℕ) → IsMade (cancel s (job_numbered s.jobs n)) → Unmarks s n
cancel_made s n h = elim (job_numbered s.jobs n) as (λ o. job_numbered s.jobs n ≡ o → IsMade (cancel s o) → Unmarks s n) [
  | None ↦ λ e k. absurd k
  | Some j ↦ λ e k. unmarked_by s n j e (is_unmarked j.mark) refl k
] refl h

-- a running job
pub record Runs (s : CoreState) (n : ℕ) : Type 0 where
  pub job : Job
  pub found : job_numbered s.jobs n ≡ Some job
  pub runs : is_some job.worker ≡ true

runs_by : (s : CoreState) (n : ℕ) (j : Job) → job_numbered s.jobs n ≡ Some j → (b : Bool) → is_some j.worker ≡ b → IsMade (if b then finish_by j.mark s j exit.Fault else Idles note.Ignored) → Runs s n
runs_by s n j f true e h = record { job = j; found = f; runs = e }
runs_by s n j f false e h = absurd h

pub finish_made : (s : CoreState) (n : ℕ) → IsMade (finish s (job_numbered s.jobs n) exit.Fault) → Runs s n
finish_made s n h = elim (job_numbered s.jobs n) as (λ o. job_numbered s.jobs n ≡ o → IsMade (finish s o exit.Fault) → Runs s n) [
  | None ↦ λ e k. absurd k
  | Some j ↦ λ e k. runs_by s n j e (is_some j.worker) refl k
] refl h

-- a worker with its pick
pub record Takes (s : CoreState) (v : ℕ) : Type 0 where
  pub known : v < length s.program.workers
  pub number : ℕ
  pub picks : picked s v ≡ Some number
  pub job : Job
  pub found : job_numbered s.jobs number ≡ Some job

takes_job : (s : CoreState) (v n : ℕ) → v < length s.program.workers → picked s v ≡ Some n → (o : Option Job) → job_numbered s.jobs n ≡ o → IsMade (take_job s v o) → Takes s v
takes_job s v n l p None e h = absurd h
takes_job s v n l p (Some j) e h = record { known = l; number = n; picks = p; job = j; found = e }

takes_pick : (s : CoreState) (v : ℕ) → v < length s.program.workers → (o : Option ℕ) → picked s v ≡ o → IsMade (take_pick s v o) → Takes s v
takes_pick s v l None e h = absurd h
takes_pick s v l (Some n) e h = takes_job s v n l e (job_numbered s.jobs n) refl h

takes_by : (s : CoreState) (v : ℕ) (b : Bool) → nat_lt v (length s.program.workers) ≡ b → IsMade (if b then take_pick s v (picked s v) else Refuses refusal.UnknownWorker) → Takes s v
takes_by s v true e h = takes_pick s v (ltb-true v (length s.program.workers) e) (picked s v) refl h
takes_by s v false e h = absurd h

pub take_made : (s : CoreState) (v : ℕ) → IsMade (take_by s v) → Takes s v
take_made s v h = takes_by s v (nat_lt v (length s.program.workers)) refl h

-- ---- what stays through an own change

pub record OwnKept (w v : Work) : Type 0 where
  pub program : v.program ≡ w.program
  pub next : v.next ≡ w.next
  pub ticketed : Ticketed (bare v)

pause_kept : (b : Bool) (w : Work) (now v : ℕ) → Ticketed (bare w) → (c : Bool) → IsMade (pause b (core_at w now) (if c then Some v else None)) → OwnKept w (work_of (tried_state (core_at w now) (pause b (core_at w now) (if c then Some v else None))))
pause_kept b w now v t true h = record { program = refl; next = refl; ticketed = t }
pause_kept b w now v t false h = absurd h

-- the core with another rate of a client
abbrev rated : Work → ℕ → ℕ → ℕ → CoreState
rated w now c rate = record (core_at w now) { fair = record w.fair { rates = slice_set w.fair.rates c rate } }

rate_by : (w : Work) (now c rate : ℕ) → Ticketed (bare w) → (b : Bool) →
    OwnKept w (work_of (tried_state (core_at w now) (if b then plain (rated w now c rate) else Refuses (refusal.RateOutOfRange rate))))
rate_by w now c rate t true = record { program = refl; next = refl; ticketed = t }
rate_by w now c rate t false = record { program = refl; next = refl; ticketed = t }

rate_kept : (w : Work) (now c rate : ℕ) → Ticketed (bare w) → (b : Bool) → IsMade (set_rate (core_at w now) rate (if b then Some c else None)) → OwnKept w (work_of (tried_state (core_at w now) (set_rate (core_at w now) rate (if b then Some c else None))))
rate_kept w now c rate t true h = rate_by w now c rate t (is_rate rate)
rate_kept w now c rate t false h = absurd h

pub own_kept : (o : Own) (w : Work) (now : ℕ) → Rising w.jobs → Ticketed (bare w) → IsMade (own_change (core_at w now) o) → OwnKept w (own_work o now w)
own_kept own.None w now r t h = record { program = refl; next = refl; ticketed = t }
own_kept (own.Level threshold) w now r t h = record { program = refl; next = refl; ticketed = t }
own_kept (own.Confirm n) w now r t h =
    let m = confirm_made (core_at w now) n h in
    subst (OwnKept w) (sym (confirm_work w now n m.job m.found m.waits)) (record { program = refl; next = refl; ticketed = t ∙ sym (queued_with n confirm_one w.jobs confirm_same) })
own_kept (own.Cancel n) w now r t h =
    let m = cancel_made (core_at w now) n h in
    elim (is_some m.job.worker) as (λ b. is_some m.job.worker ≡ b → OwnKept w (own_work (own.Cancel n) now w)) [
      | true ↦ λ e. subst (OwnKept w) (sym (mark_work w now n m.job m.found m.unmarked e)) (record { program = refl; next = refl; ticketed = t ∙ sym (queued_with n (mark_one User) w.jobs (mark_same User)) })
      | false ↦ λ e. subst (OwnKept w) (sym (withdraw_work w now n m.job m.found m.unmarked e)) (record { program = refl; next = refl; ticketed = ticketed_less w n t })
    ] refl
own_kept (own.Take v) w now r t h =
    let m = take_made (core_at w now) v h in
    subst (OwnKept w) (sym (take_work w now m.number v m.job m.known m.picks m.found))
    (record { program = refl; next = refl; ticketed = numbers-filter (is_not m.number) w.fair.tickets ∙ ap (filter (is_not m.number)) t ∙ sym (queued_taken m.number v w.jobs r) })
own_kept (own.Finish n) w now r t h =
    let m = finish_made (core_at w now) n h in
    subst (OwnKept w) (sym (finish_work w now n m.job m.found m.runs))
    (record { program = refl; next = refl; ticketed = t ∙ sym (not_queued n w.jobs m.job r m.found m.runs) ∙ sym (queued_without n w.jobs) })
own_kept (own.Pause v) w now r t h = pause_kept true w now v t (nat_lt v (length w.program.workers)) h
own_kept (own.Resume v) w now r t h = pause_kept false w now v t (nat_lt v (length w.program.workers)) h
own_kept (own.Rate c rate) w now r t h = rate_kept w now c rate t (nat_lt c (length w.program.clients)) h

-- the jobs after a cancel
cancelled_some : (w : Work) (now n : ℕ) (j : Job) → job_numbered w.jobs n ≡ Some j → is_unmarked j.mark ≡ true → (b : Bool) → is_some j.worker ≡ b →
    (if b then with_job n (λ k. record k { mark = User }) w.jobs else without_job n w.jobs) ≡ (own_work (own.Cancel n) now w).jobs
cancelled_some w now n j f u true e = sym (ap (λ v. v.jobs) (mark_work w now n j f u e))
cancelled_some w now n j f u false e = sym (ap (λ v. v.jobs) (withdraw_work w now n j f u e))

pub cancelled_is : (w : Work) (now n : ℕ) → Unmarks (core_at w now) n → cancelled_jobs n w.jobs ≡ (own_work (own.Cancel n) now w).jobs
cancelled_is w now n m = ap (cancelled_by n w.jobs) m.found ∙ cancelled_some w now n m.job m.found m.unmarked (is_some m.job.worker) refl
