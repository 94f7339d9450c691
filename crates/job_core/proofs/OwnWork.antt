-- What own changes come to, where they are made.
use Rattle.std.proofs.Common.{◌≡◌, ℕ, ◌<◌, true, false, Some, None, is_some, refl, ap, ◌∙◌, length}
use Rattle.std.proofs.lemmas.Bool.{lt-ltb}
use Rattle.std.specs.Prelude.{if◌then◌else◌}
use Rattle.value_core.specs.declared.state.Stage.TheVariants.{Waiting}
use Rattle.op_keys.specs.declared.order.Exit.TheVariants as exit
use Rattle.core_rules.proofs.Starts.{number_found}
use Rattle.core_rules.specs.Changes.{Refuses, Idles, cancel, cancel_queued, cancel_running, confirm, confirm_at}
use Rattle.core_rules.specs.Core.{job_numbered, stage, with_job}
use Rattle.core_rules.specs.Orders.{finish, finish_by, picked, take_job, take_pick}
use Rattle.core_rules.specs.Parts.{Work, work_of}
use Rattle.core_rules.specs.Settling.{is_unmarked}
use Rattle.core_rules.specs.declared.events.Refusal.TheVariants as refusal
use Rattle.core_rules.specs.declared.jobs.Job.{Job}
use Rattle.core_rules.specs.declared.jobs.Mark.{Mark}
use Rattle.core_rules.specs.declared.jobs.Mark.TheVariants.{Unmarked, Automatic, User}
use Rattle.core_rules.specs.declared.notes.Note.TheVariants as note
use Rattle.core_rules.specs.declared.own.Own.TheVariants as own
use Rattle.core_rules.specs.Own.{tried_state}
use Rattle.job_core.specs.Own.{own_work}
use Rattle.job_core.specs.Single.{withdrawn_work}
use Rattle.job_core.specs.State.{core_at}
use Rattle.job_core.proofs.KeptJobs.{confirm_one, ended_work, mark_one, taken_work}

pub confirm_work : (w : Work) (now n : ℕ) (j : Job) → job_numbered w.jobs n ≡ Some j → stage (core_at w now) j ≡ Waiting → own_work (own.Confirm n) now w ≡ record w { jobs = with_job n confirm_one w.jobs }
confirm_work w now n j f k = ap (λ o. work_of (tried_state (core_at w now) (confirm (core_at w now) o))) f
    ∙ ap (λ g. work_of (tried_state (core_at w now) (confirm_at (core_at w now) j g))) k
    ∙ ap (λ m. record w { jobs = with_job m confirm_one w.jobs }) (number_found w.jobs n j f)

pub mark_work : (w : Work) (now n : ℕ) (j : Job) → job_numbered w.jobs n ≡ Some j → is_unmarked j.mark ≡ true → is_some j.worker ≡ true → own_work (own.Cancel n) now w ≡ record w { jobs = with_job n (mark_one User) w.jobs }
mark_work w now n j f u r =
    let s = core_at w now in
    ap (λ o. work_of (tried_state s (cancel s o))) f
    ∙ ap (λ b. work_of (tried_state s (if b then (if is_some j.worker then cancel_running s j else cancel_queued s j) else Refuses refusal.AlreadyCancelling))) u
    ∙ ap (λ b. work_of (tried_state s (if b then cancel_running s j else cancel_queued s j))) r
    ∙ ap (λ m. record w { jobs = with_job m (mark_one User) w.jobs }) (number_found w.jobs n j f)

pub withdraw_work : (w : Work) (now n : ℕ) (j : Job) → job_numbered w.jobs n ≡ Some j → is_unmarked j.mark ≡ true → is_some j.worker ≡ false → own_work (own.Cancel n) now w ≡ withdrawn_work n w
withdraw_work w now n j f u r =
    let s = core_at w now in
    ap (λ o. work_of (tried_state s (cancel s o))) f
    ∙ ap (λ b. work_of (tried_state s (if b then (if is_some j.worker then cancel_running s j else cancel_queued s j) else Refuses refusal.AlreadyCancelling))) u
    ∙ ap (λ b. work_of (tried_state s (if b then cancel_running s j else cancel_queued s j))) r
    ∙ ap (λ m. withdrawn_work m w) (number_found w.jobs n j f)

pub take_work : (w : Work) (now n v : ℕ) (j : Job) → v < length w.program.workers → picked (core_at w now) v ≡ Some n → job_numbered w.jobs n ≡ Some j → own_work (own.Take v) now w ≡ taken_work n v w
take_work w now n v j l p f =
    let s = core_at w now in
    ap (λ b. work_of (tried_state s (if b then take_pick s v (picked s v) else Refuses refusal.UnknownWorker))) (lt-ltb v (length w.program.workers) l)
    ∙ ap (λ o. work_of (tried_state s (take_pick s v o))) p
    ∙ ap (λ o. work_of (tried_state s (take_job s v o))) f
    ∙ ap (λ m. taken_work m v w) (number_found w.jobs n j f)

pub idle_work : (w : Work) (now v : ℕ) → v < length w.program.workers → picked (core_at w now) v ≡ None → own_work (own.Take v) now w ≡ w
idle_work w now v l p =
    let s = core_at w now in
    ap (λ b. work_of (tried_state s (if b then take_pick s v (picked s v) else Refuses refusal.UnknownWorker))) (lt-ltb v (length w.program.workers) l)
    ∙ ap (λ o. work_of (tried_state s (take_pick s v o))) p

ended_by : (w : Work) (now : ℕ) (j : Job) (m : Mark) → work_of (tried_state (core_at w now) (finish_by m (core_at w now) j exit.Fault)) ≡ ended_work j.number w
ended_by w now j Unmarked = refl
ended_by w now j Automatic = refl
ended_by w now j User = refl

pub finish_work : (w : Work) (now n : ℕ) (j : Job) → job_numbered w.jobs n ≡ Some j → is_some j.worker ≡ true → own_work (own.Finish n) now w ≡ ended_work n w
finish_work w now n j f r =
    let s = core_at w now in
    ap (λ o. work_of (tried_state s (finish s o exit.Fault))) f
    ∙ ap (λ b. work_of (tried_state s (if b then finish_by j.mark s j exit.Fault else Idles note.Ignored))) r
    ∙ ended_by w now j j.mark
    ∙ ap (λ m. ended_work m w) (number_found w.jobs n j f)

pub unended_work : (w : Work) (now n : ℕ) → job_numbered w.jobs n ≡ None → own_work (own.Finish n) now w ≡ w
unended_work w now n f = ap (λ o. work_of (tried_state (core_at w now) (finish (core_at w now) o exit.Fault))) f

pub queued_work : (w : Work) (now n : ℕ) (j : Job) → job_numbered w.jobs n ≡ Some j → is_some j.worker ≡ false → own_work (own.Finish n) now w ≡ w
queued_work w now n j f r =
    let s = core_at w now in
    ap (λ o. work_of (tried_state s (finish s o exit.Fault))) f ∙ ap (λ b. work_of (tried_state s (if b then finish_by j.mark s j exit.Fault else Idles note.Ignored))) r
