-- What an accepted event's own change does to the state, in six ways.
use Rattle.std.proofs.Common.{◌≡◌, ℕ, ◌+◌, Bool, true, false, List, Option, Some, None, is_some, refl, subst, ◌-◌, ◌^◌, sym, ap}
use Rattle.std.specs.Prelude.{if◌then◌else◌, nat_lt, ◌==◌, length}
use Rattle.std.specs.FinMap.{get, insert}
use Rattle.value_core.specs.declared.value.Value.{Value}
use Rattle.value_core.specs.declared.state.Stage.{Stage}
use Rattle.value_core.specs.declared.state.Stage.TheVariants.{Ready, Waiting, Running}
use Rattle.core_rules.specs.Changes.{Change, Idles, Makes, Refuses, Tried, cancel, cancelled_row, confirm, confirm_at, input_index, pause, rebuild, rebuild_free, rebuild_row, set_input, set_rate, takes}
use Rattle.core_rules.specs.Core.{CoreState, job_numbered, stage, with_job, without_job}
use Rattle.core_rules.specs.Exits.{exit_outcome}
use Rattle.core_rules.specs.Orders.{finish, finish_by, leave, picked, result_row, take_by, take_job, take_pick, taken}
use Rattle.core_rules.specs.declared.done.Done.{Done}
use Rattle.core_rules.specs.Settling.{is_unmarked, live_on, settle}
use Rattle.core_rules.specs.Steps.{Accepted, Refused, answer, at_time, change, reply_of, settled_answer, step}
use Rattle.core_rules.specs.declared.events.Event.{Event}
use Rattle.core_rules.specs.declared.events.Refusal.{Refusal}
use Rattle.core_rules.specs.declared.events.What.{What}
use Rattle.core_rules.specs.declared.jobs.Job.{Job}
use Rattle.core_rules.specs.declared.jobs.Mark.{Mark}
use Rattle.core_rules.specs.declared.jobs.Mark.TheVariants.{Automatic, Unmarked, User}
use Rattle.core_rules.specs.declared.notes.Ending.{Ending}
use Rattle.core_rules.specs.declared.notes.Note.{Note}
use Rattle.fair_pool.specs.Fair.{withdrawn}
use Rattle.fair_pool.specs.Sound.{is_rate}
use Rattle.op_keys.specs.declared.order.Exit.{Exit}
use Rattle.sched_rows.specs.RowKeys.{RowKey, row_key}
use Rattle.sched_rows.specs.declared.row.Row.{Row}
use Rattle.term_core.specs.declared.program.InputDecl.{InputDecl}
use Rattle.core_rules.specs.declared.events.Refusal.TheVariants as refusal
use Rattle.core_rules.specs.declared.events.What.TheVariants as what
use Rattle.core_rules.proofs.Trying.{made}

-- what no own change touches
pub record Frame (s t : CoreState) : Type 0 where
  pub program : t.program ≡ s.program
  pub now : t.now ≡ s.now
  pub next : t.next ≡ s.next
  pub version : t.version ≡ s.version

-- a job with another mark or confirmed
pub record SameWork (f : Job → Job) : Type 0 where
  pub number : (j : Job) → (f j).number ≡ j.number
  pub triple : (j : Job) → (f j).triple ≡ j.triple
  pub worker : (j : Job) → (f j).worker ≡ j.worker

-- a job's ticket goes, if it is queued
abbrev pub TicketGone : CoreState → CoreState → Job → Type 0
TicketGone s t j = t.fair.tickets ≡ (if is_some j.worker then s.fair.tickets else (withdrawn j.number s.fair).tickets)

pub data Moved (s t : CoreState) : Type 0 where
  -- no job and no row
  Aside : Frame s t → t.jobs ≡ s.jobs → t.rows ≡ s.rows → t.fair.tickets ≡ s.fair.tickets → Moved s t
  -- one job's mark or confirmation
  Noted : Frame s t → (n : ℕ) (f : Job → Job) → SameWork f → t.jobs ≡ with_job n f s.jobs → t.rows ≡ s.rows → t.fair.tickets ≡ s.fair.tickets → Moved s t
  -- a job goes
  Gone : Frame s t → (n : ℕ) (j : Job) → job_numbered s.jobs n ≡ Some j → t.jobs ≡ without_job j.number s.jobs → t.rows ≡ s.rows → TicketGone s t j → Moved s t
  -- a job goes and leaves a row
  Ended : Frame s t → (n : ℕ) (j : Job) → job_numbered s.jobs n ≡ Some j → t.jobs ≡ without_job j.number s.jobs → (k : RowKey) (r : Row) → r.finished ≡ s.now → r.job ≡ j.number → t.rows ≡ insert s.rows k r → TicketGone s t j → Moved s t
  -- a row is marked
  Marked : Frame s t → t.jobs ≡ s.jobs → (k : RowKey) (r : Row) → get s.rows k ≡ Some r → t.rows ≡ insert s.rows k (record r { rebuild = true }) → t.fair.tickets ≡ s.fair.tickets → Moved s t
  -- a job is taken
  Took : (w n : ℕ) (j : Job) → picked s w ≡ Some n → job_numbered s.jobs n ≡ Some j → t ≡ taken s w j → Moved s t

abbrev Moves : CoreState → Tried → Type 0
Moves s x = (c : Change) → x ≡ Makes c → Moved s c.state

barred : (s : CoreState) (r : Refusal) → Moves s (Refuses r)
barred s r c e = let z : ⊥ = cc in absurd z

idles : (s : CoreState) (n : Note) → Moves s (Idles n)
idles s n c e = let z : ⊥ = cc in absurd z

makes : (s : CoreState) (x : Change) → Moved s x.state → Moves s (Makes x)
makes s x m c e = subst (λ z. Moved s z.state) (made x c e) m

if_moves : (s : CoreState) (b : Bool) (x y : Tried) → (b ≡ true → Moves s x) → (b ≡ false → Moves s y) → Moves s (if b then x else y)
if_moves s true x y p q = p refl
if_moves s false x y p q = q refl

ticket_stays : (s : CoreState) (j : Job) → is_some j.worker ≡ true → s.fair.tickets ≡ (if is_some j.worker then s.fair.tickets else (withdrawn j.number s.fair).tickets)
ticket_stays s j e = sym (ap (λ b. if b then s.fair.tickets else (withdrawn j.number s.fair).tickets) e)

ticket_goes : (s : CoreState) (j : Job) → is_some j.worker ≡ false → (withdrawn j.number s.fair).tickets ≡ (if is_some j.worker then s.fair.tickets else (withdrawn j.number s.fair).tickets)
ticket_goes s j e = sym (ap (λ b. if b then s.fair.tickets else (withdrawn j.number s.fair).tickets) e)

set_input_moves : (s : CoreState) (name : List ℕ) (v : Value) (place : ℕ) (o : Option InputDecl) → Moves s (set_input s name v place o)
set_input_moves s name v place None = barred s _
set_input_moves s name v place (Some d) = if_moves s (takes d v) _ _ (λ _. makes s _ (Aside (record { program = refl; now = refl; next = refl; version = refl }) refl refl refl)) (λ _. barred s _)

confirm_at_moves : (s : CoreState) (j : Job) (g : Stage) → Moves s (confirm_at s j g)
confirm_at_moves s j Ready = barred s _
confirm_at_moves s j Running = barred s _
confirm_at_moves s j Waiting = makes s _ (Noted (record { program = refl; now = refl; next = refl; version = refl }) j.number (λ k. record k { confirmed = true }) (record { number = λ _. refl; triple = λ _. refl; worker = λ _. refl }) refl refl refl)

confirm_moves : (s : CoreState) (o : Option Job) → Moves s (confirm s o)
confirm_moves s None = barred s _
confirm_moves s (Some j) = confirm_at_moves s j (stage s j)

cancel_moves : (s : CoreState) (n : ℕ) (o : Option Job) → job_numbered s.jobs n ≡ o → Moves s (cancel s o)
cancel_moves s n None is = barred s _
cancel_moves s n (Some j) is = if_moves s (is_unmarked j.mark) _ _
    (λ _. if_moves s (is_some j.worker) _ _
    (λ _. makes s _ (Noted (record { program = refl; now = refl; next = refl; version = refl }) j.number (λ k. record k { mark = User }) (record { number = λ _. refl; triple = λ _. refl; worker = λ _. refl }) refl refl refl))
    (λ e. makes s _ (Ended (record { program = refl; now = refl; next = refl; version = refl }) n j is refl _ (cancelled_row s j) refl refl refl (ticket_goes s j e))))
    (λ _. barred s _)

rebuild_row_moves : (s : CoreState) (k : RowKey) (o : Option Row) → get s.rows k ≡ o → Moves s (rebuild_row s k o)
rebuild_row_moves s k None is = barred s _
rebuild_row_moves s k (Some r) is = makes s _ (Marked (record { program = refl; now = refl; next = refl; version = refl }) refl k r is refl refl)

rebuild_free_moves : (s : CoreState) (k : RowKey) (o : Option Job) → Moves s (rebuild_free s k o)
rebuild_free_moves s k (Some j) = barred s _
rebuild_free_moves s k None = rebuild_row_moves s k (get s.rows k) refl

rebuild_moves : (s : CoreState) (name key : List ℕ) (o : Option ℕ) → Moves s (rebuild s name key o)
rebuild_moves s name key None = barred s _
rebuild_moves s name key (Some op) = rebuild_free_moves s (row_key name key) (live_on s.jobs op key)

pause_moves : (b : Bool) (s : CoreState) (o : Option ℕ) → Moves s (pause b s o)
pause_moves b s None = barred s _
pause_moves b s (Some w) = makes s _ (Aside (record { program = refl; now = refl; next = refl; version = refl }) refl refl refl)

set_rate_moves : (s : CoreState) (rate : ℕ) (o : Option ℕ) → Moves s (set_rate s rate o)
set_rate_moves s rate None = barred s _
set_rate_moves s rate (Some c) = if_moves s (is_rate rate) _ _ (λ _. makes s _ (Aside (record { program = refl; now = refl; next = refl; version = refl }) refl refl refl)) (λ _. barred s _)

take_job_moves : (s : CoreState) (w n : ℕ) (o : Option Job) → picked s w ≡ Some n → job_numbered s.jobs n ≡ o → Moves s (take_job s w o)
take_job_moves s w n None p is = idles s _
take_job_moves s w n (Some j) p is = makes s _ (Took w n j p is refl)

take_pick_moves : (s : CoreState) (w : ℕ) (o : Option ℕ) → picked s w ≡ o → Moves s (take_pick s w o)
take_pick_moves s w None p = idles s _
take_pick_moves s w (Some n) p = take_job_moves s w n (job_numbered s.jobs n) p refl

take_moves : (s : CoreState) (w : ℕ) → Moves s (take_by s w)
take_moves s w = if_moves s (nat_lt w (length s.program.workers)) _ _ (λ _. take_pick_moves s w (picked s w) refl) (λ _. barred s _)

leave_moves : (s : CoreState) (n : ℕ) (j : Job) (r : Row) (e : Ending) (log : List ℕ) → job_numbered s.jobs n ≡ Some j → is_some j.worker ≡ true → r.finished ≡ s.now → r.job ≡ j.number → Moves s (leave s j r e log)
leave_moves s n j r e log is w fin num = makes s _ (Ended (record { program = refl; now = refl; next = refl; version = refl }) n j is refl _ r fin num refl (ticket_stays s j w))

finish_by_moves : (m : Mark) (s : CoreState) (n : ℕ) (j : Job) (x : Exit) → job_numbered s.jobs n ≡ Some j → is_some j.worker ≡ true → Moves s (finish_by m s j x)
finish_by_moves Automatic s n j x is w = makes s _ (Gone (record { program = refl; now = refl; next = refl; version = refl }) n j is refl refl (ticket_stays s j w))
finish_by_moves User s n j x is w = leave_moves s n j (cancelled_row s j) _ _ is w refl refl
finish_by_moves Unmarked s n j x is w = leave_moves s n j (result_row s j (exit_outcome x)) _ _ is w refl refl

finish_moves : (s : CoreState) (n : ℕ) (o : Option Job) (x : Exit) → job_numbered s.jobs n ≡ o → Moves s (finish s o x)
finish_moves s n None x is = idles s _
finish_moves s n (Some j) x is = if_moves s (is_some j.worker) _ _ (λ w. finish_by_moves j.mark s n j x is w) (λ _. idles s _)

pub change_moves : (s : CoreState) (w : What) → Moves s (change s w)
change_moves s (what.SetInput name v) = set_input_moves s name v (input_index s name) _
change_moves s what.Tick = makes s _ (Aside (record { program = refl; now = refl; next = refl; version = refl }) refl refl refl)
change_moves s (what.SetLevel threshold) = makes s _ (Aside (record { program = refl; now = refl; next = refl; version = refl }) refl refl refl)
change_moves s (what.Confirm n) = confirm_moves s (job_numbered s.jobs n)
change_moves s (what.Cancel n) = cancel_moves s n (job_numbered s.jobs n) refl
change_moves s (what.Rebuild op key) = rebuild_moves s op key _
change_moves s (what.Pause w) = pause_moves true s _
change_moves s (what.Resume w) = pause_moves false s _
change_moves s (what.Rate pool client rate) = set_rate_moves s rate _
change_moves s (what.Take w) = take_moves s w
change_moves s (what.Finish n x) = finish_moves s n (job_numbered s.jobs n) x refl

-- an accepted step makes its own change, settles, and raises the version
pub record Accepts (s : CoreState) (e : Event) (s' : CoreState) (r : Done) : Type 0 where
  pub own : Change
  pub changed : change (at_time s e.at) e.what ≡ Makes own
  pub left : (s.version == 2 ^ 64 - 1) ≡ false
  pub after : CoreState
  pub settled : settle own.state ≡ Some after
  pub new : s' ≡ record after { version = s.version + 1 }
  pub reply : r ≡ reply_of s own after
  pub moved : Moved (at_time s e.at) own.state

settled_accepts : (s : CoreState) (e : Event) (s' : CoreState) (r : Done) (c : Change) → change (at_time s e.at) e.what ≡ Makes c → (s.version == 2 ^ 64 - 1) ≡ false → (o : Option CoreState) → settle c.state ≡ o →
    settled_answer s c o ≡ Accepted s' r → Accepts s e s' r
settled_accepts s e s' r c is l None o h = let z : ⊥ = cc in absurd z
settled_accepts s e s' r c is l (Some t) o h = record { own = c; changed = is; left = l; after = t; settled = o; new = cc; reply = cc; moved = change_moves (at_time s e.at) e.what c is }

answer_accepts : (s : CoreState) (e : Event) (s' : CoreState) (r : Done) (x : Tried) → change (at_time s e.at) e.what ≡ x → answer s x ≡ Accepted s' r → Accepts s e s' r
answer_accepts s e s' r (Refuses f) is h = let z : ⊥ = cc in absurd z
answer_accepts s e s' r (Idles n) is h = let z : ⊥ = cc in absurd z
answer_accepts s e s' r (Makes c) is h = elim (s.version == 2 ^ 64 - 1) as (λ b. (s.version == 2 ^ 64 - 1) ≡ b → (if b then Refused refusal.NumbersUsed else settled_answer s c (settle c.state)) ≡ Accepted s' r → Accepts s e s' r) [
  | true ↦ λ l k. let z : ⊥ = cc in absurd z
  | false ↦ λ l k. settled_accepts s e s' r c is l (settle c.state) refl k
] refl h

pub accepts : (s : CoreState) (e : Event) (s' : CoreState) (r : Done) → step s e ≡ Accepted s' r → Accepts s e s' r
unfolding step
accepts s e s' r h = answer_accepts s e s' r (change (at_time s e.at) e.what) refl h
