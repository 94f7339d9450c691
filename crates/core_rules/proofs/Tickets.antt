-- A ticket for each queued job, in order.
use Rattle.std.proofs.Common.{◌≡◌, ℕ, ◌<◌, Bool, true, false, cond, not, ◌||◌, List, [], ◌∷◌, ◌++◌, map, Option, Some, None, is_some, refl, ap, sym, ◌∙◌, subst}
use Rattle.std.proofs.lemmas.Bool.{cond_both, eq-eqb, lt-ltb}
use Rattle.std.specs.Prelude.{filter, if◌then◌else◌}
use Rattle.std.specs.List.{AllByRecursion}
use Rattle.value_core.specs.declared.state.Triple.{Triple}
use Rattle.core_rules.proofs.Helpers.{all_filter}
use Rattle.core_rules.proofs.Moves.{Aside, Ended, Gone, Marked, Moved, Noted, SameWork, Took, accepts}
use Rattle.core_rules.proofs.Numbers.{NumberedState, numbered_created, numbered_lost, numbered_opened, numbered_own}
use Rattle.core_rules.proofs.Queued.{has_none, is_not, not_queued, not_same_back, numbers, numbers-filter, queued, queued_cons, queued_stay, queued_taken, queued_with, queued_without}
use Rattle.core_rules.proofs.Settling.{kept_by_creating}
use Rattle.core_rules.proofs.Starts.{number_found}
use Rattle.core_rules.specs.Core.{CoreState, has_job, is_queued, job_numbered, op_of, without_job}
use Rattle.core_rules.specs.Laws.{JobsAbove, JobsBelow, Rising, Ticketed}
use Rattle.core_rules.specs.Openings.{Durable, IsDurable, opened, start}
use Rattle.core_rules.specs.declared.done.Done.{Done}
use Rattle.core_rules.specs.Settling.{created, dropped, is_lost, lost_marked, mark_lost, new_job, new_ticket, settle_for, stays, targets, wanted}
use Rattle.core_rules.specs.Steps.{Accepted, at_time, step}
use Rattle.core_rules.specs.declared.events.Event.{Event}
use Rattle.core_rules.specs.declared.jobs.Job.{Job}
use Rattle.fair_pool.specs.Fair.{with_ticket, withdrawn}
use Rattle.fair_pool.specs.declared.ticket.Ticket.{Ticket}
use Rattle.op_keys.specs.declared.declarations.OpDecl.{OpDecl}
use Rattle.op_keys.specs.declared.level.Level.{Level}
use Rattle.term_core.specs.declared.program.Program.{Program}

-- ---- own changes

gone_numbers : (s : CoreState) (n : ℕ) (j : Job) → Rising s.jobs → Ticketed s → job_numbered s.jobs n ≡ Some j →
    numbers (if is_some j.worker then s.fair.tickets else (withdrawn j.number s.fair).tickets) ≡ queued (without_job j.number s.jobs)
gone_numbers s n j r h is = elim (is_some j.worker) as (λ b. is_some j.worker ≡ b → numbers (if b then s.fair.tickets else (withdrawn j.number s.fair).tickets) ≡ queued (without_job j.number s.jobs)) [
  | true ↦ λ w. h ∙ sym (not_queued j.number s.jobs j r (subst (λ m. job_numbered s.jobs m ≡ Some j) (sym (number_found s.jobs n j is)) is) w) ∙ sym (queued_without j.number s.jobs)
  | false ↦ λ w. numbers-filter (is_not j.number) s.fair.tickets ∙ ap (filter (is_not j.number)) h ∙ sym (queued_without j.number s.jobs)
] refl

pub ticketed_moved : (s t : CoreState) → Moved s t → Rising s.jobs → Ticketed s → Ticketed t
ticketed_moved s t (Aside f jobs rows tickets) r h = ap numbers tickets ∙ h ∙ sym (ap queued jobs)
ticketed_moved s t (Noted f n g same jobs rows tickets) r h = ap numbers tickets ∙ h ∙ sym (ap queued jobs ∙ queued_with n g s.jobs same)
ticketed_moved s t (Gone f n j is jobs rows tickets) r h = ap numbers tickets ∙ gone_numbers s n j r h is ∙ sym (ap queued jobs)
ticketed_moved s t (Ended f n j is jobs k row fin num rows tickets) r h = ap numbers tickets ∙ gone_numbers s n j r h is ∙ sym (ap queued jobs)
ticketed_moved s t (Marked f jobs k row is rows tickets) r h = ap numbers tickets ∙ h ∙ sym (ap queued jobs)
ticketed_moved s t (Took w n j p is new) r h = subst Ticketed (sym new)
    (numbers-filter (is_not j.number) s.fair.tickets ∙ ap (filter (is_not j.number)) h ∙ sym (queued_taken j.number w s.jobs r))

-- ---- settling

stays_later : (q : Job → Bool) (j : Job) (js is : List Job) → JobsAbove j.number is → AllByRecursion (λ i. has_job js i.number ≡ q i) is →
    (c : Bool) → AllByRecursion (λ i. has_job (cond c (j ∷ js) js) i.number ≡ q i) is
stays_later q j js [] a h c = tt
stays_later q j js (i ∷ is) a h c = (cond_both c (j ∷ js) js (λ ks. has_job ks i.number ≡ q i) (λ _. ap (λ b. b || has_job js i.number) (not_same_back j.number i.number a.0) ∙ h.0) (λ _. h.0), stays_later q j js is a.1 h.1 c)

pub stays_by_number : (q : Job → Bool) (js : List Job) → Rising js → AllByRecursion (λ j. has_job (filter q js) j.number ≡ q j) js
stays_by_number q [] r = tt
stays_by_number q (j ∷ js) r = (
  elim (q j) as (λ b. has_job (cond b (j ∷ filter q js) (filter q js)) j.number ≡ b) [
    | true ↦ ap (λ b. b || has_job (filter q js) j.number) (eq-eqb j.number j.number refl)
    | false ↦ has_none j.number (filter q js) (all_filter (λ (i : Job). j.number < i.number) q js r.0)
  ],
  stays_later q j (filter q js) js r.0 (stays_by_number q js r.1) (q j),
)

pub ticketed_dropped : (ws : List Triple) (s : CoreState) → Rising s.jobs → Ticketed s → Ticketed (dropped ws s)
ticketed_dropped ws s r h = numbers-filter (has_job (filter (stays ws) s.jobs)) s.fair.tickets
    ∙ ap (filter (has_job (filter (stays ws) s.jobs))) h
    ∙ sym (queued_stay (has_job (filter (stays ws) s.jobs)) (stays ws) s.jobs (stays_by_number (stays ws) s.jobs r))

pub queued_map : (f : Job → Job) (js : List Job) → SameWork f → queued (map f js) ≡ queued js
queued_map f [] k = refl
queued_map f (j ∷ js) k = queued_cons (f j) (map f js)
    ∙ (λ i. cond (not (is_some (k.worker j i))) (k.number j i ∷ queued_map f js k i) (queued_map f js k i)) ∙ sym (queued_cons j js)

pub mark_same : (ws : List Triple) (s : CoreState) → SameWork (mark_lost ws s)
mark_same ws s = record {
  number = λ j. cond_both {A = Job} (is_lost ws s j) _ _ (λ k. k.number ≡ j.number) (λ _. refl) (λ _. refl);
  triple = λ j. cond_both {A = Job} (is_lost ws s j) _ _ (λ k. k.triple ≡ j.triple) (λ _. refl) (λ _. refl);
  worker = λ j. cond_both {A = Job} (is_lost ws s j) _ _ (λ k. k.worker ≡ j.worker) (λ _. refl) (λ _. refl);
}

pub queued_push : (js : List Job) (n : ℕ) (t : Triple) → queued (js ++ new_job n t ∷ []) ≡ queued js ++ n ∷ []
queued_push [] n t = refl
queued_push (j ∷ js) n t = queued_cons j (js ++ new_job n t ∷ []) ∙ ap (λ x. cond (is_queued j) (j.number ∷ x) x) (queued_push js n t)
    ∙ elim (is_queued j) as (λ b. cond b (j.number ∷ (queued js ++ n ∷ [])) (queued js ++ n ∷ []) ≡ cond b (j.number ∷ queued js) (queued js) ++ n ∷ []) [ true ↦ refl | false ↦ refl ]
    ∙ ap (λ x. x ++ n ∷ []) (sym (queued_cons j js))

-- a ticket behind all others stands last
pub numbers_placed : (ks : List Ticket) (k : Ticket) → AllByRecursion (λ n. n < k.job) (numbers ks) → numbers (with_ticket k ks) ≡ numbers ks ++ k.job ∷ []
numbers_placed [] k h = refl
numbers_placed (l ∷ ks) k h = ap (λ b. numbers (if b then l ∷ with_ticket k ks else k ∷ l ∷ ks)) (lt-ltb l.job k.job h.0) ∙ ap (λ x. l.job ∷ x) (numbers_placed ks k h.1)

pub queued_below : (n : ℕ) (js : List Job) → JobsBelow n js → AllByRecursion (λ m. m < n) (queued js)
queued_below n [] h = tt
queued_below n (j ∷ js) h = subst (AllByRecursion (λ m. m < n)) (sym (queued_cons j js))
    (cond_both (is_queued j) (j.number ∷ queued js) (queued js) (AllByRecursion (λ m. m < n)) (λ _. (h.0, queued_below n js h.1)) (λ _. queued_below n js h.1))

new_ticket_numbers : (s : CoreState) (t : Triple) (o : Option OpDecl) → AllByRecursion (λ m. m < s.next) (numbers s.fair.tickets) → numbers (new_ticket s t o).tickets ≡ numbers s.fair.tickets ++ s.next ∷ []
new_ticket_numbers s t None h = numbers_placed s.fair.tickets _ h
new_ticket_numbers s t (Some d) h = numbers_placed s.fair.tickets _ h

pub ticketed_created : (s : CoreState) (t : Triple) → JobsBelow s.next s.jobs → Ticketed s → Ticketed (created s t)
ticketed_created s t b h =
    let below : AllByRecursion (λ m. m < s.next) (numbers s.fair.tickets) = subst (AllByRecursion (λ m. m < s.next)) (sym h) (queued_below s.next s.jobs b) in
    new_ticket_numbers s t (op_of s t.op) below ∙ ap (λ x. x ++ s.next ∷ []) h ∙ sym (queued_push s.jobs s.next t)

pub ticketed_settled : (ws : List Triple) (s s' : CoreState) → settle_for ws s ≡ Some s' → NumberedState s → Ticketed s → Ticketed s'
ticketed_settled ws s s' e n h =
    let marks = queued_map (mark_lost ws (dropped ws s)) (filter (stays ws) s.jobs) (mark_same ws (dropped ws s)) in
    let kept : NumberedState s' × Ticketed s' = kept_by_creating (λ z. NumberedState z × Ticketed z) (λ z u _ _ p. (numbered_created z u p.0, ticketed_created z u p.0.jobs_below p.1))
    (lost_marked ws (dropped ws s)) s' (targets ws s.jobs) e (numbered_lost ws s n, ticketed_dropped ws s n.rising h ∙ sym marks) in
    kept.1

-- ---- steps and openings

pub ticketed_step : (s : CoreState) (e : Event) (s' : CoreState) (r : Done) → step s e ≡ Accepted s' r → NumberedState s → Ticketed s → Ticketed s'
ticketed_step s e s' r h numbered k =
    let a = accepts s e s' r h in
    let own = numbered_own s e s' r h numbered in
    subst Ticketed (sym a.new) (ticketed_settled (wanted a.own.state) a.own.state a.after a.settled own (ticketed_moved (at_time s e.at) a.own.state a.moved numbered.rising k))

pub ticketed_start : (program : Program) (durable : Durable) (threshold : Option Level) (reading : ℕ) (s : CoreState) → IsDurable durable → start program durable threshold reading ≡ Some s → Ticketed s
unfolding start
ticketed_start program durable threshold reading s d h =
    ticketed_settled (wanted (opened program durable threshold reading)) (opened program durable threshold reading) s h (numbered_opened program durable threshold reading d) refl
