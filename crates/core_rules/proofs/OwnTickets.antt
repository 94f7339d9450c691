-- Each ticket is that of the live job of its number.
use Rattle.std.proofs.Common.{◌≡◌, ℕ, ◌+◌, ◌<◌, Bool, true, false, cond, max, not, List, [], ◌∷◌, ◌++◌, map, Option, Some, None, is_some, length, refl, ap, sym, ◌∙◌, subst, arith}
use Rattle.std.proofs.lemmas.Bool.{cond_both}
use Rattle.std.specs.Prelude.{◌==◌, filter, if◌then◌else◌, slice_index}
use Rattle.std.specs.List.{AllByRecursion}
use Rattle.value_core.specs.declared.state.Triple.{Triple}
use Rattle.op_keys.specs.declared.declarations.OpDecl.{OpDecl}
use Rattle.op_keys.specs.declared.level.Level.{Level}
use Rattle.term_core.specs.declared.program.Program.{Program}
use Rattle.fair_pool.specs.declared.ticket.Ticket.{Ticket}
use Rattle.fair_pool.specs.Fair.{job_before, with_ticket, withdrawn}
use Rattle.fair_pool.specs.Layouts.{client_number, pool_number}
use Rattle.core_rules.specs.declared.done.Done.{Done}
use Rattle.core_rules.specs.declared.events.Event.{Event}
use Rattle.core_rules.specs.declared.jobs.Job.{Job}
use Rattle.core_rules.specs.Bounds.{AreTicketsOwn, IsTicketBy, IsTicketFor, IsTicketOwn}
use Rattle.core_rules.specs.Core.{CoreState, has_job, job_numbered, op_of, with_job, without_job}
use Rattle.core_rules.specs.Laws.{JobsBelow, Rising, Ticketed}
use Rattle.core_rules.specs.Openings.{Durable, IsDurable, opened, start}
use Rattle.core_rules.specs.Settling.{created, dropped, hint_for, lost_marked, mark_lost, new_job, new_ticket, settle_for, stays, targets, wanted}
use Rattle.core_rules.specs.Steps.{Accepted, at_time, step}
use Rattle.core_rules.proofs.Helpers.{all_filter, find-push, find-push_new}
use Rattle.core_rules.proofs.Moves.{Aside, Ended, Gone, Marked, Moved, Noted, SameWork, Took, accepts}
use Rattle.core_rules.proofs.Numbers.{NumberedState, numbered_created, numbered_lost, numbered_opened, numbered_own}
use Rattle.core_rules.proofs.Queued.{not_same, not_same_back, numbers}
use Rattle.core_rules.proofs.Rising.{found_in}
use Rattle.core_rules.proofs.Settling.{kept_by_creating}
use Rattle.core_rules.proofs.Starts.{number_found}
use Rattle.core_rules.proofs.Tickets.{mark_same, queued_below, queued_map, ticketed_created, ticketed_dropped, ticketed_moved}

-- ---- jobs by their numbers, where some change or go

-- a job of the same triple
pub record Alike (js : List Job) (m : ℕ) (j : Job) : Type 0 where
  pub job : Job
  pub found : job_numbered js m ≡ Some job
  pub triple : job.triple ≡ j.triple

alike_later : (i : Job) (js : List Job) (m : ℕ) (j : Job) → (i.number == m) ≡ false → Alike js m j → Alike (i ∷ js) m j
alike_later i js m j e a = record { job = a.job; found = ap (λ b. cond b (Some i) (job_numbered js m)) e ∙ a.found; triple = a.triple }

itself : (js : List Job) (m : ℕ) (j : Job) → job_numbered js m ≡ Some j → Alike js m j
itself js m j e = record { job = j; found = e; triple = refl }

alike_first : (f : Job → Job) → SameWork f → (i : Job) (js ks : List Job) (m : ℕ) (j : Job) → (job_numbered ks m ≡ Some j → Alike js m j) → job_numbered (f i ∷ ks) m ≡ Some j → Alike (i ∷ js) m j
alike_first f k i js ks m j rest e = elim (i.number == m) as (λ b. (i.number == m) ≡ b → cond b (Some (f i)) (job_numbered ks m) ≡ Some j → Alike (i ∷ js) m j) [
  | true ↦ λ is g. let same : f i ≡ j = cc in record { job = i; found = ap (λ b. cond b (Some i) (job_numbered js m)) is; triple = sym (k.triple i) ∙ ap (λ (x : Job). x.triple) same }
  | false ↦ λ is g. alike_later i js m j is (rest g)
] refl (sym (ap (λ x. cond (x == m) (Some (f i)) (job_numbered ks m)) (k.number i)) ∙ e)

same_work : SameWork (λ j. j)
same_work = record { number = λ _. refl; triple = λ _. refl; worker = λ _. refl }

found_with : (n : ℕ) (f : Job → Job) (js : List Job) (m : ℕ) (j : Job) → ((j : Job) → (f j).number ≡ j.number) → ((j : Job) → (f j).triple ≡ j.triple) → job_numbered (with_job n f js) m ≡ Some j → Alike js m j
found_with n f [] m j k t e = let z : ⊥ = cc in absurd z
found_with n f (i ∷ js) m j k t e = elim (i.number == n) as (λ b. job_numbered (if b then f i ∷ js else (i ∷ with_job n f js)) m ≡ Some j → Alike (i ∷ js) m j) [
  | true ↦ λ g. elim (i.number == m) as (λ b. (i.number == m) ≡ b → cond b (Some (f i)) (job_numbered js m) ≡ Some j → Alike (i ∷ js) m j) [
    | true ↦ λ is h. let same : f i ≡ j = cc in record { job = i; found = ap (λ b. cond b (Some i) (job_numbered js m)) is; triple = sym (t i) ∙ ap (λ (x : Job). x.triple) same }
    | false ↦ λ is h. alike_later i js m j is (itself js m j h)
  ] refl (sym (ap (λ x. cond (x == m) (Some (f i)) (job_numbered js m)) (k i)) ∙ g)
  | false ↦ λ g. elim (i.number == m) as (λ b. (i.number == m) ≡ b → cond b (Some i) (job_numbered (with_job n f js) m) ≡ Some j → Alike (i ∷ js) m j) [
    | true ↦ λ is h. itself (i ∷ js) m j (ap (λ b. cond b (Some i) (job_numbered js m)) is ∙ h)
    | false ↦ λ is h. alike_later i js m j is (found_with n f js m j k t h)
  ] refl g
] e

found_map : (f : Job → Job) → SameWork f → (js : List Job) (m : ℕ) (j : Job) → job_numbered (map f js) m ≡ Some j → Alike js m j
found_map f k [] m j e = let z : ⊥ = cc in absurd z
found_map f k (i ∷ js) m j e = alike_first f k i js (map f js) m j (found_map f k js m j) e

found_filter : (q : Job → Bool) (js : List Job) (m : ℕ) (j : Job) → Rising js → job_numbered (filter q js) m ≡ Some j → job_numbered js m ≡ Some j
found_filter q [] m j r e = e
found_filter q (i ∷ js) m j r e = elim (q i) as (λ b. job_numbered (cond b (i ∷ filter q js) (filter q js)) m ≡ Some j → job_numbered (i ∷ js) m ≡ Some j) [
  | true ↦ λ g. elim (i.number == m) as (λ b. cond b (Some i) (job_numbered (filter q js) m) ≡ Some j → cond b (Some i) (job_numbered js m) ≡ Some j) [
    | true ↦ λ h. h
    | false ↦ λ h. found_filter q js m j r.1 h
  ] g
  | false ↦ λ g.
      let above : i.number < j.number = found_in (λ n. i.number < n) m (filter q js) j (all_filter (λ (x : Job). i.number < x.number) q js r.0) g in
      let is : j.number ≡ m = number_found (filter q js) m j g in
      ap (λ b. cond b (Some i) (job_numbered js m)) (not_same_back i.number m (omega (arith, above, is))) ∙ found_filter q js m j r.1 g
] e

found_before : (js : List Job) (x : Job) (m : ℕ) (j : Job) → m < x.number → job_numbered (js ++ x ∷ []) m ≡ Some j → job_numbered js m ≡ Some j
found_before js x m j l e = elim (job_numbered js m) as (λ o. job_numbered js m ≡ o → o ≡ Some j) [
  | Some i ↦ λ is. sym (find-push (λ k. k.number == m) js x i is) ∙ e
  | None ↦ λ is. let z : None ≡ Some j = sym (find-push_new (λ k. k.number == m) js x is ∙ ap (λ b. cond b (Some x) None) (not_same m x.number l)) ∙ e in let y : ⊥ = cc in absurd y
] refl

found_new : (js : List Job) (x : Job) (j : Job) → JobsBelow x.number js → job_numbered (js ++ x ∷ []) x.number ≡ Some j → x ≡ j
found_new [] x j b e = elim (x.number == x.number) as (λ c. cond c (Some x) None ≡ Some j → x ≡ j) [ true ↦ λ g. cc | false ↦ λ g. let z : ⊥ = cc in absurd z ] e
found_new (i ∷ js) x j b e = found_new js x j b.1 (sym (ap (λ c. cond c (Some i) (job_numbered (js ++ x ∷ []) x.number)) (not_same_back i.number x.number b.0)) ∙ e)

-- ---- tickets

like : (p : Program) (js ks : List Job) (k : Ticket) → ((j : Job) → job_numbered ks k.job ≡ Some j → Alike js k.job j) → IsTicketOwn p js k → IsTicketOwn p ks k
like p js ks k a h j e = let x = a j e in subst (λ t. IsTicketFor p k t) x.triple (h x.job x.found)

all_like : (p : Program) (js ks : List Job) (ts : List Ticket) → ((m : ℕ) (j : Job) → job_numbered ks m ≡ Some j → Alike js m j) → AreTicketsOwn p js ts → AreTicketsOwn p ks ts
all_like p js ks [] a h = tt
all_like p js ks (k ∷ ts) a h = (like p js ks k (a k.job) h.0, all_like p js ks ts a h.1)

abbrev OwnTickets : CoreState → Type 0
OwnTickets s = AreTicketsOwn s.program s.jobs s.fair.tickets

own_like : (p q : Program) (js js' : List Job) (ts ts' : List Ticket) → q ≡ p → js' ≡ js → ts' ≡ ts → AreTicketsOwn p js ts → AreTicketsOwn q js' ts'
own_like p q js js' ts ts' e f g h =
    let a = subst (λ x. AreTicketsOwn x js ts) (sym e) h in
    let b = subst (λ x. AreTicketsOwn q x ts) (sym f) a in
    subst (λ x. AreTicketsOwn q js' x) (sym g) b

own_gone : (p : Program) (s : CoreState) (j : Job) → Rising s.jobs → AreTicketsOwn p s.jobs s.fair.tickets →
    AreTicketsOwn p (without_job j.number s.jobs) (if is_some j.worker then s.fair.tickets else (withdrawn j.number s.fair).tickets)
own_gone p s j r h = cond_both (is_some j.worker) s.fair.tickets (withdrawn j.number s.fair).tickets (AreTicketsOwn p (without_job j.number s.jobs))
    (λ _. fewer s.fair.tickets h) (λ _. fewer (withdrawn j.number s.fair).tickets (all_filter (IsTicketOwn p s.jobs) (λ k. not (k.job == j.number)) s.fair.tickets h))
  where
    fewer : (ts : List Ticket) → AreTicketsOwn p s.jobs ts → AreTicketsOwn p (without_job j.number s.jobs) ts
    fewer ts g = all_like p s.jobs (without_job j.number s.jobs) ts (λ m i e. itself s.jobs m i (found_filter (λ i. not (i.number == j.number)) s.jobs m i r e)) g

own_moved : (s t : CoreState) → Moved s t → Rising s.jobs → OwnTickets s → OwnTickets t
own_moved s t (Aside f jobs rows tickets) r h = own_like s.program t.program s.jobs t.jobs s.fair.tickets t.fair.tickets f.program jobs tickets h
own_moved s t (Noted f n g same jobs rows tickets) r h = own_like s.program t.program (with_job n g s.jobs) t.jobs s.fair.tickets t.fair.tickets f.program jobs tickets
    (all_like s.program s.jobs (with_job n g s.jobs) s.fair.tickets (λ m j e. found_with n g s.jobs m j same.number same.triple e) h)
own_moved s t (Gone f n j is jobs rows tickets) r h = own_like s.program t.program (without_job j.number s.jobs) t.jobs _ t.fair.tickets f.program jobs tickets (own_gone s.program s j r h)
own_moved s t (Ended f n j is jobs k row fin num rows tickets) r h = own_like s.program t.program (without_job j.number s.jobs) t.jobs _ t.fair.tickets f.program jobs tickets (own_gone s.program s j r h)
own_moved s t (Marked f jobs k row is rows tickets) r h = own_like s.program t.program s.jobs t.jobs s.fair.tickets t.fair.tickets f.program jobs tickets h
own_moved s t (Took w n j p is new) r h = subst OwnTickets (sym new)
    (all_like s.program s.jobs (with_job j.number (λ k. record k { worker = Some w }) s.jobs) (withdrawn j.number s.fair).tickets
    (λ m i e. found_with j.number (λ k. record k { worker = Some w }) s.jobs m i (λ _. refl) (λ _. refl) e)
    (all_filter (IsTicketOwn s.program s.jobs) (λ k. not (k.job == j.number)) s.fair.tickets h))

-- ---- settling

own_dropped : (ws : List Triple) (s : CoreState) → Rising s.jobs → OwnTickets s → OwnTickets (lost_marked ws (dropped ws s))
own_dropped ws s r h =
    let jobs = filter (stays ws) s.jobs in
    all_like s.program jobs (map (mark_lost ws (dropped ws s)) jobs) (dropped ws s).fair.tickets (λ m j e. found_map (mark_lost ws (dropped ws s)) (mark_same ws (dropped ws s)) jobs m j e)
    (all_like s.program s.jobs jobs (dropped ws s).fair.tickets (λ m j e. itself s.jobs m j (found_filter (stays ws) s.jobs m j r e))
    (all_filter (IsTicketOwn s.program s.jobs) (λ k. has_job jobs k.job) s.fair.tickets h))

all_placed : (P : Ticket → Type 0) (k : Ticket) (ks : List Ticket) → P k → AllByRecursion P ks → AllByRecursion P (with_ticket k ks)
all_placed P k [] p h = (p, tt)
all_placed P k (l ∷ ks) p h = cond_both (job_before l k) (l ∷ with_ticket k ks) (k ∷ l ∷ ks) (AllByRecursion P) (λ _. (h.0, all_placed P k ks p h.1)) (λ _. (p, h))

-- older tickets are of older jobs
older : (p : Program) (js : List Job) (x : Job) (ks : List Ticket) → AllByRecursion (λ n. n < x.number) (numbers ks) → AreTicketsOwn p js ks → AreTicketsOwn p (js ++ x ∷ []) ks
older p js x [] b h = tt
older p js x (k ∷ ks) b h = (λ j e. h.0 j (found_before js x k.job j b.0 e), older p js x ks b.1 h.1)

newer : (p : Program) (js : List Job) (x : Job) (k : Ticket) → JobsBelow x.number js → k.job ≡ x.number → IsTicketFor p k x.triple → IsTicketOwn p (js ++ x ∷ []) k
newer p js x k b is f j e = subst (λ (y : Job). IsTicketFor p k y.triple) (found_new js x j b (sym (ap (job_numbered (js ++ x ∷ [])) is) ∙ e)) f

-- the ticket of the next job, of an operation and of none
abbrev new_for : CoreState → Triple → OpDecl → Ticket
new_for s t d = record { job = s.next; pool = pool_number s.program.pools d.pool; urgent = d.urgent; hint = hint_for d t; start = max s.now (slice_index s.fair.next (client_number s.program.clients d.pool d.client)); created = s.now }

abbrev new_bare : CoreState → Ticket
new_bare s = record { job = s.next; pool = length s.program.pools + 1; urgent = false; hint = None; start = s.now; created = s.now }

created_by : (s : CoreState) (t : Triple) (o : Option OpDecl) → op_of s t.op ≡ o → JobsBelow s.next s.jobs → AllByRecursion (λ n. n < s.next) (numbers s.fair.tickets) → OwnTickets s →
    AreTicketsOwn s.program (s.jobs ++ new_job s.next t ∷ []) (new_ticket s t o).tickets
created_by s t None is b below h = all_placed (IsTicketOwn s.program (s.jobs ++ new_job s.next t ∷ [])) (new_bare s) s.fair.tickets
    (newer s.program s.jobs (new_job s.next t) (new_bare s) b refl (subst (λ o. IsTicketBy s.program (new_bare s) o t) (sym is) tt)) (older s.program s.jobs (new_job s.next t) s.fair.tickets below h)
created_by s t (Some d) is b below h = all_placed (IsTicketOwn s.program (s.jobs ++ new_job s.next t ∷ [])) (new_for s t d) s.fair.tickets
    (newer s.program s.jobs (new_job s.next t) (new_for s t d) b refl (subst (λ o. IsTicketBy s.program (new_for s t d) o t) (sym is) (refl, refl, refl))) (older s.program s.jobs (new_job s.next t) s.fair.tickets below h)

own_created : (s : CoreState) (t : Triple) → JobsBelow s.next s.jobs → Ticketed s → OwnTickets s → OwnTickets (created s t)
own_created s t b tickets h = created_by s t (op_of s t.op) refl b (subst (AllByRecursion (λ n. n < s.next)) (sym tickets) (queued_below s.next s.jobs b)) h

-- what creating keeps
record Waits (s : CoreState) : Type 0 where
  numbered : NumberedState s
  ticketed : Ticketed s
  own : OwnTickets s

waits_settled : (ws : List Triple) (s s' : CoreState) → settle_for ws s ≡ Some s' → NumberedState s → Ticketed s → OwnTickets s → OwnTickets s'
waits_settled ws s s' e n k h =
    let marks = queued_map (mark_lost ws (dropped ws s)) (filter (stays ws) s.jobs) (mark_same ws (dropped ws s)) in
    let kept : Waits s' = kept_by_creating Waits
    (λ z u _ _ p. record { numbered = numbered_created z u p.numbered; ticketed = ticketed_created z u p.numbered.jobs_below p.ticketed; own = own_created z u p.numbered.jobs_below p.ticketed p.own })
    (lost_marked ws (dropped ws s)) s' (targets ws s.jobs) e
    (record { numbered = numbered_lost ws s n; ticketed = ticketed_dropped ws s n.rising k ∙ sym marks; own = own_dropped ws s n.rising h }) in
    kept.own

-- ---- steps and openings

pub own_step : (s : CoreState) (e : Event) (s' : CoreState) (r : Done) → step s e ≡ Accepted s' r → NumberedState s → Ticketed s → OwnTickets s → OwnTickets s'
own_step s e s' r h n k o =
    let a = accepts s e s' r h in
    let u = at_time s e.at in
    subst OwnTickets (sym a.new) (waits_settled (wanted a.own.state) a.own.state a.after a.settled (numbered_own s e s' r h n) (ticketed_moved u a.own.state a.moved n.rising k) (own_moved u a.own.state a.moved n.rising o))

pub own_start : (program : Program) (durable : Durable) (threshold : Option Level) (reading : ℕ) (s : CoreState) → IsDurable durable → start program durable threshold reading ≡ Some s → OwnTickets s
unfolding start
own_start program durable threshold reading s d h =
    waits_settled (wanted (opened program durable threshold reading)) (opened program durable threshold reading) s h (numbered_opened program durable threshold reading d) refl tt
