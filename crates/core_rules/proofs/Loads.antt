-- A worker runs at most its capacity.
use Rattle.std.proofs.Common.{◌≡◌, ℕ, ◌+◌, ◌<◌, ◌≤◌, Bool, true, false, not, ◌||◌, inl, inr, List, [], ◌∷◌, ◌++◌, map, Option, Some, None, refl, ap, sym, subst, arith}
use Rattle.std.proofs.lemmas.Bool.{cond_both, or_parts, leb-false, eqb-true}
use Rattle.std.specs.Prelude.{◌==◌, filter, if◌then◌else◌, option_map, slice_get}
use Rattle.value_core.specs.declared.state.Triple.{Triple}
use Rattle.core_rules.proofs.Moves.{Aside, Ended, Gone, Marked, Moved, Noted, Took, accepts}
use Rattle.core_rules.proofs.Settling.{kept_by_creating}
use Rattle.core_rules.specs.Core.{CoreState, layout_of, with_job, without_job}
use Rattle.core_rules.specs.Laws.{WithinCapacity}
use Rattle.core_rules.specs.Openings.{Durable, opened, start}
use Rattle.core_rules.specs.Orders.{load, picked, ready, runs_at, taken}
use Rattle.core_rules.specs.declared.done.Done.{Done}
use Rattle.core_rules.specs.Settling.{created, dropped, is_lost, lost_marked, mark_lost, new_job, settle_for, stays, targets, wanted}
use Rattle.core_rules.specs.Steps.{Accepted, at_time, step}
use Rattle.core_rules.specs.declared.events.Event.{Event}
use Rattle.core_rules.specs.declared.jobs.Job.{Job}
use Rattle.fair_pool.specs.Fair.{is_full, is_paused, next_ticket}
use Rattle.fair_pool.specs.Layouts.{capacity_of}
use Rattle.op_keys.specs.declared.level.Level.{Level}
use Rattle.term_core.specs.declared.program.Program.{Program}
use Rattle.value_core.proofs.Basics.{cond_is}

-- one more or none
abbrev one_if : Bool → ℕ
one_if b = if b then 1 else 0

pub load_filter : (q : Job → Bool) (js : List Job) (w : ℕ) → load (filter q js) w ≤ load js w
load_filter q [] w = omega arith
load_filter q (j ∷ js) w = cond_both (q j) (j ∷ filter q js) (filter q js) (λ ks. load ks w ≤ one_if (runs_at j.worker w) + load js w)
    (λ _. let h = load_filter q js w in omega arith) (λ _. let h = load_filter q js w in omega arith)

pub load_map : (f : Job → Job) (js : List Job) (w : ℕ) → ((j : Job) → (f j).worker ≡ j.worker) → load (map f js) w ≡ load js w
load_map f [] w k = refl
load_map f (j ∷ js) w k = λ i. one_if (runs_at (k j i) w) + load_map f js w k i

pub load_with : (n : ℕ) (f : Job → Job) (js : List Job) (w : ℕ) → ((j : Job) → (f j).worker ≡ j.worker) → load (with_job n f js) w ≡ load js w
load_with n f [] w k = refl
load_with n f (j ∷ js) w k = cond_both (j.number == n) (f j ∷ js) (j ∷ with_job n f js) (λ ks. load ks w ≡ one_if (runs_at j.worker w) + load js w)
    (λ _. ap (λ o. one_if (runs_at o w) + load js w) (k j)) (λ _. ap (λ m. one_if (runs_at j.worker w) + m) (load_with n f js w k))

pub load_push : (js : List Job) (n : ℕ) (t : Triple) (w : ℕ) → load (js ++ new_job n t ∷ []) w ≡ load js w
load_push [] n t w = refl
load_push (j ∷ js) n t w = ap (λ m. one_if (runs_at j.worker w) + m) (load_push js n t w)

-- who takes a job runs one more at most, and no other runs more
pub load_taken : (n : ℕ) (js : List Job) (w v : ℕ) → load (with_job n (λ k. record k { worker = Some w }) js) v ≤ load js v + one_if (w == v)
load_taken n [] w v = omega arith
load_taken n (j ∷ js) w v = cond_both {A = List Job} (j.number == n) _ _ (λ ks. load ks v ≤ one_if (runs_at j.worker v) + load js v + one_if (w == v))
    (λ _. omega arith) (λ _. let h = load_taken n js w v in omega arith)

pub picked_free : (s : CoreState) (w n : ℕ) → picked s w ≡ Some n → load s.jobs w < capacity_of (slice_get s.program.workers w)
picked_free s w n h = elim (cond_is {A = Option ℕ} (is_paused s.fair w || is_full (layout_of s.program) (load s.jobs) w) None (option_map (λ k. k.job) (next_ticket (layout_of s.program) s.fair (ready s) (load s.jobs) s.now w)) (Some n) h) [
  | inl i ↦ let z : ⊥ = (let f = i.1 in cc) in absurd z
  | inr i ↦ leb-false (capacity_of (slice_get s.program.workers w)) (load s.jobs w) (or_parts (is_paused s.fair w) (is_full (layout_of s.program) (load s.jobs) w) i.0).1
]

pub within_taken : (s : CoreState) (w n : ℕ) (j : Job) → picked s w ≡ Some n → WithinCapacity s.program s.jobs → WithinCapacity s.program (taken s w j).jobs
within_taken s w n j p h v = elim (w == v) as (λ b. (w == v) ≡ b → load (with_job j.number (λ k. record k { worker = Some w }) s.jobs) v ≤ capacity_of (slice_get s.program.workers v)) [
  | true ↦ λ e.
      let same : w ≡ v = eqb-true w v e in
      let free : load s.jobs v < capacity_of (slice_get s.program.workers v) = subst (λ x. load s.jobs x < capacity_of (slice_get s.program.workers x)) same (picked_free s w n p) in
      let l = load_taken j.number s.jobs w v in
      let one : one_if (w == v) ≡ 1 = ap one_if e in
      omega arith
  | false ↦ λ e.
      let l = load_taken j.number s.jobs w v in
      let none : one_if (w == v) ≡ 0 = ap one_if e in
      let k = h v in
      omega arith
] refl

within_like : (p q : Program) (js ks : List Job) → q ≡ p → ((w : ℕ) → load ks w ≤ load js w) → WithinCapacity p js → WithinCapacity q ks
within_like p q js ks e l h = subst (λ x. WithinCapacity x ks) (sym e) (λ w. let a = l w in let b = h w in omega arith)

same_load : (js ks : List Job) → ks ≡ js → (w : ℕ) → load ks w ≤ load js w
same_load js ks e w = let h : load ks w ≡ load js w = ap (λ x. load x w) e in omega arith

within_moved : (s t : CoreState) → Moved s t → WithinCapacity s.program s.jobs → WithinCapacity t.program t.jobs
within_moved s t (Aside f jobs rows tickets) h = within_like s.program t.program s.jobs t.jobs f.program (same_load s.jobs t.jobs jobs) h
within_moved s t (Noted f n g same jobs rows tickets) h = within_like s.program t.program s.jobs t.jobs f.program
    (λ w. let a = same_load (with_job n g s.jobs) t.jobs jobs w in let b = load_with n g s.jobs w same.worker in omega arith) h
within_moved s t (Gone f n j is jobs rows tickets) h = within_like s.program t.program s.jobs t.jobs f.program
    (λ w. let a = same_load (without_job j.number s.jobs) t.jobs jobs w in let b = load_filter (λ i. not (i.number == j.number)) s.jobs w in omega arith) h
within_moved s t (Ended f n j is jobs k r fin num rows tickets) h = within_like s.program t.program s.jobs t.jobs f.program
    (λ w. let a = same_load (without_job j.number s.jobs) t.jobs jobs w in let b = load_filter (λ i. not (i.number == j.number)) s.jobs w in omega arith) h
within_moved s t (Marked f jobs k r is rows tickets) h = within_like s.program t.program s.jobs t.jobs f.program (same_load s.jobs t.jobs jobs) h
within_moved s t (Took w n j p is new) h = subst (λ z. WithinCapacity z.program z.jobs) (sym new) (within_taken s w n j p h)

within_created : (s : CoreState) (u : Triple) → WithinCapacity s.program s.jobs → WithinCapacity s.program (created s u).jobs
within_created s u h = within_like s.program s.program s.jobs (s.jobs ++ new_job s.next u ∷ []) refl (λ v. let a = load_push s.jobs s.next u v in omega arith) h

pub marked_worker : (ws : List Triple) (s : CoreState) (j : Job) → (mark_lost ws s j).worker ≡ j.worker
marked_worker ws s j = cond_both {A = Job} (is_lost ws s j) _ _ (λ k. k.worker ≡ j.worker) (λ _. refl) (λ _. refl)

pub within_settled : (ws : List Triple) (s s' : CoreState) → settle_for ws s ≡ Some s' → WithinCapacity s.program s.jobs → WithinCapacity s'.program s'.jobs
within_settled ws s s' e h = kept_by_creating (λ z. WithinCapacity z.program z.jobs) (λ z u _ _ p. within_created z u p) (lost_marked ws (dropped ws s)) s' (targets ws s.jobs) e
    (within_like s.program s.program s.jobs (map (mark_lost ws (dropped ws s)) (filter (stays ws) s.jobs)) refl
    (λ w. let a = load_map (mark_lost ws (dropped ws s)) (filter (stays ws) s.jobs) w (marked_worker ws (dropped ws s)) in let b = load_filter (stays ws) s.jobs w in omega arith) h)

pub within_step : (s : CoreState) (e : Event) (s' : CoreState) (r : Done) → step s e ≡ Accepted s' r → WithinCapacity s.program s.jobs → WithinCapacity s'.program s'.jobs
within_step s e s' r h k =
    let a = accepts s e s' r h in
    subst (λ z. WithinCapacity z.program z.jobs) (sym a.new) (within_settled (wanted a.own.state) a.own.state a.after a.settled (within_moved (at_time s e.at) a.own.state a.moved k))

pub within_start : (program : Program) (durable : Durable) (threshold : Option Level) (reading : ℕ) (s : CoreState) → start program durable threshold reading ≡ Some s → WithinCapacity s.program s.jobs
unfolding start
within_start program durable threshold reading s h = within_settled (wanted (opened program durable threshold reading)) (opened program durable threshold reading) s h (λ w. omega arith)
