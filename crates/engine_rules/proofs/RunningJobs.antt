-- How events change how many jobs run.
use Rattle.std.proofs.Common.{◌≡◌, ℕ, zero, suc, ◌+◌, ◌*◌, ◌<◌, ◌≤◌, Bool, true, false, cond, not, ◌||◌, inl, inr, List, [], ◌∷◌, ◌++◌, map, length, Option, Some, None, is_some, refl, ap, sym, ◌∙◌, subst, arith}
use Rattle.std.proofs.lemmas.Bool.{cases_lt, cond_both, eq-eqb, eqb-true}
use Rattle.std.specs.Prelude.{◌==◌, filter, if◌then◌else◌, slice_get}
use Rattle.std.specs.List.{AllByRecursion}
use Rattle.value_core.specs.declared.state.Triple.{Triple}
use Rattle.op_keys.specs.declared.declarations.WorkerDecl.{WorkerDecl}
use Rattle.term_core.specs.Limits.{IsWithinLimits, IsWorkerWithin}
use Rattle.fair_pool.specs.Fair.{withdrawn}
use Rattle.fair_pool.specs.Layouts.{capacity_of}
use Rattle.core_rules.specs.declared.events.Event.{Event}
use Rattle.core_rules.specs.declared.events.What.{What}
use Rattle.core_rules.specs.declared.events.What.TheVariants as what
use Rattle.core_rules.specs.declared.jobs.Job.{Job}
use Rattle.core_rules.specs.Core.{CoreState, job_numbered, with_job, without_job}
use Rattle.core_rules.specs.Laws.{Invariant, JobsAbove, Rising, WithinCapacity}
use Rattle.core_rules.specs.Orders.{load, picked, runs_at}
use Rattle.core_rules.specs.declared.done.Done.{Done}
use Rattle.core_rules.specs.Settling.{dropped, lost_marked, mark_lost, new_job, settle_for, stays, targets, wanted}
use Rattle.term_core.specs.Counts.{is_wanted}
use Rattle.core_rules.specs.Steps.{Accepted, at_time, step}
use Rattle.core_rules.proofs.Moves.{accepts}
use Rattle.core_rules.proofs.Settling.{kept_by_creating}
use Rattle.core_rules.proofs.Starts.{number_found}
use Rattle.core_rules.specs.declared.own.Own.{Own}
use Rattle.core_rules.specs.declared.own.Own.TheVariants as own
use Rattle.engine_rules.specs.Edits.{MayOwn, edit_of}
use Rattle.core_rules.specs.Own.{cancelled, own_made, took}
use Rattle.core_rules.specs.Orders.{taken_by}
use Rattle.core_rules.specs.Changes.{confirmed, user_marked}
use Rattle.engine_rules.specs.Running.{RunsBy, running}
use Rattle.engine_rules.proofs.Edited.{change_made, passed_may_own}
use Rattle.core_rules.proofs.Rising.{none_numbered}
use Rattle.core_rules.proofs.Parts.{no_capacity}
use Rattle.core_rules.proofs.Loads.{picked_free, marked_worker}

-- one or none
abbrev one_if : Bool → ℕ
one_if b = if b then 1 else 0

-- ---- settling

running_stays : (ws : List Triple) (js : List Job) → running (filter (stays ws) js) ≡ running js
running_stays ws [] = refl
running_stays ws (j ∷ js) = elim (is_some j.worker) as (λ b. is_some j.worker ≡ b → running (cond (b || is_wanted ws j.triple) (j ∷ filter (stays ws) js) (filter (stays ws) js)) ≡ one_if (is_some j.worker) + running js) [
  | true ↦ λ e. ap (λ n. one_if (is_some j.worker) + n) (running_stays ws js)
  | false ↦ λ e. cond_both (is_wanted ws j.triple) (j ∷ filter (stays ws) js) (filter (stays ws) js) (λ ks. running ks ≡ one_if (is_some j.worker) + running js)
      (λ _. ap (λ n. one_if (is_some j.worker) + n) (running_stays ws js))
      (λ _. let none : one_if (is_some j.worker) ≡ 0 = ap one_if e in let h = running_stays ws js in omega (arith, h, none))
] refl

running_map : (f : Job → Job) (js : List Job) → ((j : Job) → (f j).worker ≡ j.worker) → running (map f js) ≡ running js
running_map f [] k = refl
running_map f (j ∷ js) k = λ i. one_if (is_some (k j i)) + running_map f js k i

running_push : (js : List Job) (n : ℕ) (t : Triple) → running (js ++ new_job n t ∷ []) ≡ running js
running_push [] n t = refl
running_push (j ∷ js) n t = ap (λ m. one_if (is_some j.worker) + m) (running_push js n t)

running_settled : (ws : List Triple) (s s' : CoreState) → settle_for ws s ≡ Some s' → running s'.jobs ≡ running s.jobs
running_settled ws s s' e = kept_by_creating (λ z. running z.jobs ≡ running s.jobs) (λ z u _ _ p. running_push z.jobs z.next u ∙ p) (lost_marked ws (dropped ws s)) s' (targets ws s.jobs) e
    (running_map (mark_lost ws (dropped ws s)) (filter (stays ws) s.jobs) (marked_worker ws (dropped ws s)) ∙ running_stays ws s.jobs)

-- ---- own changes

running_with : (n : ℕ) (f : Job → Job) (js : List Job) → ((j : Job) → (f j).worker ≡ j.worker) → running (with_job n f js) ≡ running js
running_with n f [] k = refl
running_with n f (j ∷ js) k = cond_both (j.number == n) (f j ∷ js) (j ∷ with_job n f js) (λ ks. running ks ≡ running (j ∷ js))
    (λ _. ap (λ o. one_if (is_some o) + running js) (k j)) (λ _. ap (λ m. one_if (is_some j.worker) + m) (running_with n f js k))

running_taken : (n w : ℕ) (js : List Job) (j : Job) → job_numbered js n ≡ Some j → is_some j.worker ≡ false → running (with_job n (taken_by w) js) ≡ running js + 1
running_taken n w [] j e f = let z : ⊥ = cc in absurd z
running_taken n w (i ∷ js) j e f = elim (i.number == n) as (λ b. cond b (Some i) (job_numbered js n) ≡ Some j → running (if b then taken_by w i ∷ js else i ∷ with_job n (taken_by w) js) ≡ one_if (is_some i.worker) + running js + 1) [
  | true ↦ λ e.
      let same : i ≡ j = cc in
      let free : one_if (is_some i.worker) ≡ 0 = ap one_if (ap (λ x. is_some x.worker) same ∙ f) in
      omega (arith, free)
  | false ↦ λ e. let h = running_taken n w js j e f in omega (arith, h)
] e

running_without : (n : ℕ) (js : List Job) (j : Job) → Rising js → job_numbered js n ≡ Some j → running (without_job n js) + one_if (is_some j.worker) ≡ running js
running_without n [] j r e = let z : ⊥ = cc in absurd z
running_without n (i ∷ js) j r e = elim (i.number == n) as (λ b. (i.number == n) ≡ b → cond b (Some i) (job_numbered js n) ≡ Some j →
    running (cond (not b) (i ∷ without_job n js) (without_job n js)) + one_if (is_some j.worker) ≡ one_if (is_some i.worker) + running js) [
      | true ↦ λ is e.
          let same : i ≡ j = cc in
          let above : JobsAbove n js = subst (λ m. JobsAbove m js) (eqb-true i.number n is) r.0 in
          let left : running (without_job n js) ≡ running js = ap running (none_numbered n js above) in
          let one : one_if (is_some i.worker) ≡ one_if (is_some j.worker) = ap (λ x. one_if (is_some x.worker)) same in
          omega (arith, left, one)
      | false ↦ λ is e. let h = running_without n js j r.1 e in omega (arith, h)
    ] refl e

running_cancelled : (s : CoreState) (n : ℕ) (j : Job) → Rising s.jobs → job_numbered s.jobs n ≡ Some j → running (cancelled s (Some j)).jobs ≡ running s.jobs
running_cancelled s n j r is =
    let found : job_numbered s.jobs j.number ≡ Some j = subst (λ m. job_numbered s.jobs m ≡ Some j) (sym (number_found s.jobs n j is)) is in
    elim (is_some j.worker) as (λ b. is_some j.worker ≡ b → running (if b then record s { jobs = with_job j.number user_marked s.jobs } else record s { jobs = without_job j.number s.jobs; fair = withdrawn j.number s.fair }).jobs ≡ running s.jobs) [
      | true ↦ λ w. running_with j.number user_marked s.jobs (λ _. refl)
      | false ↦ λ w.
          let h = running_without j.number s.jobs j r found in
          let none : one_if (is_some j.worker) ≡ 0 = ap one_if w in
          omega (arith, h, none)
    ] refl

-- ---- fewer than 64

-- how many jobs the first workers run
abbrev loads_below : ℕ → List Job → ℕ
loads_below zero js = 0
loads_below (suc k) js = load js k + loads_below k js

-- how often a worker is one of the first
abbrev hits : ℕ → Option ℕ → ℕ
hits zero o = 0
hits (suc k) o = one_if (runs_at o k) + hits k o

loads_none : (k : ℕ) → loads_below k [] ≡ 0
loads_none zero = refl
loads_none (suc k) = let h = loads_none k in omega (arith, h)

loads_cons : (k : ℕ) (j : Job) (js : List Job) → loads_below k (j ∷ js) ≡ hits k j.worker + loads_below k js
loads_cons zero j js = refl
loads_cons (suc k) j js = let h = loads_cons k j js in omega (arith, h)

one_hit : (k v : ℕ) → v < k → 1 ≤ hits k (Some v)
one_hit zero v l = absurd (omega arith)
one_hit (suc k) v l = elim (v == k) as (λ b. (v == k) ≡ b → 1 ≤ one_if b + hits k (Some v)) [
  | true ↦ λ e. omega arith
  | false ↦ λ e. let h = one_hit k v (less_one k v l e) in omega (arith, h)
] refl
  where
    less_one : (k v : ℕ) → v < suc k → (v == k) ≡ false → v < k
    less_one k v l e = elim (cases_lt v k) [
      | inl h ↦ h
      | inr h ↦ let same : v ≡ k = omega arith in let t : (v == k) ≡ true = eq-eqb v k same in let z : true ≡ false = sym t ∙ e in let y : ⊥ = cc in absurd y
    ]

-- each running job's worker is one of the first
running_loads : (k : ℕ) (js : List Job) → ((v : ℕ) → k ≤ v → load js v ≡ 0) → running js ≤ loads_below k js
running_loads k [] h = let e = loads_none k in omega (arith, e)
running_loads k (j ∷ js) h =
    let rest : running js ≤ loads_below k js = running_loads k js (λ v le. let e = h v le in omega (arith, e)) in
    let cons = loads_cons k j js in
    let one : one_if (is_some j.worker) ≤ hits k j.worker = by_worker k j.worker (λ v le. let e = h v le in omega (arith, e)) in
    omega (arith, rest, cons, one)
  where
    runs_self : (v : ℕ) → runs_at (Some v) v ≡ true
    runs_self v = eq-eqb v v refl

    by_worker : (k : ℕ) (o : Option ℕ) → ((v : ℕ) → k ≤ v → one_if (runs_at o v) ≡ 0) → one_if (is_some o) ≤ hits k o
    by_worker k None g = omega arith
    by_worker k (Some v) g = elim (cases_lt v k) [
      | inl l ↦ one_hit k v l
      | inr l ↦
          let a : one_if (runs_at (Some v) v) ≡ 0 = g v l in
          let b : one_if (runs_at (Some v) v) ≡ 1 = ap one_if (runs_self v) in
          absurd (omega (arith, a, b))
    ]

loads_bounded : (k : ℕ) (js : List Job) → ((v : ℕ) → load js v ≤ 8) → loads_below k js ≤ 8 * k
loads_bounded zero js h = omega arith
loads_bounded (suc k) js h = let a = h k in let b = loads_bounded k js h in omega (arith, a, b)

loads_less : (k w : ℕ) (js : List Job) → ((v : ℕ) → load js v ≤ 8) → w < k → load js w < 8 → loads_below k js < 8 * k
loads_less zero w js h l f = absurd (omega arith)
loads_less (suc k) w js h l f = elim (cases_lt w k) [
  | inl g ↦ let a = h k in let b = loads_less k w js h g f in omega (arith, a, b)
  | inr g ↦
      let same : k ≡ w = omega arith in
      let a : load js k < 8 = subst (λ m. load js m < 8) (sym same) f in
      let b = loads_bounded k js h in
      omega (arith, a, b)
]

capacity_small : (ws : List WorkerDecl) (w : ℕ) → AllByRecursion IsWorkerWithin ws → capacity_of (slice_get ws w) ≤ 8
capacity_small [] w h = omega arith
capacity_small (x ∷ ws) zero h = h.0.capacity
capacity_small (x ∷ ws) (suc w) h = capacity_small ws w h.1

-- where a worker has a pick, fewer than 64 jobs run
few_run : (s : CoreState) (w n : ℕ) → WithinCapacity s.program s.jobs → IsWithinLimits s.program → w < length s.program.workers → picked s w ≡ Some n → running s.jobs < 64
few_run s w n within limits l p =
    let small : (v : ℕ) → load s.jobs v ≤ 8 = (λ v. let a = within v in let b = capacity_small s.program.workers v limits.workers in omega (arith, a, b)) in
    let none : (v : ℕ) → length s.program.workers ≤ v → load s.jobs v ≡ 0 = (λ v le. let a = within v in let b = no_capacity s.program.workers v le in omega (arith, a, b)) in
    let free : load s.jobs w < 8 = (let a = picked_free s w n p in let b = capacity_small s.program.workers w limits.workers in omega (arith, a, b)) in
    let few = limits.few_workers in
    let a = running_loads (length s.program.workers) s.jobs none in
    let b = loads_less (length s.program.workers) w s.jobs small l free in
    omega (arith, a, b, few)

-- ---- events

-- what a change among the jobs makes of their number
abbrev RunsByOwn : Own → ℕ → ℕ → Type 0
RunsByOwn (own.Take w) before after = (after ≡ before + 1) × (before < 64)
RunsByOwn (own.Finish n) before after = after + 1 ≡ before
RunsByOwn o before after = after ≡ before

runs_by_own : (s : CoreState) (o : Own) → Rising s.jobs → WithinCapacity s.program s.jobs → IsWithinLimits s.program → MayOwn s o → RunsByOwn o (running s.jobs) (running (own_made o s).jobs)
runs_by_own s own.None rising within limits m = refl
runs_by_own s (own.Level threshold) rising within limits m = refl
runs_by_own s (own.Confirm n) rising within limits m = running_with n confirmed s.jobs (λ _. refl)
runs_by_own s (own.Cancel n) rising within limits m = ap (λ o. running (cancelled s o).jobs) m.1 ∙ running_cancelled s n m.0 rising m.1
runs_by_own s (own.Take w) rising within limits m = (ap (λ p. running (took s w p).jobs) m.2 ∙ running_taken m.1 w s.jobs m.3.0 m.3.1 m.3.2, few_run s w m.1 within limits m.0 m.2)
runs_by_own s (own.Finish n) rising within limits m =
    let h = running_without n s.jobs m.0 rising m.1 in
    let one : one_if (is_some m.0.worker) ≡ 1 = ap one_if m.2 in
    omega (arith, h, one)
runs_by_own s (own.Pause w) rising within limits m = refl
runs_by_own s (own.Resume w) rising within limits m = refl
runs_by_own s (own.Rate c rate) rising within limits m = refl

by_event : (s : CoreState) (w : What) (before after : ℕ) → RunsByOwn (edit_of s w).own before after → RunsBy w before after
by_event s (what.SetInput name v) before after h = h
by_event s what.Tick before after h = h
by_event s (what.SetLevel threshold) before after h = h
by_event s (what.Confirm n) before after h = h
by_event s (what.Cancel n) before after h = h
by_event s (what.Rebuild op key) before after h = h
by_event s (what.Pause w) before after h = h
by_event s (what.Resume w) before after h = h
by_event s (what.Rate pool client rate) before after h = h
by_event s (what.Take w) before after h = h
by_event s (what.Finish n x) before after h = h

pub running_by_events : (s : CoreState) (e : Event) (s' : CoreState) (r : Done) → Invariant s → IsWithinLimits s.program → step s e ≡ Accepted s' r → RunsBy e.what (running s.jobs) (running s'.jobs)
running_by_events s e s' r i limits h =
    let a = accepts s e s' r h in
    let u : CoreState = at_time s e.at in
    let made = change_made u e.what a.own a.changed in
    let later : running s'.jobs ≡ running (own_made (edit_of u e.what).own u).jobs = ap (λ z. running z.jobs) a.new ∙ running_settled (wanted a.own.state) a.own.state a.after a.settled ∙ sym (ap (λ c. running c.state.jobs) made.1) in
    subst (RunsBy e.what (running s.jobs)) (sym later) (by_event u e.what (running s.jobs) (running (own_made (edit_of u e.what).own u).jobs) (runs_by_own u (edit_of u e.what).own i.lawful.numbered.rising i.lawful.within limits (passed_may_own u e.what made.0)))
