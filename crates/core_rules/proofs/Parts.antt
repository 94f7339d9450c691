-- The parts of a state settle and pick as the state does.
use Rattle.std.proofs.Common.{◌≡◌, ℕ, zero, suc, ◌+◌, ◌<◌, ◌≤◌, Bool, true, false, cond, not, ◌||◌, inl, inr, List, [], ◌∷◌, map, length, Option, Some, None, is_some, refl, ap, ◌∙◌, arith}
use Rattle.std.proofs.lemmas.Bool.{cond_both, eqb-true, or_left, or_right, cases_lt}
use Rattle.std.specs.List.{list_any, range_with_len}
use Rattle.value_core.specs.declared.state.Stage.TheVariants.{Running}
use Rattle.std.specs.Prelude.{◌==◌, ◌&&◌, slice_index, slice_get, ◌^◌, nat_lt, option_map, option_and_then, if◌then◌else◌}
use Rattle.value_core.specs.declared.value.Value.{Value}
use Rattle.value_core.specs.declared.state.Triple.{Triple}
use Rattle.core_rules.proofs.Queued.{queued, queued_cons, numbers}
use Rattle.core_rules.specs.Core.{CoreState, is_queued, job_numbered, layout_of, may_start, op_of, stage, when_allowed}
use Rattle.core_rules.specs.Laws.{Ticketed, WithinCapacity}
use Rattle.core_rules.specs.Orders.{is_ready, is_ready_job, load, picked, ready}
use Rattle.core_rules.specs.Parts.{core_of, dressed, pools_of, work_of}
use Rattle.core_rules.specs.Settling.{create, create_all, created, dropped, is_served, lost_marked, settle_for, targets}
use Rattle.core_rules.specs.declared.jobs.Job.{Job}
use Rattle.fair_pool.specs.Fair.{pick}
use Rattle.fair_pool.specs.Flags.{flag_of}
use Rattle.fair_pool.specs.Layouts.{capacity_of}
use Rattle.fair_pool.specs.Pools.{is_ready_in, pick_of}
use Rattle.fair_pool.specs.declared.ticket.Ticket.{Ticket}
use Rattle.op_keys.specs.declared.declarations.WorkerDecl.{WorkerDecl}

create_dressed : (inputs : List Value) (version : ℕ) (s : CoreState) (t : Triple) → create (dressed inputs version s) t ≡ option_map (dressed inputs version) (create s t)
create_dressed inputs version s t = elim (is_served s t) as (λ b. (if b then Some (dressed inputs version s) else (if nat_lt s.next (2 ^ 62) then Some (created (dressed inputs version s) t) else None))
    ≡ option_map (dressed inputs version) (if b then Some s else (if nat_lt s.next (2 ^ 62) then Some (created s t) else None))) [
      | true ↦ refl
      | false ↦ elim (nat_lt s.next (2 ^ 62)) as (λ b. (if b then Some (created (dressed inputs version s) t) else None) ≡ option_map (dressed inputs version) (if b then Some (created s t) else None)) [ true ↦ refl | false ↦ refl ]
    ]

then_dressed : (inputs : List Value) (version : ℕ) (ts : List Triple) → ((z : CoreState) → create_all (dressed inputs version z) ts ≡ option_map (dressed inputs version) (create_all z ts)) →
    (o : Option CoreState) → option_and_then (λ z. create_all z ts) (option_map (dressed inputs version) o) ≡ option_map (dressed inputs version) (option_and_then (λ z. create_all z ts) o)
then_dressed inputs version ts h None = refl
then_dressed inputs version ts h (Some z) = h z

all_dressed : (inputs : List Value) (version : ℕ) (s : CoreState) (ts : List Triple) → create_all (dressed inputs version s) ts ≡ option_map (dressed inputs version) (create_all s ts)
all_dressed inputs version s [] = refl
all_dressed inputs version s (t ∷ ts) = ap (option_and_then (λ z. create_all z ts)) (create_dressed inputs version s t)
    ∙ then_dressed inputs version ts (λ z. all_dressed inputs version z ts) (create s t)

pub settle_dressed : (inputs : List Value) (version : ℕ) (us : List Triple) (s : CoreState) → settle_for us (dressed inputs version s) ≡ option_map (dressed inputs version) (settle_for us s)
settle_dressed inputs version us s = all_dressed inputs version (lost_marked us (dropped us s)) (targets us s.jobs)

-- the whole core settles as its jobs do
pub settle_by_work : (us : List Triple) (s : CoreState) → settle_for us s ≡ option_map (dressed s.inputs s.version) (settle_for us (core_of (work_of s) s.rows s.now))
settle_by_work us s = settle_dressed s.inputs s.version us (core_of (work_of s) s.rows s.now)

-- ---- pools

-- whether a number stands in a list
abbrev pub among : List ℕ → ℕ → Bool
among ns n = list_any (λ m. m == n) ns

-- the flags of tickets by a test of their jobs tell the test, where there is a ticket
flags_by_test : (f : ℕ → Bool) (n : ℕ) (ks : List Ticket) → flag_of n ks (map (λ k. f k.job) ks) ≡ (among (numbers ks) n && f n)
flags_by_test f n [] = refl
flags_by_test f n (k ∷ ks) = elim (k.job == n) as (λ b. (k.job == n) ≡ b → (if b then f k.job else flag_of n ks (map (λ k. f k.job) ks)) ≡ ((b || among (numbers ks) n) && f n)) [
  | true ↦ λ e. ap f (eqb-true k.job n e)
  | false ↦ λ e. flags_by_test f n ks
] refl

-- a queued job that is found is among the queued
pub found_queued : (js : List Job) (n : ℕ) (j : Job) → job_numbered js n ≡ Some j → is_queued j ≡ true → among (queued js) n ≡ true
found_queued [] n j e q = let z : ⊥ = cc in absurd z
found_queued (i ∷ js) n j e q = elim (i.number == n) as (λ b. (i.number == n) ≡ b → cond b (Some i) (job_numbered js n) ≡ Some j → among (queued (i ∷ js)) n ≡ true) [
  | true ↦ λ is k.
      let same : i ≡ j = cc in
      let waits : is_queued i ≡ true = ap is_queued same ∙ q in
      ap (λ ns. among ns n) (queued_cons i js ∙ ap (λ b. cond b (i.number ∷ queued js) (queued js)) waits) ∙ or_left (i.number == n) (among (queued js) n) is
  | false ↦ λ is k. ap (λ ns. among ns n) (queued_cons i js)
      ∙ cond_both (is_queued i) (i.number ∷ queued js) (queued js) (λ ns. among ns n ≡ true) (λ _. or_right (i.number == n) (among (queued js) n) (found_queued js n j k q)) (λ _. found_queued js n j k q)
] refl e

-- a ready job is queued
pub ready_queued : (s : CoreState) (j : Job) → is_ready (stage s j) ≡ true → is_queued j ≡ true
ready_queued s j e = by_worker (is_some j.worker) (may_start s.threshold (op_of s j.triple.op) || j.confirmed) e
  where
    by_worker : (w b : Bool) → is_ready (if w then Running else when_allowed b) ≡ true → not w ≡ true
    by_worker true b e = let z : ⊥ = cc in absurd z
    by_worker false b e = refl

and_none : (b : Bool) → (b && false) ≡ false
and_none true = refl
and_none false = refl

ready_among : (s : CoreState) (n : ℕ) (o : Option Job) → job_numbered s.jobs n ≡ o → (among (queued s.jobs) n && is_ready_job s o) ≡ is_ready_job s o
ready_among s n None is = and_none (among (queued s.jobs) n)
ready_among s n (Some j) is = elim (is_ready (stage s j)) as (λ b. is_ready (stage s j) ≡ b → (among (queued s.jobs) n && b) ≡ b) [
  | true ↦ λ e. ap (λ b. b && true) (found_queued s.jobs n j is (ready_queued s j e))
  | false ↦ λ e. and_none (among (queued s.jobs) n)
] refl

pub loads_at : (f : ℕ → ℕ) (at k w : ℕ) → w < k → slice_index (map f (range_with_len at k)) w ≡ f (at + w)
loads_at f at zero w l = absurd (omega arith)
loads_at f at (suc k) zero l = ap f (omega arith)
loads_at f at (suc k) (suc w) l = loads_at f (at + 1) k w (omega arith) ∙ ap f (omega arith)

pub loads_past : (f : ℕ → ℕ) (at k w : ℕ) → k ≤ w → slice_index (map f (range_with_len at k)) w ≡ 0
loads_past f at zero w l = refl
loads_past f at (suc k) zero l = absurd (omega arith)
loads_past f at (suc k) (suc w) l = loads_past f (at + 1) k w (omega arith)

pub no_capacity : (ws : List WorkerDecl) (w : ℕ) → length ws ≤ w → capacity_of (slice_get ws w) ≡ 0
no_capacity [] w l = refl
no_capacity (x ∷ ws) zero l = absurd (omega arith)
no_capacity (x ∷ ws) (suc w) l = no_capacity ws w (omega arith)

pub same_loads : (s : CoreState) (spare : ℕ) → WithinCapacity s.program s.jobs → (w : ℕ) → slice_index (pools_of s spare).loads w ≡ load s.jobs w
same_loads s spare h w = elim (cases_lt w (length s.program.workers)) [
  | inl l ↦ loads_at (load s.jobs) 0 (length s.program.workers) w l ∙ ap (load s.jobs) (omega arith)
  | inr l ↦
      let a = loads_past (load s.jobs) 0 (length s.program.workers) w l in
      let b = no_capacity s.program.workers w l in
      let c = h w in
      omega (arith, a)
]

-- the pools of a state pick as the state does
pub pools_pick : (s : CoreState) (spare : ℕ) → WithinCapacity s.program s.jobs → Ticketed s → (w : ℕ) → pick_of (pools_of s spare) s.now w ≡ picked s w
pools_pick s spare within tickets w =
    let p : (n : ℕ) → is_ready_in (pools_of s spare) n ≡ ready s n =
    λ n. flags_by_test (ready s) n s.fair.tickets ∙ ap (λ ns. among ns n && ready s n) tickets ∙ ready_among s n (job_numbered s.jobs n) refl in
    let q = same_loads s spare within in
    λ i. pick (layout_of s.program) s.fair (λ n. p n i) (λ v. q v i) s.now w
