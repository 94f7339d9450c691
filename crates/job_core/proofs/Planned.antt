-- The single changes of a plan may be made, each in its turn.
use Rattle.std.proofs.Common.{◌≡◌, ℕ, ◌+◌, ◌^◌, ◌<◌, ◌≤◌, Bool, true, false, cond, not, ◌||◌, List, [], ◌∷◌, map, length, Option, Some, None, is_some, refl, sym, ap, ◌∙◌, subst, arith}
use Rattle.std.proofs.lemmas.Bool.{and_parts, cond_both, eq-eqb, ne_eqb, not-true, or_left, or_parts}
use Rattle.std.specs.Prelude.{◌==◌, filter}
use Rattle.std.specs.List.{AllByRecursion}
use Rattle.value_core.specs.declared.state.Triple.{Triple}
use Rattle.sched_rows.specs.Rows.{Rows}
use Rattle.fair_pool.proofs.Ordered.{all_since}
use Rattle.core_rules.proofs.Helpers.{all_filter, filter_passes}
use Rattle.core_rules.specs.Core.{has_job, job_numbered, with_job, without_job}
use Rattle.core_rules.specs.Laws.{JobsAbove, OneEach, Rising, Ticketed}
use Rattle.core_rules.specs.Parts.{Work, core_of}
use Rattle.core_rules.specs.Settling.{is_served, live_on, on_key, stays, targets}
use Rattle.term_core.specs.Counts.{is_wanted}
use Rattle.core_rules.specs.declared.jobs.Job.{Job}
use Rattle.core_rules.specs.declared.jobs.Mark.TheVariants.{Automatic}
use Rattle.job_core.specs.Plans.{CanCreate, CanLose, CanWithdraw, created_all, created_work, lost_work, triples_of}
use Rattle.job_core.specs.Single.{is_queued_found, is_queued_in, withdrawn_work}
use Rattle.job_core.specs.State.{bare}
use Rattle.job_core.specs.Wants.{HasHint, TriplesRise, drops_of, fresh_of, is_lost_by, lost_of}
use Rattle.job_core.specs.declared.plan.NewJob.{NewJob}
use Rattle.job_core.proofs.Creating.{KeysApart, apart_filter, live_later, targets_apart, unserved}
use Rattle.job_core.proofs.Dropping.{all_numbers, both, told_by}
use Rattle.job_core.proofs.Found.{numbered_without}
use Rattle.job_core.proofs.Settled.{dropped_jobs, dropped_work, marked_work, next_same, program_same, unserved_is}

-- ---- drops

-- no number stands twice
abbrev NumbersApart : List ℕ → Type 0
NumbersApart [] = Unit {0}
NumbersApart (n ∷ ns) = AllByRecursion (λ m. (m == n) ≡ false) ns × NumbersApart ns

drops_by : (ns : List ℕ) (w : Work) → NumbersApart ns → AllByRecursion (λ n. is_queued_in w.jobs n ≡ true) ns → CanWithdraw ns w
drops_by [] w a q = tt
drops_by (n ∷ ns) w a q = (
  q.0,
  drops_by ns (withdrawn_work n w) a.1
      (both (λ m. (m == n) ≡ false) (λ m. is_queued_in w.jobs m ≡ true) (λ m. is_queued_in (without_job n w.jobs) m ≡ true) (λ m e k. ap is_queued_found (numbered_without n m w.jobs e) ∙ k) ns a.0 q.1),
)

later_apart : (n : ℕ) (q : Job → Bool) (js : List Job) → JobsAbove n js → AllByRecursion (λ m. (m == n) ≡ false) (map (λ (j : Job). j.number) (filter q js))
later_apart n q [] a = tt
later_apart n q (j ∷ js) a = cond_both (q j) (j ∷ filter q js) (filter q js) (λ ks. AllByRecursion (λ m. (m == n) ≡ false) (map (λ (j : Job). j.number) ks))
    (λ _. let l = a.0 in (ne_eqb j.number n (λ e. absurd (omega arith)), later_apart n q js a.1)) (λ _. later_apart n q js a.1)

numbers_apart : (q : Job → Bool) (js : List Job) → Rising js → NumbersApart (map (λ (j : Job). j.number) (filter q js))
numbers_apart q [] r = tt
numbers_apart q (j ∷ js) r = cond_both (q j) (j ∷ filter q js) (filter q js) (λ ks. NumbersApart (map (λ (j : Job). j.number) ks)) (λ _. (later_apart j.number q js r.0, numbers_apart q js r.1)) (λ _. numbers_apart q js r.1)

found_later : (j : Job) (js is : List Job) → JobsAbove j.number is → AllByRecursion (λ (i : Job). job_numbered js i.number ≡ Some i) is → AllByRecursion (λ (i : Job). job_numbered (j ∷ js) i.number ≡ Some i) is
found_later j js [] a h = tt
found_later j js (i ∷ is) a h = (ap (λ b. cond b (Some j) (job_numbered js i.number)) (let l = a.0 in ne_eqb j.number i.number (λ e. absurd (omega arith))) ∙ h.0, found_later j js is a.1 h.1)

found_each : (js : List Job) → Rising js → AllByRecursion (λ (j : Job). job_numbered js j.number ≡ Some j) js
found_each [] r = tt
found_each (j ∷ js) r = (ap (λ b. cond b (Some j) (job_numbered js j.number)) (eq-eqb j.number j.number refl), found_later j js js r.0 (found_each js r.1))

-- a job that doesn't stay is queued
goes_queued : (w a : Bool) → not (w || a) ≡ true → not w ≡ true
goes_queued true a e = e
goes_queued false a e = refl

pub can_drop : (ws : List Triple) (w : Work) → Rising w.jobs → CanWithdraw (drops_of ws w.jobs) w
can_drop ws w r =
    let q = λ (j : Job). not (stays ws j) in
    drops_by (drops_of ws w.jobs) w (numbers_apart q w.jobs r)
    (all_numbers (λ n. is_queued_in w.jobs n ≡ true) (filter q w.jobs)
    (both (λ (j : Job). q j ≡ true) (λ (j : Job). job_numbered w.jobs j.number ≡ Some j) (λ (j : Job). is_queued_in w.jobs j.number ≡ true)
    (λ j e f. ap is_queued_found f ∙ goes_queued (is_some j.worker) (is_wanted ws j.triple) e) (filter q w.jobs) (filter_passes q w.jobs) (all_filter (λ (j : Job). job_numbered w.jobs j.number ≡ Some j) q w.jobs (found_each w.jobs r))))

-- ---- marks

has_with : (n m : ℕ) (f : Job → Job) (js : List Job) → ((j : Job) → (f j).number ≡ j.number) → has_job (with_job n f js) m ≡ has_job js m
has_with n m f [] k = refl
has_with n m f (j ∷ js) k = cond_both (j.number == n) (f j ∷ js) (j ∷ with_job n f js) (λ ks. has_job ks m ≡ has_job (j ∷ js) m)
    (λ _. ap (λ x. (x == m) || has_job js m) (k j)) (λ _. ap (λ b. (j.number == m) || b) (has_with n m f js k))

loses_by : (ns : List ℕ) (w : Work) → AllByRecursion (λ n. has_job w.jobs n ≡ true) ns → CanLose ns w
loses_by [] w h = tt
loses_by (n ∷ ns) w h = (
  h.0,
  loses_by ns (lost_work n w)
      (all_since (λ m. has_job w.jobs m ≡ true) (λ m. has_job (with_job n (λ j. record j { mark = Automatic }) w.jobs) m ≡ true) (λ m k. has_with n m (λ j. record j { mark = Automatic }) w.jobs (λ _. refl) ∙ k) ns h.1),
)

pub can_lose : (ws : List Triple) (w : Work) (rows : Rows) (now : ℕ) → Rising w.jobs → Ticketed (bare w) → CanLose (lost_of ws w.program.ops w.jobs) (dropped_work ws w rows now)
can_lose ws w rows now r t =
    let q = is_lost_by ws w.program.ops in
    let jobs = dropped_jobs ws w rows now r t in
    loses_by (lost_of ws w.program.ops w.jobs) (dropped_work ws w rows now)
    (subst (λ ks. AllByRecursion (λ n. has_job ks n ≡ true) (lost_of ws w.program.ops w.jobs)) (sym jobs)
    (all_numbers (λ n. has_job (filter (stays ws) w.jobs) n ≡ true) (filter q w.jobs)
    (both (λ (j : Job). q j ≡ true) (λ (j : Job). has_job (filter (stays ws) w.jobs) j.number ≡ stays ws j) (λ (j : Job). has_job (filter (stays ws) w.jobs) j.number ≡ true)
    (λ j e f. f ∙ or_left (is_some j.worker) (is_wanted ws j.triple) (and_parts (is_some j.worker) _ e).0) (filter q w.jobs) (filter_passes q w.jobs) (all_filter (λ (j : Job). has_job (filter (stays ws) w.jobs) j.number ≡ stays ws j) q w.jobs (told_by (stays ws) w.jobs r)))))

-- ---- new jobs

creates_by : (now : ℕ) (ns : List NewJob) (w : Work) → KeysApart (triples_of ns) → AllByRecursion (λ (t : Triple). live_on w.jobs t.op t.key ≡ None) (triples_of ns) →
    AllByRecursion (λ (t : Triple). t.op < length w.program.ops) (triples_of ns) → AllByRecursion (HasHint w.program.ops) ns → w.next + length ns ≤ 2 ^ 62 → CanCreate now ns w
creates_by now [] w a f d h l = tt
creates_by now (n ∷ ns) w a f d h l = (
  record { declared = d.0; hint = h.0; free = f.0; number = omega arith },
  creates_by now ns (created_work now n.triple w) a.1
      (both (λ (u : Triple). on_key n.triple.op n.triple.key u ≡ false) (λ (u : Triple). live_on w.jobs u.op u.key ≡ None) (λ (u : Triple). live_on (created_work now n.triple w).jobs u.op u.key ≡ None) (λ u e k. live_later now w n.triple u e ∙ k) (triples_of ns) a.0 f.1)
      d.1 h.1 (omega arith),
)

none_there : (o : Option Job) → is_some o ≡ false → o ≡ None
none_there None e = refl
none_there (Some j) e = let z : ⊥ = cc in absurd z

pub can_create : (ws : List Triple) (w : Work) (rows : Rows) (now : ℕ) (ns : List NewJob) → Rising w.jobs → Ticketed (bare w) → OneEach w.jobs → TriplesRise ws →
    AllByRecursion (λ (t : Triple). t.op < length w.program.ops) ws → triples_of ns ≡ fresh_of ws (core_of w rows now) → AllByRecursion (HasHint w.program.ops) ns → w.next + length ns ≤ 2 ^ 62 → CanCreate now ns (marked_work ws w rows now)
can_create ws w rows now ns r t o rises d e h l =
    let m = marked_work ws w rows now in
    let is : unserved rows now m (targets ws w.jobs) ≡ triples_of ns = unserved_is ws w rows now r t o ∙ sym e in
    let program = program_same ws w rows now r t in
    let next = next_same ws w rows now r t in
    creates_by now ns m
    (subst KeysApart is (apart_filter (λ u. not (is_served (core_of m rows now) u)) (targets ws w.jobs) (targets_apart ws w.jobs rises)))
    (subst (AllByRecursion (λ (u : Triple). live_on m.jobs u.op u.key ≡ None)) is
    (all_since (λ u. not (is_served (core_of m rows now) u) ≡ true) (λ u. live_on m.jobs u.op u.key ≡ None) (λ u k. none_there _ (or_parts _ _ (not-true _ k)).1) (unserved rows now m (targets ws w.jobs)) (filter_passes (λ u. not (is_served (core_of m rows now) u)) (targets ws w.jobs))))
    (subst (λ p. AllByRecursion (λ (u : Triple). u.op < length p.ops) (triples_of ns)) (sym program) (subst (AllByRecursion (λ (u : Triple). u.op < length w.program.ops)) (sym e) (all_filter (λ (u : Triple). u.op < length w.program.ops) _ ws d)))
    (subst (λ p. AllByRecursion (HasHint p.ops) ns) (sym program) h)
    (omega arith)

-- the next number after some jobs were created
pub created_next : (now : ℕ) (ts : List Triple) (w : Work) → (created_all now ts w).next ≡ w.next + length ts
created_next now [] w = omega arith
created_next now (t ∷ ts) w = let h = created_next now ts (created_work now t w) in omega arith
