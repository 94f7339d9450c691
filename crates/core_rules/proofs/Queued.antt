-- The numbers of queued jobs, where jobs go and change.
use Rattle.std.proofs.Common.{◌≡◌, ℕ, ◌<◌, Bool, true, false, cond, not, List, [], ◌∷◌, map, Some, is_some, refl, ap, sym, ◌∙◌, subst, arith}
use Rattle.std.proofs.lemmas.Bool.{cond_both, eqb-true, ne_eqb, or_from}
use Rattle.std.specs.Prelude.{◌==◌, filter, if◌then◌else◌}
use Rattle.std.specs.List.{AllByRecursion}
use Rattle.core_rules.proofs.Moves.{SameWork}
use Rattle.core_rules.specs.Core.{has_job, is_queued, job_numbered, with_job, without_job}
use Rattle.core_rules.specs.Laws.{JobsAbove, Rising}
use Rattle.core_rules.specs.declared.jobs.Job.{Job}
use Rattle.fair_pool.specs.declared.ticket.Ticket.{Ticket}

-- the numbers of the queued jobs
abbrev pub queued : List Job → List ℕ
queued js = map (λ j. j.number) (filter is_queued js)

-- the numbers of the tickets' jobs
abbrev pub numbers : List Ticket → List ℕ
numbers ks = map (λ k. k.job) ks

-- ---- numbers that pass a test

pub numbers-filter : (h : ℕ → Bool) (ks : List Ticket) → numbers (filter (λ k. h k.job) ks) ≡ filter h (numbers ks)
numbers-filter h [] = refl
numbers-filter h (k ∷ ks) = elim (h k.job) as (λ b. numbers (cond b (k ∷ filter (λ k. h k.job) ks) (filter (λ k. h k.job) ks)) ≡ cond b (k.job ∷ filter h (numbers ks)) (filter h (numbers ks))) [
  | true ↦ ap (λ ns. k.job ∷ ns) (numbers-filter h ks)
  | false ↦ numbers-filter h ks
]

pub queued_cons : (j : Job) (js : List Job) → queued (j ∷ js) ≡ cond (is_queued j) (j.number ∷ queued js) (queued js)
queued_cons j js = elim (is_queued j) as (λ b. map (λ j. j.number) (cond b (j ∷ filter is_queued js) (filter is_queued js)) ≡ cond b (j.number ∷ queued js) (queued js)) [ true ↦ refl | false ↦ refl ]

pub queued_cond : (c : Bool) (j : Job) (js : List Job) → queued (cond c (j ∷ js) js) ≡ cond c (cond (is_queued j) (j.number ∷ queued js) (queued js)) (queued js)
queued_cond true j js = queued_cons j js
queued_cond false j js = refl

pub stay_step : (b c : Bool) (h : ℕ → Bool) (n : ℕ) (xs ys : List ℕ) → h n ≡ c → xs ≡ filter h ys → cond c (cond b (n ∷ xs) xs) xs ≡ filter h (cond b (n ∷ ys) ys)
stay_step true true h n xs ys e k = ap (λ x. n ∷ x) k ∙ sym (ap (λ b. cond b (n ∷ filter h ys) (filter h ys)) e)
stay_step true false h n xs ys e k = k ∙ sym (ap (λ b. cond b (n ∷ filter h ys) (filter h ys)) e)
stay_step false true h n xs ys e k = k
stay_step false false h n xs ys e k = k

-- the queued jobs of those that stay are the queued ones that stay
pub queued_stay : (h : ℕ → Bool) (q : Job → Bool) (js : List Job) → AllByRecursion (λ j. h j.number ≡ q j) js → queued (filter q js) ≡ filter h (queued js)
queued_stay h q [] a = refl
queued_stay h q (j ∷ js) a = queued_cond (q j) j (filter q js)
    ∙ stay_step (is_queued j) (q j) h j.number (queued (filter q js)) (queued js) a.0 (queued_stay h q js a.1)
    ∙ ap (filter h) (sym (queued_cons j js))

-- ---- numbers above a number

pub not_same : (m n : ℕ) → m < n → (n == m) ≡ false
not_same m n l = ne_eqb n m (λ e. absurd (omega arith))

pub not_same_back : (m n : ℕ) → m < n → (m == n) ≡ false
not_same_back m n l = ne_eqb m n (λ e. absurd (omega arith))

pub has_none : (n : ℕ) (js : List Job) → JobsAbove n js → has_job js n ≡ false
has_none n [] a = refl
has_none n (j ∷ js) a = or_from (j.number == n) (has_job js n) (not_same n j.number a.0) (has_none n js a.1)

abbrev pub is_not : ℕ → ℕ → Bool
is_not m n = not (n == m)

pub kept_if : (m n : ℕ) (ns : List ℕ) → (n == m) ≡ false → filter (is_not m) (n ∷ ns) ≡ n ∷ filter (is_not m) ns
kept_if m n ns e = ap (λ b. cond (not b) (n ∷ filter (is_not m) ns) (filter (is_not m) ns)) e

pub gone_if : (m n : ℕ) (ns : List ℕ) → (n == m) ≡ true → filter (is_not m) (n ∷ ns) ≡ filter (is_not m) ns
gone_if m n ns e = ap (λ b. cond (not b) (n ∷ filter (is_not m) ns) (filter (is_not m) ns)) e

pub above_kept : (m : ℕ) (js : List Job) → JobsAbove m js → filter (is_not m) (queued js) ≡ queued js
above_kept m [] a = refl
above_kept m (j ∷ js) a = ap (filter (is_not m)) (queued_cons j js)
    ∙ cond_both (is_queued j) (j.number ∷ queued js) (queued js) (λ x. filter (is_not m) x ≡ x)
    (λ _. kept_if m j.number (queued js) (not_same m j.number a.0) ∙ ap (λ x. j.number ∷ x) (above_kept m js a.1)) (λ _. above_kept m js a.1)
    ∙ sym (queued_cons j js)

-- ---- jobs that go

pub same_tests : (h : ℕ → Bool) (js : List Job) → AllByRecursion (λ j. h j.number ≡ h j.number) js
same_tests h [] = tt
same_tests h (j ∷ js) = (refl, same_tests h js)

pub queued_without : (m : ℕ) (js : List Job) → queued (without_job m js) ≡ filter (is_not m) (queued js)
queued_without m js = queued_stay (is_not m) (λ j. is_not m j.number) js (same_tests (is_not m) js)

-- a job that isn't queued has no place among them
pub not_queued : (m : ℕ) (js : List Job) (j : Job) → Rising js → job_numbered js m ≡ Some j → is_some j.worker ≡ true → filter (is_not m) (queued js) ≡ queued js
not_queued m [] j r f w = refl
not_queued m (i ∷ js) j r f w = elim (i.number == m) as (λ b. (i.number == m) ≡ b → cond b (Some i) (job_numbered js m) ≡ Some j → filter (is_not m) (queued (i ∷ js)) ≡ queued (i ∷ js)) [
  | true ↦ λ e k.
      let same : i ≡ j = cc in
      let runs : is_queued i ≡ false = ap not (ap (λ x. is_some x.worker) same ∙ w) in
      let none : queued (i ∷ js) ≡ queued js = queued_cons i js ∙ ap (λ b. cond b (i.number ∷ queued js) (queued js)) runs in
      ap (filter (is_not m)) none ∙ above_kept m js (subst (λ x. JobsAbove x js) (eqb-true i.number m e) r.0) ∙ sym none
  | false ↦ λ e k. ap (filter (is_not m)) (queued_cons i js)
      ∙ cond_both (is_queued i) (i.number ∷ queued js) (queued js) (λ x. filter (is_not m) x ≡ x)
      (λ _. kept_if m i.number (queued js) e ∙ ap (λ x. i.number ∷ x) (not_queued m js j r.1 k w)) (λ _. not_queued m js j r.1 k w)
      ∙ sym (queued_cons i js)
] refl f

-- ---- jobs that change

pub queued_with : (n : ℕ) (f : Job → Job) (js : List Job) → SameWork f → queued (with_job n f js) ≡ queued js
queued_with n f [] k = refl
queued_with n f (j ∷ js) k = cond_both (j.number == n) (f j ∷ js) (j ∷ with_job n f js) (λ ks. queued ks ≡ queued (j ∷ js))
    (λ _. queued_cons (f j) js ∙ (λ i. cond (not (is_some (k.worker j i))) (k.number j i ∷ queued js) (queued js)) ∙ sym (queued_cons j js))
    (λ _. queued_cons j (with_job n f js) ∙ ap (λ x. cond (is_queued j) (j.number ∷ x) x) (queued_with n f js k) ∙ sym (queued_cons j js))

pub queued_taken : (m w : ℕ) (js : List Job) → Rising js → queued (with_job m (λ k. record k { worker = Some w }) js) ≡ filter (is_not m) (queued js)
queued_taken m w [] r = refl
queued_taken m w (j ∷ js) r = elim (j.number == m) as (λ b. (j.number == m) ≡ b → queued (if b then record j { worker = Some w } ∷ js else (j ∷ with_job m (λ k. record k { worker = Some w }) js)) ≡ filter (is_not m) (queued (j ∷ js))) [
  | true ↦ λ e. queued_cons (record j { worker = Some w }) js
      ∙ sym (above_kept m js (subst (λ x. JobsAbove x js) (eqb-true j.number m e) r.0))
      ∙ cond_both (is_queued j) (j.number ∷ queued js) (queued js) (λ x. filter (is_not m) (queued js) ≡ filter (is_not m) x) (λ _. sym (gone_if m j.number (queued js) e)) (λ _. refl)
      ∙ ap (filter (is_not m)) (sym (queued_cons j js))
  | false ↦ λ e. queued_cons j (with_job m (λ k. record k { worker = Some w }) js)
      ∙ ap (λ x. cond (is_queued j) (j.number ∷ x) x) (queued_taken m w js r.1)
      ∙ elim (is_queued j) as (λ b. cond b (j.number ∷ filter (is_not m) (queued js)) (filter (is_not m) (queued js)) ≡ filter (is_not m) (cond b (j.number ∷ queued js) (queued js))) [ true ↦ sym (kept_if m j.number (queued js) e) | false ↦ refl ]
      ∙ ap (filter (is_not m)) (sym (queued_cons j js))
] refl
