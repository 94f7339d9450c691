-- The job that is found in a queue is the pick, which is found by comparing all tickets.
use Rattle.std.proofs.Common.{◌≡◌, ℕ, zero, suc, ◌+◌, ◌<◌, Bool, true, false, cond, ◌&&◌, List, [], ◌∷◌, map, length, Option, Some, None, is_some, refl, sym, ap, ◌∙◌, subst, arith}
use Rattle.std.proofs.lemmas.Bool.{cond_both, eq-eqb, leb-false, or_parts}
use Rattle.std.proofs.lemmas.Bool.Decides.{nat_tests}
use Rattle.std.specs.Prelude.{filter, find, ◌==◌, if◌then◌else◌, slice_get, slice_index}
use Rattle.std.specs.List.{AllByRecursion}
use Rattle.std.specs.Option.{option_map}
use Rattle.op_keys.specs.declared.declarations.WorkerDecl.{WorkerDecl}
use Rattle.fair_pool.specs.Fair.{comes_before, job_before, ticket_of, has_ticket, least_from, least, is_standing, allows, eligible, takes_none, is_paused, is_full, next_ticket, looked_by}
use Rattle.fair_pool.specs.Flags.{flag_of}
use Rattle.fair_pool.specs.Kept.{rank_of, standing, queue_of, allows_found, allows_job, first_job, looked_for}
use Rattle.fair_pool.specs.Layouts.{capacity_of, worker_pool}
use Rattle.fair_pool.specs.Order.{placed, in_order, IsInOrder, Rises}
use Rattle.fair_pool.specs.Pools.{PoolsState, is_ready_in, pick_of, looked_of}
use Rattle.fair_pool.proofs.Before.{comes_before_order, comes_before_other}
use Rattle.fair_pool.proofs.Ordered.{all_since, all_filter, all_in_order, not_itself, chains, length_in_order, IsInOrder-in_order, Rises-placed}
use Rattle.fair_pool.proofs.Standing.{others}
use Rattle.fair_pool.specs.declared.ticket.Ticket.{Ticket}

-- ---- the least of some tickets is the first that passes of all in order

-- the first of a ticket and, if there is one, another
abbrev earlier : Ticket → Option Ticket → Ticket
earlier k (Some l) = if comes_before l k then l else k
earlier k None = k

earlier_of : (k l m : Ticket) → (s t : Bool) → comes_before l k ≡ s → comes_before m l ≡ t →
    earlier (if s then l else k) (Some m) ≡ earlier k (Some (if t then m else l))
earlier_of k l m true true p q = ap (λ b. if b then m else l) q ∙ sym (ap (λ b. if b then m else k) (chains comes_before comes_before_order m l k q p))
earlier_of k l m true false p q = ap (λ b. if b then m else l) q ∙ sym (ap (λ b. if b then l else k) p)
earlier_of k l m false true p q = refl
earlier_of k l m false false p q = ap (λ b. if b then m else k) (comes_before_order.upto k l m p q) ∙ sym (ap (λ b. if b then l else k) p)

earlier_both : (k l : Ticket) (o : Option Ticket) → earlier (if comes_before l k then l else k) o ≡ earlier k (Some (earlier l o))
earlier_both k l None = refl
earlier_both k l (Some m) = earlier_of k l m (comes_before l k) (comes_before m l) refl refl

least_rest : (k : Ticket) (ls : List Ticket) → least_from k ls ≡ earlier k (least ls)
least_rest k [] = refl
least_rest k (l ∷ ls) = least_rest (if comes_before l k then l else k) ls ∙ earlier_both k l (least ls) ∙ ap (λ m. earlier k (Some m)) (sym (least_rest l ls))

none_earlier : (p : Ticket → Bool) (k : Ticket) (ls : List Ticket) → AllByRecursion (λ l. comes_before l k ≡ false) ls → earlier k (find p ls) ≡ k
none_earlier p k [] a = refl
none_earlier p k (l ∷ ls) a = cond_both (p l) (Some l) (find p ls) (λ o. earlier k o ≡ k) (λ _. ap (λ b. if b then l else k) a.0) (λ _. none_earlier p k ls a.1)

-- what is found first, where one more ticket that passes or doesn't is put in its place
abbrev found_with : Bool → Ticket → Option Ticket → Option Ticket
found_with b k o = if b then Some (earlier k o) else o

find-placed : (p : Ticket → Bool) (k : Ticket) (ls : List Ticket) → IsInOrder comes_before ls → find p (placed comes_before k ls) ≡ found_with (p k) k (find p ls)
find-placed p k [] h = refl
find-placed p k (l ∷ ls) h = elim (comes_before l k) as (λ b. comes_before l k ≡ b → find p (cond b (l ∷ placed comes_before k ls) (k ∷ l ∷ ls)) ≡ found_with (p k) k (find p (l ∷ ls))) [
  | true ↦ λ e. elim (p l) as (λ t. cond t (Some l) (find p (placed comes_before k ls)) ≡ found_with (p k) k (cond t (Some l) (find p ls))) [
    | true ↦ elim (p k) as (λ t. Some l ≡ found_with t k (Some l)) [ true ↦ ap Some (sym (ap (λ b. if b then l else k) e)) | false ↦ refl ]
    | false ↦ find-placed p k ls h.1
  ]
  | false ↦ λ e.
      let none : earlier k (find p (l ∷ ls)) ≡ k = none_earlier p k (l ∷ ls) (e, all_since (λ m. comes_before m l ≡ false) (λ m. comes_before m k ≡ false) (λ m f. comes_before_order.upto k l m e f) ls h.0) in
      elim (p k) as (λ t. cond t (Some k) (find p (l ∷ ls)) ≡ found_with t k (find p (l ∷ ls))) [ true ↦ ap Some (sym none) | false ↦ refl ]
] refl

pub least_is_first : (p : Ticket → Bool) (ks : List Ticket) → least (filter p ks) ≡ find p (in_order comes_before ks)
least_is_first p [] = refl
least_is_first p (k ∷ ks) =
    elim (p k) as (λ b. least (cond b (k ∷ filter p ks) (filter p ks)) ≡ found_with b k (least (filter p ks))) [ true ↦ ap Some (least_rest k (filter p ks)) | false ↦ refl ]
    ∙ ap (found_with (p k) k) (least_is_first p ks)
    ∙ sym (find-placed p k (in_order comes_before ks) (IsInOrder-in_order comes_before comes_before_order ks))

-- ---- the ready tickets of a pool, by the flags of their jobs

pub filter_same : (p q : Ticket → Bool) (ks : List Ticket) → AllByRecursion (λ k. p k ≡ q k) ks → filter p ks ≡ filter q ks
filter_same p q [] a = refl
filter_same p q (k ∷ ks) a = ap (λ b. cond b (k ∷ filter p ks) (filter p ks)) a.0 ∙ ap (λ ls. cond (q k) (k ∷ ls) ls) (filter_same p q ks a.1)

filter_both : (p q : Ticket → Bool) (ks : List Ticket) → filter (λ k. p k && q k) ks ≡ filter q (filter p ks)
filter_both p q [] = refl
filter_both p q (k ∷ ks) = elim (p k) as (λ b. cond (b && q k) (k ∷ filter (λ k. p k && q k) ks) (filter (λ k. p k && q k) ks) ≡ filter q (cond b (k ∷ filter p ks) (filter p ks))) [
  | true ↦ ap (λ ls. cond (q k) (k ∷ ls) ls) (filter_both p q ks)
  | false ↦ filter_both p q ks
]

none_standing : (pool : ℕ) (k : Ticket) (ks ls : List Ticket) → filter (is_standing (λ n. flag_of n (k ∷ ks) []) pool) ls ≡ []
none_standing pool k ks [] = refl
none_standing pool k ks (l ∷ ls) = none_standing pool k ks ls

-- numbers that differ either way
differ : (a b : ℕ) → (a == b) ≡ false → (b == a) ≡ false
differ a b e = grind (arith, nat_tests)

pub standing_is : (pool : ℕ) (ks : List Ticket) (rs : List Bool) → Rises job_before ks → filter (is_standing (λ n. flag_of n ks rs) pool) ks ≡ standing pool ks rs
standing_is pool [] rs h = refl
standing_is pool (k ∷ ks) [] h = none_standing pool k ks (k ∷ ks)
standing_is pool (k ∷ ks) (r ∷ rs) h =
    let p : Ticket → Bool = is_standing (λ n. flag_of n (k ∷ ks) (r ∷ rs)) pool in
    let own : p k ≡ (r && k.pool == pool) = ap (λ b. cond b r (flag_of k.job ks rs) && k.pool == pool) (eq-eqb k.job k.job refl) in
    let rest : filter p ks ≡ standing pool ks rs =
    filter_same p (is_standing (λ n. flag_of n ks rs) pool) ks
    (all_since (λ (l : Ticket). (l.job == k.job) ≡ false) (λ (l : Ticket). p l ≡ is_standing (λ n. flag_of n ks rs) pool l) (λ l e. ap (λ b. cond b r (flag_of l.job ks rs) && l.pool == pool) (differ l.job k.job e)) ks (others k ks h.0))
    ∙ standing_is pool ks rs h.1 in
    ap (λ b. cond b (k ∷ filter p ks) (filter p ks)) own ∙ ap (λ ls. cond (r && k.pool == pool) (k ∷ ls) ls) rest

-- ---- each ticket is found by its job

pub found_each : (ks : List Ticket) → Rises job_before ks → AllByRecursion (λ (k : Ticket). ticket_of k.job ks ≡ Some k) ks
found_each [] h = tt
found_each (k ∷ ks) h = (ap (λ b. cond b (Some k) (ticket_of k.job ks)) (eq-eqb k.job k.job refl), by ks (others k ks h.0) (found_each ks h.1))
  where
    by : (ls : List Ticket) → AllByRecursion (λ (l : Ticket). (l.job == k.job) ≡ false) ls → AllByRecursion (λ (l : Ticket). ticket_of l.job ks ≡ Some l) ls → AllByRecursion (λ (l : Ticket). ticket_of l.job (k ∷ ks) ≡ Some l) ls
    by [] a b = tt
    by (l ∷ ls) a b = (ap (λ t. cond t (Some k) (ticket_of l.job ks)) (differ l.job k.job a.0) ∙ b.0, by ls a.1 b.1)

all_standing : (P : Ticket → Type 0) (pool : ℕ) (ks : List Ticket) (rs : List Bool) → AllByRecursion P ks → AllByRecursion P (standing pool ks rs)
all_standing P pool [] rs a = tt
all_standing P pool (k ∷ ks) [] a = tt
all_standing P pool (k ∷ ks) (r ∷ rs) a = cond_both (r && k.pool == pool) (k ∷ standing pool ks rs) (standing pool ks rs) (AllByRecursion P) (λ _. (a.0, all_standing P pool ks rs a.1)) (λ _. all_standing P pool ks rs a.1)

Rises-standing : (pool : ℕ) (ks : List Ticket) (rs : List Bool) → Rises job_before ks → Rises job_before (standing pool ks rs)
Rises-standing pool [] rs h = tt
Rises-standing pool (k ∷ ks) [] h = tt
Rises-standing pool (k ∷ ks) (r ∷ rs) h = cond_both (r && k.pool == pool) (k ∷ standing pool ks rs) (standing pool ks rs) (Rises job_before)
    (λ _. (all_standing (λ l. job_before k l ≡ true) pool ks rs h.0, Rises-standing pool ks rs h.1)) (λ _. Rises-standing pool ks rs h.1)

-- ---- the search of a queue

abbrev allowed : PoolsState → ℕ → ℕ → Ticket → Bool
allowed p now w = allows p.layout p.fair (slice_index p.loads) now w

first_found : (p : PoolsState) (now w : ℕ) (qs : List Ticket) → AllByRecursion (λ (k : Ticket). ticket_of k.job p.fair.tickets ≡ Some k) qs →
    first_job (allows_job p now w) (map rank_of qs) ≡ option_map (λ (k : Ticket). k.job) (find (allowed p now w) qs)
first_found p now w [] a = refl
first_found p now w (q ∷ qs) a =
    ap (λ o. if allows_found p now w o then Some q.job else first_job (allows_job p now w) (map rank_of qs)) a.0
    ∙ elim (allowed p now w q) as (λ b. (if b then Some q.job else first_job (allows_job p now w) (map rank_of qs)) ≡ option_map (λ (k : Ticket). k.job) (cond b (Some q) (find (allowed p now w) qs))) [
      | true ↦ refl
      | false ↦ first_found p now w qs a.1
    ]

-- ---- how many are looked at

found_all : (P : Ticket → Type 0) (test : Ticket → Bool) (qs : List Ticket) (k : Ticket) → AllByRecursion P qs → find test qs ≡ Some k → P k
found_all P test [] k a = λ e. let z : ⊥ = cc in absurd z
found_all P test (q ∷ qs) k a = elim (test q) as (λ b. cond b (Some q) (find test qs) ≡ Some k → P k) [
  | true ↦ λ e. let same : q ≡ k = cc in subst P same a.0
  | false ↦ λ e. found_all P test qs k a.1 e
]

none_before : (k : Ticket) (qs : List Ticket) → AllByRecursion (λ q. comes_before q k ≡ false) qs → filter (λ q. comes_before q k) qs ≡ []
none_before k [] a = refl
none_before k (q ∷ qs) a = ap (λ b. cond b (q ∷ filter (λ q. comes_before q k) qs) (filter (λ q. comes_before q k) qs)) a.0 ∙ none_before k qs a.1

looked_more : (p : PoolsState) (now w : ℕ) (q : Ticket) (qs : List Ticket) (o : Option Ticket) → AllByRecursion (λ l. comes_before q l ≡ true) qs → find (allowed p now w) qs ≡ o → 1 + looked_by qs o ≡ looked_by (q ∷ qs) o
looked_more p now w q qs None a e = omega arith
looked_more p now w q qs (Some k) a e =
    let before : comes_before q k ≡ true = found_all (λ l. comes_before q l ≡ true) (allowed p now w) qs k a e in
    let n = ap (λ b. length (cond b (q ∷ filter (λ l. comes_before l k) qs) (filter (λ l. comes_before l k) qs))) before in
    omega arith

looked_found : (p : PoolsState) (now w : ℕ) (qs : List Ticket) → AllByRecursion (λ (k : Ticket). ticket_of k.job p.fair.tickets ≡ Some k) qs → Rises comes_before qs →
    looked_for (allows_job p now w) (map rank_of qs) ≡ looked_by qs (find (allowed p now w) qs)
looked_found p now w [] a r = refl
looked_found p now w (q ∷ qs) a r =
    ap (λ o. if allows_found p now w o then 1 else 1 + looked_for (allows_job p now w) (map rank_of qs)) a.0
    ∙ elim (allowed p now w q) as (λ b. (if b then 1 else 1 + looked_for (allows_job p now w) (map rank_of qs)) ≡ looked_by (q ∷ qs) (cond b (Some q) (find (allowed p now w) qs))) [
      | true ↦ sym (ap (λ ls. length ls + 1) (none_before q (q ∷ qs) (not_itself comes_before comes_before_order q, all_since (λ l. comes_before q l ≡ true) (λ l. comes_before l q ≡ false) (λ l e. comes_before_order.asym q l e) qs r.0)))
      | false ↦ ap (λ n. 1 + n) (looked_found p now w qs a.1 r.1) ∙ looked_more p now w q qs (find (allowed p now w) qs) r.0 refl
    ]

Rises-in_order : (ks : List Ticket) → Rises job_before ks → Rises comes_before (in_order comes_before ks)
Rises-in_order [] h = tt
Rises-in_order (k ∷ ks) h = Rises-placed comes_before comes_before_order k (in_order comes_before ks)
    (all_in_order comes_before (λ l. comes_before l k ≡ false → comes_before k l ≡ true) ks
    (all_since (λ (l : Ticket). (l.job == k.job) ≡ false) (λ l. comes_before l k ≡ false → comes_before k l ≡ true) (λ l e f. comes_before_other l k e f) ks (others k ks h.0)))
    (Rises-in_order ks h.1)

length_filter_placed : (test : Ticket → Bool) (k : Ticket) (ls : List Ticket) → length (filter test (placed comes_before k ls)) ≡ length (filter test (k ∷ ls))
length_filter_placed test k [] = refl
length_filter_placed test k (l ∷ ls) = elim (comes_before l k) as (λ b. length (filter test (cond b (l ∷ placed comes_before k ls) (k ∷ l ∷ ls))) ≡ length (filter test (k ∷ l ∷ ls))) [
  | true ↦ let h = length_filter_placed test k ls in by (test l) (test k) h
  | false ↦ refl
]
  where
    by : (s t : Bool) → length (filter test (placed comes_before k ls)) ≡ length (cond t (k ∷ filter test ls) (filter test ls)) →
        length (cond s (l ∷ filter test (placed comes_before k ls)) (filter test (placed comes_before k ls))) ≡ length (cond t (k ∷ cond s (l ∷ filter test ls) (filter test ls)) (cond s (l ∷ filter test ls) (filter test ls)))
    by true true h = ap suc h
    by true false h = ap suc h
    by false true h = h
    by false false h = h

length_filter : (test : Ticket → Bool) (ks : List Ticket) → length (filter test (in_order comes_before ks)) ≡ length (filter test ks)
length_filter test [] = refl
length_filter test (k ∷ ks) = length_filter_placed test k (in_order comes_before ks)
    ∙ elim (test k) as (λ b. length (cond b (k ∷ filter test (in_order comes_before ks)) (filter test (in_order comes_before ks))) ≡ length (cond b (k ∷ filter test ks) (filter test ks))) [ true ↦ ap suc (length_filter test ks) | false ↦ length_filter test ks ]

looked_in_order : (ks : List Ticket) (o : Option Ticket) → looked_by (in_order comes_before ks) o ≡ looked_by ks o
looked_in_order ks None = length_in_order comes_before ks
looked_in_order ks (Some k) = ap (λ n. n + 1) (length_filter (λ l. comes_before l k) ks)

-- ---- the pick

pub next_is : (p : PoolsState) (now w : ℕ) → Rises job_before p.fair.tickets →
    next_ticket p.layout p.fair (is_ready_in p) (slice_index p.loads) now w ≡ find (allowed p now w) (queue_of (worker_pool p.layout (slice_get p.layout.workers w)) p.fair.tickets p.ready)
next_is p now w h =
    let pool = worker_pool p.layout (slice_get p.layout.workers w) in
    ap least (filter_both (is_standing (is_ready_in p) pool) (allowed p now w) p.fair.tickets ∙ ap (filter (allowed p now w)) (standing_is pool p.fair.tickets p.ready h))
    ∙ least_is_first (allowed p now w) (standing pool p.fair.tickets p.ready)

abbrev told_queue : (p : PoolsState) (w : ℕ) → Rises job_before p.fair.tickets → AllByRecursion (λ (k : Ticket). ticket_of k.job p.fair.tickets ≡ Some k) (queue_of (worker_pool p.layout (slice_get p.layout.workers w)) p.fair.tickets p.ready)
told_queue p w h =
    let pool = worker_pool p.layout (slice_get p.layout.workers w) in
    all_in_order comes_before (λ (k : Ticket). ticket_of k.job p.fair.tickets ≡ Some k) (standing pool p.fair.tickets p.ready) (all_standing (λ (k : Ticket). ticket_of k.job p.fair.tickets ≡ Some k) pool p.fair.tickets p.ready (found_each p.fair.tickets h))

pub first_is_pick : (p : PoolsState) (now w : ℕ) → Rises job_before p.fair.tickets → takes_none p.layout p.fair (slice_index p.loads) w ≡ false →
    first_job (allows_job p now w) (map rank_of (queue_of (worker_pool p.layout (slice_get p.layout.workers w)) p.fair.tickets p.ready)) ≡ pick_of p now w
first_is_pick p now w h e =
    let pool = worker_pool p.layout (slice_get p.layout.workers w) in
    first_found p now w (queue_of pool p.fair.tickets p.ready) (told_queue p w h)
    ∙ ap (option_map (λ (k : Ticket). k.job)) (sym (next_is p now w h))
    ∙ sym (ap (λ b. if b then None else option_map (λ (k : Ticket). k.job) (next_ticket p.layout p.fair (is_ready_in p) (slice_index p.loads) now w)) e)

pub none_is_pick : (p : PoolsState) (now w : ℕ) → takes_none p.layout p.fair (slice_index p.loads) w ≡ true → None ≡ pick_of p now w
none_is_pick p now w e = sym (ap (λ b. if b then None else option_map (λ (k : Ticket). k.job) (next_ticket p.layout p.fair (is_ready_in p) (slice_index p.loads) now w)) e)

pub none_is_looked : (p : PoolsState) (now w : ℕ) → takes_none p.layout p.fair (slice_index p.loads) w ≡ true → looked_of p now w ≡ 0
none_is_looked p now w e =
    let pool = worker_pool p.layout (slice_get p.layout.workers w) in
    ap (λ b. if b then 0 else looked_by (filter (is_standing (is_ready_in p) pool) p.fair.tickets) (next_ticket p.layout p.fair (is_ready_in p) (slice_index p.loads) now w)) e

pub looked_is : (p : PoolsState) (now w : ℕ) → Rises job_before p.fair.tickets → takes_none p.layout p.fair (slice_index p.loads) w ≡ false →
    looked_for (allows_job p now w) (map rank_of (queue_of (worker_pool p.layout (slice_get p.layout.workers w)) p.fair.tickets p.ready)) ≡ looked_of p now w
looked_is p now w h e =
    let pool = worker_pool p.layout (slice_get p.layout.workers w) in
    let ks = p.fair.tickets in
    looked_found p now w (queue_of pool ks p.ready) (told_queue p w h) (Rises-in_order (standing pool ks p.ready) (Rises-standing pool ks p.ready h))
    ∙ looked_in_order (standing pool ks p.ready) (find (allowed p now w) (queue_of pool ks p.ready))
    ∙ ap (looked_by (standing pool ks p.ready)) (sym (next_is p now w h))
    ∙ ap (λ ls. looked_by ls (next_ticket p.layout p.fair (is_ready_in p) (slice_index p.loads) now w)) (sym (standing_is pool ks p.ready h))
    ∙ sym (ap (λ b. if b then 0 else looked_by (filter (is_standing (is_ready_in p) pool) ks) (next_ticket p.layout p.fair (is_ready_in p) (slice_index p.loads) now w)) e)

-- ---- what follows from a pick

pub has_each : (ks : List Ticket) → AllByRecursion (λ (k : Ticket). has_ticket k.job ks ≡ true) ks
has_each [] = tt
has_each (k ∷ ks) = (
  ap (λ b. is_some (cond b (Some k) (ticket_of k.job ks))) (eq-eqb k.job k.job refl),
  all_since (λ (l : Ticket). has_ticket l.job ks ≡ true) (λ (l : Ticket). has_ticket l.job (k ∷ ks) ≡ true) (λ l e. cond_both (k.job == l.job) (Some k) (ticket_of l.job ks) (λ o. is_some o ≡ true) (λ _. refl) (λ _. e)) ks (has_each ks),
)

least_from_all : (P : Ticket → Type 0) (k : Ticket) (ls : List Ticket) → P k → AllByRecursion P ls → P (least_from k ls)
least_from_all P k [] h a = h
least_from_all P k (l ∷ ls) h a = least_from_all P (if comes_before l k then l else k) ls (cond_both (comes_before l k) l k P (λ _. a.0) (λ _. h)) a.1

least_all : (P : ℕ → Type 0) (ks : List Ticket) (job : ℕ) → AllByRecursion (λ (k : Ticket). P k.job) ks → option_map (λ (k : Ticket). k.job) (least ks) ≡ Some job → P job
least_all P [] job a e = let z : ⊥ = cc in absurd z
least_all P (k ∷ ks) job a e = let same : (least_from k ks).job ≡ job = cc in subst P same (least_from_all (λ (k : Ticket). P k.job) k ks a.0 a.1)

-- a worker for which something is picked is neither paused nor full
pub pick_takes : (p : PoolsState) (now w job : ℕ) → pick_of p now w ≡ Some job → takes_none p.layout p.fair (slice_index p.loads) w ≡ false
pick_takes p now w job e = elim (takes_none p.layout p.fair (slice_index p.loads) w) as (λ b. takes_none p.layout p.fair (slice_index p.loads) w ≡ b → b ≡ false) [
  | true ↦ λ h. let z : None ≡ Some job = none_is_pick p now w h ∙ e in let y : ⊥ = cc in absurd y
  | false ↦ λ h. refl
] refl

-- a picked job has a ticket
pub pick_has : (p : PoolsState) (now w job : ℕ) → pick_of p now w ≡ Some job → has_ticket job p.fair.tickets ≡ true
pick_has p now w job e =
    let ks = p.fair.tickets in
    let f = eligible p.layout p.fair (is_ready_in p) (slice_index p.loads) now w in
    let g : option_map (λ (k : Ticket). k.job) (least (filter f ks)) ≡ Some job = sym (ap (λ b. if b then None else option_map (λ (k : Ticket). k.job) (least (filter f ks))) (pick_takes p now w job e)) ∙ e in
    least_all (λ n. has_ticket n ks ≡ true) (filter f ks) job (all_filter (λ (k : Ticket). has_ticket k.job ks ≡ true) f ks (has_each ks)) g

capacity_within : (ws : List WorkerDecl) (w n : ℕ) → n < capacity_of (slice_get ws w) → w < length ws
capacity_within [] w n l = absurd (omega arith)
capacity_within (x ∷ ws) zero n l = omega arith
capacity_within (x ∷ ws) (suc w) n l = let h = capacity_within ws w n l in omega arith

-- it runs fewer jobs than it can
pub pick_below : (p : PoolsState) (now w job : ℕ) → pick_of p now w ≡ Some job → slice_index p.loads w < capacity_of (slice_get p.layout.workers w)
pick_below p now w job e = leb-false (capacity_of (slice_get p.layout.workers w)) (slice_index p.loads w) (or_parts (is_paused p.fair w) (is_full p.layout (slice_index p.loads) w) (pick_takes p now w job e)).1

pub pick_known : (p : PoolsState) (now w job : ℕ) → pick_of p now w ≡ Some job → w < length p.layout.workers
pick_known p now w job e = capacity_within p.layout.workers w (slice_index p.loads w) (pick_below p now w job e)
