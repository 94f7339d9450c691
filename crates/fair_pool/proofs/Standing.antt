-- Tickets in order of jobs, their flags, and the queues of the ready ones.
use Rattle.std.proofs.Common.{◌≡◌, ℕ, zero, suc, ◌+◌, ◌<◌, ◌≤◌, Bool, true, false, cond, not, ◌&&◌, List, [], ◌∷◌, map, length, get_or, set, Some, is_some, refl, sym, ap, ◌∙◌, subst, arith}
use Rattle.std.proofs.lemmas.Bool.{cond_both, false≢true, true≢false, eqb-true, eq-eqb, eqb-false}
use Rattle.std.proofs.lemmas.Bool.Decides.{nat_tests}
use Rattle.std.proofs.lemmas.List.{length-map}
use Rattle.std.proofs.lemmas.List.Edits.{length-insert}
use Rattle.std.specs.Prelude.{insert, remove, nat_lt, ◌==◌}
use Rattle.std.specs.List.{AllByRecursion}
use Rattle.fair_pool.specs.Fair.{comes_before, job_before, ticket_of, has_ticket, with_ticket, without_ticket}
use Rattle.fair_pool.specs.Flags.{with_flag, flagged, without_flag}
use Rattle.fair_pool.specs.Kept.{rank_of, rank_before, standing, queue_of, QueueState, with_queue, AreQueuesOf}
use Rattle.fair_pool.specs.Order.{leading, placed, displaced, in_order, Rises}
use Rattle.fair_pool.proofs.Before.{comes_before_order, rank_before_order, job_before_order, comes_before_other}
use Rattle.fair_pool.proofs.Ordered.{all_since, placed-placed, length_in_order, displaced-placed, leading-placed, map-placed, Rises-placed}
use Rattle.fair_pool.specs.declared.ticket.Rank.{Rank}
use Rattle.fair_pool.specs.declared.ticket.Ticket.{Ticket}

-- ---- jobs and their tickets

abbrev smaller : ℕ → Ticket → Bool
smaller job k = nat_lt k.job job

-- a job that is found among tickets of greater jobs is greater too
above_found : (n job : ℕ) (ks : List Ticket) → AllByRecursion (λ (k : Ticket). nat_lt n k.job ≡ true) ks → has_ticket job ks ≡ true → nat_lt n job ≡ true
above_found n job [] a = λ h. absurd (false≢true h)
above_found n job (k ∷ ks) a = elim (k.job == job) as (λ b. (k.job == job) ≡ b → is_some (cond b (Some k) (ticket_of job ks)) ≡ true → nat_lt n job ≡ true) [
  | true ↦ λ e h. subst (λ m. nat_lt n m ≡ true) (eqb-true k.job job e) a.0
  | false ↦ λ e h. above_found n job ks a.1 h
] refl

-- of tickets of greater jobs none is of the job
pub others : (k : Ticket) (ks : List Ticket) → AllByRecursion (λ l. job_before k l ≡ true) ks → AllByRecursion (λ (l : Ticket). (l.job == k.job) ≡ false) ks
others k = all_since (λ l. job_before k l ≡ true) (λ l. (l.job == k.job) ≡ false) (λ l e. grind (arith, nat_tests))

-- where the ticket of a job stands
pub record FoundAt (job : ℕ) (ks : List Ticket) (d : Ticket) : Type 0 where
  pub within : leading (smaller job) ks < length ks
  pub found : ticket_of job ks ≡ Some (get_or ks (leading (smaller job) ks) d)
  pub same : (get_or ks (leading (smaller job) ks) d).job ≡ job

not_less : (a b : ℕ) → (a == b) ≡ true → nat_lt a b ≡ false
not_less a b e = grind (arith, nat_tests)

other_less : (a b : ℕ) → (a == b) ≡ false → nat_lt a b ≡ false → nat_lt b a ≡ true
other_less a b e f = grind (arith, nat_tests)

pub found_at : (job : ℕ) (ks : List Ticket) (d : Ticket) → Rises job_before ks → has_ticket job ks ≡ true → FoundAt job ks d
found_at job [] d r = λ h. absurd (false≢true h)
found_at job (k ∷ ks) d r = elim (k.job == job) as (λ b. (k.job == job) ≡ b → is_some (cond b (Some k) (ticket_of job ks)) ≡ true → FoundAt job (k ∷ ks) d) [
  | true ↦ λ e h.
      let z : leading (smaller job) (k ∷ ks) ≡ zero = ap (λ b. cond b (suc (leading (smaller job) ks)) zero) (not_less k.job job e) in
      record {
        within = subst (λ n. n < suc (length ks)) (sym z) (omega arith);
        found = ap (λ b. cond b (Some k) (ticket_of job ks)) e ∙ ap (λ n. Some (get_or (k ∷ ks) n d)) (sym z);
        same = ap (λ n. (get_or (k ∷ ks) n d).job) z ∙ eqb-true k.job job e;
      }
  | false ↦ λ e h.
      let f = found_at job ks d r.1 h in
      let z : leading (smaller job) (k ∷ ks) ≡ suc (leading (smaller job) ks) = ap (λ b. cond b (suc (leading (smaller job) ks)) zero) (above_found k.job job ks r.0 h) in
      record {
        within = subst (λ n. n < suc (length ks)) (sym z) (let w = f.within in omega arith);
        found = ap (λ b. cond b (Some k) (ticket_of job ks)) e ∙ f.found ∙ ap (λ n. Some (get_or (k ∷ ks) n d)) (sym z);
        same = ap (λ n. (get_or (k ∷ ks) n d).job) z ∙ f.same;
      }
] refl

-- a job of which a ticket stands somewhere is found
pub has_at : (job : ℕ) (ks : List Ticket) (i : ℕ) (d : Ticket) → i < length ks → (get_or ks i d).job ≡ job → has_ticket job ks ≡ true
has_at job [] i d l e = absurd (omega arith)
has_at job (k ∷ ks) zero d l e = ap (λ b. is_some (cond b (Some k) (ticket_of job ks))) (eq-eqb k.job job e)
has_at job (k ∷ ks) (suc i) d l e = cond_both (k.job == job) (Some k) (ticket_of job ks) (λ o. is_some o ≡ true) (λ _. refl) (λ _. has_at job ks i d (omega arith) e)

none_stays : (job : ℕ) (ks : List Ticket) → AllByRecursion (λ (l : Ticket). (l.job == job) ≡ false) ks → without_ticket job ks ≡ ks
none_stays job [] a = refl
none_stays job (k ∷ ks) a = ap (λ b. cond (not b) (k ∷ without_ticket job ks) (without_ticket job ks)) a.0 ∙ ap (λ ls. k ∷ ls) (none_stays job ks a.1)

no_flag_stays : (job : ℕ) (ks : List Ticket) (rs : List Bool) → AllByRecursion (λ (l : Ticket). (l.job == job) ≡ false) ks → without_flag job ks rs ≡ rs
no_flag_stays job [] rs a = refl
no_flag_stays job (k ∷ ks) [] a = refl
no_flag_stays job (k ∷ ks) (r ∷ rs) a = ap (λ b. cond b (without_flag job ks rs) (r ∷ without_flag job ks rs)) a.0 ∙ ap (λ ls. r ∷ ls) (no_flag_stays job ks rs a.1)

no_flag_set : (job : ℕ) (b : Bool) (ks : List Ticket) (rs : List Bool) → AllByRecursion (λ (l : Ticket). (l.job == job) ≡ false) ks → flagged job b ks rs ≡ rs
no_flag_set job b [] rs a = refl
no_flag_set job b (k ∷ ks) [] a = refl
no_flag_set job b (k ∷ ks) (r ∷ rs) a = ap (λ t. cond t b r ∷ flagged job b ks rs) a.0 ∙ ap (λ ls. r ∷ ls) (no_flag_set job b ks rs a.1)

abbrev others_of : (k : Ticket) (ks : List Ticket) (job : ℕ) → (k.job == job) ≡ true → AllByRecursion (λ l. job_before k l ≡ true) ks → AllByRecursion (λ (l : Ticket). (l.job == job) ≡ false) ks
others_of k ks job e a = subst (λ n. AllByRecursion (λ (l : Ticket). (l.job == n) ≡ false) ks) (eqb-true k.job job e) (others k ks a)

pub without_ticket_at : (job : ℕ) (ks : List Ticket) → Rises job_before ks → has_ticket job ks ≡ true → without_ticket job ks ≡ remove ks (leading (smaller job) ks)
without_ticket_at job [] r = λ h. refl
without_ticket_at job (k ∷ ks) r = elim (k.job == job) as (λ b. (k.job == job) ≡ b → is_some (cond b (Some k) (ticket_of job ks)) ≡ true → cond (not b) (k ∷ without_ticket job ks) (without_ticket job ks) ≡ remove (k ∷ ks) (leading (smaller job) (k ∷ ks))) [
  | true ↦ λ e h. none_stays job ks (others_of k ks job e r.0) ∙ ap (λ b. remove (k ∷ ks) (cond b (suc (leading (smaller job) ks)) zero)) (sym (not_less k.job job e))
  | false ↦ λ e h. ap (λ ls. k ∷ ls) (without_ticket_at job ks r.1 h) ∙ ap (λ b. remove (k ∷ ks) (cond b (suc (leading (smaller job) ks)) zero)) (sym (above_found k.job job ks r.0 h))
] refl

pub without_flag_at : (job : ℕ) (ks : List Ticket) (rs : List Bool) → length rs ≡ length ks → Rises job_before ks → has_ticket job ks ≡ true → without_flag job ks rs ≡ remove rs (leading (smaller job) ks)
without_flag_at job [] rs n r = λ h. absurd (false≢true h)
without_flag_at job (k ∷ ks) [] n r = λ h. absurd (omega arith)
without_flag_at job (k ∷ ks) (b ∷ rs) n r = elim (k.job == job) as (λ t. (k.job == job) ≡ t → is_some (cond t (Some k) (ticket_of job ks)) ≡ true → cond t (without_flag job ks rs) (b ∷ without_flag job ks rs) ≡ remove (b ∷ rs) (leading (smaller job) (k ∷ ks))) [
  | true ↦ λ e h. no_flag_stays job ks rs (others_of k ks job e r.0) ∙ ap (λ t. remove (b ∷ rs) (cond t (suc (leading (smaller job) ks)) zero)) (sym (not_less k.job job e))
  | false ↦ λ e h. ap (λ ls. b ∷ ls) (without_flag_at job ks rs (omega arith) r.1 h) ∙ ap (λ t. remove (b ∷ rs) (cond t (suc (leading (smaller job) ks)) zero)) (sym (above_found k.job job ks r.0 h))
] refl

pub flagged_at : (job : ℕ) (b : Bool) (ks : List Ticket) (rs : List Bool) → length rs ≡ length ks → Rises job_before ks → has_ticket job ks ≡ true → flagged job b ks rs ≡ set rs (leading (smaller job) ks) b
flagged_at job b [] rs n r = λ h. absurd (false≢true h)
flagged_at job b (k ∷ ks) [] n r = λ h. absurd (omega arith)
flagged_at job b (k ∷ ks) (q ∷ rs) n r = elim (k.job == job) as (λ t. (k.job == job) ≡ t → is_some (cond t (Some k) (ticket_of job ks)) ≡ true → cond t b q ∷ flagged job b ks rs ≡ set (q ∷ rs) (leading (smaller job) (k ∷ ks)) b) [
  | true ↦ λ e h. ap (λ ls. b ∷ ls) (no_flag_set job b ks rs (others_of k ks job e r.0)) ∙ ap (λ t. set (q ∷ rs) (cond t (suc (leading (smaller job) ks)) zero) b) (sym (not_less k.job job e))
  | false ↦ λ e h. ap (λ ls. q ∷ ls) (flagged_at job b ks rs (omega arith) r.1 h) ∙ ap (λ t. set (q ∷ rs) (cond t (suc (leading (smaller job) ks)) zero) b) (sym (above_found k.job job ks r.0 h))
] refl

pub with_flag_at : (job : ℕ) (b : Bool) (ks : List Ticket) (rs : List Bool) → length rs ≡ length ks → with_flag job b ks rs ≡ insert rs (leading (smaller job) ks) b
with_flag_at job b [] rs n = refl
with_flag_at job b (k ∷ ks) [] n = absurd (omega arith)
with_flag_at job b (k ∷ ks) (q ∷ rs) n = elim (nat_lt k.job job) as (λ t. cond t (q ∷ with_flag job b ks rs) (b ∷ q ∷ rs) ≡ insert (q ∷ rs) (cond t (suc (leading (smaller job) ks)) zero) b) [
  | true ↦ ap (λ ls. q ∷ ls) (with_flag_at job b ks rs (omega arith))
  | false ↦ refl
]

-- a job without a ticket differs from each that has one
pub fresh_others : (job : ℕ) (ks : List Ticket) → has_ticket job ks ≡ false → AllByRecursion (λ (l : Ticket). (l.job == job) ≡ false) ks
fresh_others job [] = λ h. tt
fresh_others job (k ∷ ks) = elim (k.job == job) as (λ b. (k.job == job) ≡ b → is_some (cond b (Some k) (ticket_of job ks)) ≡ false → AllByRecursion (λ (l : Ticket). (l.job == job) ≡ false) (k ∷ ks)) [
  | true ↦ λ e h. absurd (true≢false h)
  | false ↦ λ e h. (e, fresh_others job ks h)
] refl

pub Rises-with_ticket : (k : Ticket) (ks : List Ticket) → has_ticket k.job ks ≡ false → Rises job_before ks → Rises job_before (with_ticket k ks)
Rises-with_ticket k ks h = Rises-placed job_before job_before_order k ks (all_since (λ l. (l.job == k.job) ≡ false) (λ l. job_before l k ≡ false → job_before k l ≡ true) (λ l e f. other_less l.job k.job e f) ks (fresh_others k.job ks h))

-- ---- queues

pub length_standing : (pool : ℕ) (ks : List Ticket) (rs : List Bool) → length (standing pool ks rs) ≤ length ks
length_standing pool [] rs = omega arith
length_standing pool (k ∷ ks) [] = omega arith
length_standing pool (k ∷ ks) (r ∷ rs) = cond_both (r && k.pool == pool) (k ∷ standing pool ks rs) (standing pool ks rs) (λ ls. length ls ≤ suc (length ks)) (λ _. let h = length_standing pool ks rs in omega arith) (λ _. let h = length_standing pool ks rs in omega arith)

pub length_queue : (pool : ℕ) (ks : List Ticket) (rs : List Bool) → length (map rank_of (queue_of pool ks rs)) ≤ length ks
length_queue pool ks rs = let a = length-map (queue_of pool ks rs) rank_of in let b = length_in_order comes_before (standing pool ks rs) in let c = length_standing pool ks rs in omega arith

-- a queue with a ticket more, where it is ready and of the pool
abbrev pub joined : ℕ → Ticket → Bool → List Ticket → List Ticket
joined pool k r q = cond (r && k.pool == pool) (placed comes_before k q) q

swap_joined : (s t : Bool) (k l : Ticket) (q : List Ticket) → (l.job == k.job) ≡ false →
    cond t (placed comes_before l (cond s (placed comes_before k q) q)) (cond s (placed comes_before k q) q) ≡ cond s (placed comes_before k (cond t (placed comes_before l q) q)) (cond t (placed comes_before l q) q)
swap_joined true true k l q n = elim (comes_before l k) as (λ b. comes_before l k ≡ b → placed comes_before l (placed comes_before k q) ≡ placed comes_before k (placed comes_before l q)) [
  | true ↦ λ e. placed-placed comes_before comes_before_order l k q e
  | false ↦ λ e. sym (placed-placed comes_before comes_before_order k l q (comes_before_other l k n e))
] refl
swap_joined true false k l q n = refl
swap_joined false true k l q n = refl
swap_joined false false k l q n = refl

in_order_joined : (t : Bool) (k : Ticket) (ls : List Ticket) → in_order comes_before (cond t (k ∷ ls) ls) ≡ cond t (placed comes_before k (in_order comes_before ls)) (in_order comes_before ls)
in_order_joined true k ls = refl
in_order_joined false k ls = refl

pub queue-insert : (pool : ℕ) (ks : List Ticket) (rs : List Bool) (at : ℕ) (k : Ticket) (r : Bool) → at ≤ length ks → length rs ≡ length ks → AllByRecursion (λ (l : Ticket). (l.job == k.job) ≡ false) ks →
    queue_of pool (insert ks at k) (insert rs at r) ≡ joined pool k r (queue_of pool ks rs)
queue-insert pool ks rs zero k r l n a = in_order_joined (r && k.pool == pool) k (standing pool ks rs)
queue-insert pool [] rs (suc i) k r l n a = absurd (omega arith)
queue-insert pool (m ∷ ks) [] (suc i) k r l n a = absurd (omega arith)
queue-insert pool (m ∷ ks) (s ∷ rs) (suc i) k r l n a =
    let t = s && m.pool == pool in
    in_order_joined t m (standing pool (insert ks i k) (insert rs i r))
    ∙ ap (λ q. cond t (placed comes_before m q) q) (queue-insert pool ks rs i k r (omega arith) (omega arith) a.1)
    ∙ swap_joined (r && k.pool == pool) t k m (queue_of pool ks rs) a.0
    ∙ ap (joined pool k r) (sym (in_order_joined t m (standing pool ks rs)))

-- ---- the queues of all pools

pub length-with_queue : (f : List Rank → List Rank) (n : ℕ) (qs : List QueueState) → length (with_queue f n qs) ≡ length qs
length-with_queue f n [] = refl
length-with_queue f zero (q ∷ qs) = refl
length-with_queue f (suc n) (q ∷ qs) = ap suc (length-with_queue f n qs)

-- a queue with its ranks changed
abbrev changed_queue : (List Rank → List Rank) → QueueState → QueueState
changed_queue f q = record q { ranks = f q.ranks }

at_same : (f : List Rank → List Rank) (n : ℕ) (qs : List QueueState) (d : QueueState) → n < length qs → get_or (with_queue f n qs) n d ≡ changed_queue f (get_or qs n d)
at_same f n [] d l = absurd (omega arith)
at_same f zero (q ∷ qs) d l = refl
at_same f (suc n) (q ∷ qs) d l = at_same f n qs d (omega arith)

at_other : (f : List Rank → List Rank) (n : ℕ) (qs : List QueueState) (pool : ℕ) (d : QueueState) → (n ≡ pool → ⊥) → get_or (with_queue f n qs) pool d ≡ get_or qs pool d
at_other f n [] pool d o = refl
at_other f zero (q ∷ qs) zero d o = absurd (o refl)
at_other f zero (q ∷ qs) (suc pool) d o = refl
at_other f (suc n) (q ∷ qs) zero d o = refl
at_other f (suc n) (q ∷ qs) (suc pool) d o = at_other f n qs pool d (λ e. o (ap suc e))

at_queue : (f : List Rank → List Rank) (n : ℕ) (qs : List QueueState) (pool : ℕ) (d : QueueState) → pool < length qs →
    get_or (with_queue f n qs) pool d ≡ cond (n == pool) (changed_queue f (get_or qs pool d)) (get_or qs pool d)
at_queue f n qs pool d l = elim (n == pool) as (λ b. (n == pool) ≡ b → get_or (with_queue f n qs) pool d ≡ cond b (changed_queue f (get_or qs pool d)) (get_or qs pool d)) [
  | true ↦ λ e. let same = eqb-true n pool e in subst (λ m. get_or (with_queue f m qs) pool d ≡ changed_queue f (get_or qs pool d)) (sym same) (at_same f pool qs d l)
  | false ↦ λ e. at_other f n qs pool d (eqb-false n pool e)
] refl

-- a queue that is written back
pub set_queue : (f : List Rank → List Rank) (n : ℕ) (qs : List QueueState) (q r : QueueState) → n < length qs → q ≡ get_or qs n q → r ≡ changed_queue f q → set qs n r ≡ with_queue f n qs
set_queue f n [] q r l e h = refl
set_queue f zero (x ∷ qs) q r l e h = ap (λ y. y ∷ qs) (h ∙ ap (changed_queue f) e)
set_queue f (suc n) (x ∷ qs) q r l e h = ap (λ ys. x ∷ ys) (set_queue f n qs q r (omega arith) e h)

pub room-with_queue : (f : List Rank → List Rank) (n : ℕ) (qs : List QueueState) (pool : ℕ) (d : QueueState) → (get_or (with_queue f n qs) pool d).room ≡ (get_or qs pool d).room
room-with_queue f n [] pool d = refl
room-with_queue f zero (q ∷ qs) zero d = refl
room-with_queue f zero (q ∷ qs) (suc pool) d = refl
room-with_queue f (suc n) (q ∷ qs) zero d = refl
room-with_queue f (suc n) (q ∷ qs) (suc pool) d = room-with_queue f n qs pool d

-- each queue has the ranks of some tickets, and that of one more where it is ready and of the pool
abbrev pub Stand : (ℕ → List Ticket) → Ticket → Bool → List QueueState → Type 0
Stand q k r qs = (pool : ℕ) (d : QueueState) → pool < length qs → (get_or qs pool d).ranks ≡ map rank_of (joined pool k r (q pool))

places_placed : (k : Ticket) (ls : List Ticket) → map rank_of (placed comes_before k ls) ≡ placed rank_before (rank_of k) (map rank_of ls)
places_placed k ls = map-placed comes_before rank_before rank_of (λ x y. refl) k ls

put_in : (b : Bool) (k : Ticket) (q : QueueState) (ls : List Ticket) → q.ranks ≡ map rank_of ls →
    (cond b (changed_queue (placed rank_before (rank_of k)) q) q).ranks ≡ map rank_of (cond b (placed comes_before k ls) ls)
put_in true k q ls e = ap (placed rank_before (rank_of k)) e ∙ sym (places_placed k ls)
put_in false k q ls e = e

pub Stand-put : (q : ℕ → List Ticket) (k : Ticket) (qs : List QueueState) → Stand q k false qs → Stand q k true (with_queue (placed rank_before (rank_of k)) k.pool qs)
Stand-put q k qs h pool d l =
    let n = length-with_queue (placed rank_before (rank_of k)) k.pool qs in
    let m : pool < length qs = omega arith in
    ap (λ (x : QueueState). x.ranks) (at_queue (placed rank_before (rank_of k)) k.pool qs pool d m) ∙ put_in (k.pool == pool) k (get_or qs pool d) (q pool) (h pool d m)

take_out : (b : Bool) (k : Ticket) (q : QueueState) (ls : List Ticket) → q.ranks ≡ map rank_of (cond b (placed comes_before k ls) ls) →
    (cond b (changed_queue (displaced rank_before (rank_of k)) q) q).ranks ≡ map rank_of ls
take_out true k q ls e = ap (displaced rank_before (rank_of k)) (e ∙ places_placed k ls) ∙ displaced-placed rank_before rank_before_order (rank_of k) (map rank_of ls)
take_out false k q ls e = e

pub Stand-cut : (q : ℕ → List Ticket) (k : Ticket) (qs : List QueueState) → Stand q k true qs → Stand q k false (with_queue (displaced rank_before (rank_of k)) k.pool qs)
Stand-cut q k qs h pool d l =
    let n = length-with_queue (displaced rank_before (rank_of k)) k.pool qs in
    let m : pool < length qs = omega arith in
    ap (λ (x : QueueState). x.ranks) (at_queue (displaced rank_before (rank_of k)) k.pool qs pool d m) ∙ take_out (k.pool == pool) k (get_or qs pool d) (q pool) (h pool d m)

-- the rank of a ready ticket is found in the queue of its pool
pub Stand-there : (q : ℕ → List Ticket) (k : Ticket) (qs : List QueueState) → Stand q k true qs → k.pool < length qs → (d : QueueState) →
    leading (λ p. rank_before p (rank_of k)) (get_or qs k.pool d).ranks < length (get_or qs k.pool d).ranks
Stand-there q k qs h l d =
    let e : (get_or qs k.pool d).ranks ≡ placed rank_before (rank_of k) (map rank_of (q k.pool)) =
    h k.pool d l ∙ ap (λ b. map rank_of (cond b (placed comes_before k (q k.pool)) (q k.pool))) (eq-eqb k.pool k.pool refl) ∙ places_placed k (q k.pool) in
    subst (λ ps. leading (λ p. rank_before p (rank_of k)) ps < length ps) (sym e) (leading-placed rank_before rank_before_order (rank_of k) (map rank_of (q k.pool)))

-- what queues are of tickets one of which stands at a rank
pub Stand-from : (ks : List Ticket) (rs : List Bool) (qs : List QueueState) (spare at : ℕ) (k : Ticket) (r : Bool) → at ≤ length ks → length rs ≡ length ks → AllByRecursion (λ (l : Ticket). (l.job == k.job) ≡ false) ks →
    AreQueuesOf (insert ks at k) (insert rs at r) spare qs → Stand (λ pool. queue_of pool ks rs) k r qs
Stand-from ks rs qs spare at k r l n a h pool d m = (h pool d m).ranks ∙ ap (map rank_of) (queue-insert pool ks rs at k r l n a)

pub Stand-to : (ks : List Ticket) (rs : List Bool) (qs : List QueueState) (spare at : ℕ) (k : Ticket) (r : Bool) → at ≤ length ks → length rs ≡ length ks → AllByRecursion (λ (l : Ticket). (l.job == k.job) ≡ false) ks →
    Stand (λ pool. queue_of pool ks rs) k r qs → ((pool : ℕ) (d : QueueState) → pool < length qs → length ks + 1 + spare ≤ (get_or qs pool d).room) → AreQueuesOf (insert ks at k) (insert rs at r) spare qs
Stand-to ks rs qs spare at k r l n a h room pool d m = record {
  ranks = h pool d m ∙ ap (map rank_of) (sym (queue-insert pool ks rs at k r l n a));
  room = let e = length-insert ks at k l in let f = room pool d m in omega arith;
}
