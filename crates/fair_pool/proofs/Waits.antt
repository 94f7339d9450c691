-- What each change of a ticket leaves of the tickets, flags and queues.
use Rattle.std.proofs.Common.{◌≡◌, ℕ, zero, suc, ◌+◌, ◌-◌, ◌<◌, ◌≤◌, Bool, true, false, cond, not, List, [], ◌∷◌, ◌++◌, length, get_or, set, Some, None, is_some, refl, sym, ap, ◌∙◌, subst, arith}
use mathlib.Core.Bool.{beq}
use Rattle.std.proofs.lemmas.Bool.{false≢true, true≢false}
use Rattle.std.proofs.lemmas.List.{length-set}
use Rattle.std.proofs.lemmas.List.Edits.{length-remove, length-insert}
use Rattle.std.specs.Prelude.{insert, remove, nat_lt, ◌==◌, if◌then◌else◌}
use Rattle.std.specs.List.{AllByRecursion}
use Rattle.fair_pool.specs.Fair.{job_before, ticket_of, has_ticket, without_ticket}
use Rattle.fair_pool.specs.Kept.{rank_of, rank_before, queue_of, QueueState, with_queue, AreQueuesOf, HaveNoRanks, IsWaitingKept}
use Rattle.fair_pool.specs.Order.{leading, placed, displaced, Rises}
use Rattle.fair_pool.proofs.Ordered.{leading_within, placed_insert, all_at, all_filter, all_placed, restored, insert-remove, Rises-filter}
use Rattle.fair_pool.proofs.Standing.{found_at, has_at, without_ticket_at, fresh_others, Rises-with_ticket, length_queue, length-with_queue, room-with_queue, Stand, Stand-put, Stand-cut, Stand-there, Stand-from, Stand-to}
use Rattle.fair_pool.specs.declared.ticket.Rank.{Rank}
use Rattle.fair_pool.specs.declared.ticket.Ticket.{Ticket}

-- how many tickets have a smaller job
abbrev pub index_of : ℕ → List Ticket → ℕ
index_of job ks = leading (λ k. nat_lt k.job job) ks

-- ---- the ticket of a job

pub found_is : (job : ℕ) (ks : List Ticket) (i : ℕ) (k : Ticket) → Rises job_before ks → i ≡ index_of job ks → i < length ks → k ≡ get_or ks i k → k.job ≡ job → Some k ≡ ticket_of job ks
found_is job ks i k r e l h j =
    let f = found_at job ks k r (has_at job ks i k l (ap (λ (x : Ticket). x.job) (sym h) ∙ j)) in
    ap Some h ∙ ap (λ n. Some (get_or ks n k)) e ∙ sym f.found

pub none_past : (job : ℕ) (ks : List Ticket) (i : ℕ) → Rises job_before ks → i ≡ index_of job ks → length ks ≤ i → None ≡ ticket_of job ks
none_past job ks i r e l = elim (ticket_of job ks) as (λ o. ticket_of job ks ≡ o → None ≡ o) [
  | None ↦ λ h. refl
  | Some d ↦ λ h. let f = found_at job ks d r (ap is_some h) in let w = f.within in absurd (omega arith)
] refl

pub none_other : (job : ℕ) (ks : List Ticket) (i : ℕ) (k : Ticket) → Rises job_before ks → i ≡ index_of job ks → k ≡ get_or ks i k → (k.job ≡ job → ⊥) → None ≡ ticket_of job ks
none_other job ks i k r e h o = elim (ticket_of job ks) as (λ x. ticket_of job ks ≡ x → None ≡ x) [
  | None ↦ λ g. refl
  | Some d ↦ λ g. let f = found_at job ks k r (ap is_some g) in absurd (o (ap (λ (x : Ticket). x.job) h ∙ ap (λ n. (get_or ks n k).job) e ∙ f.same))
] refl

-- a ticket, for lists that may have none
abbrev any_ticket : Ticket
any_ticket = record { job = 0; pool = 0; urgent = false; hint = None; start = 0; created = 0 }

pub index_within : (job : ℕ) (ks : List Ticket) → Rises job_before ks → has_ticket job ks ≡ true → index_of job ks < length ks
index_within job ks r h = let f = found_at job ks any_ticket r h in f.within

-- two flags that are told apart or alike
pub beq_same : (a b : Bool) → beq a b ≡ true → a ≡ b
beq_same true true e = refl
beq_same true false e = absurd (false≢true e)
beq_same false true e = absurd (false≢true e)
beq_same false false e = refl

pub beq_other : (a b : Bool) → beq a b ≡ false → a ≡ not b
beq_other true true e = absurd (true≢false e)
beq_other true false e = refl
beq_other false true e = refl
beq_other false false e = absurd (true≢false e)

pub not_not : (b : Bool) → not b ≡ true → b ≡ false
not_not true e = absurd (false≢true e)
not_not false e = refl

-- ---- a ticket more

pub length_if : (r : Bool) (f : List Rank → List Rank) (n : ℕ) (qs : List QueueState) → length (if r then with_queue f n qs else qs) ≡ length qs
length_if true f n qs = length-with_queue f n qs
length_if false f n qs = refl

room_if : (r : Bool) (f : List Rank → List Rank) (n : ℕ) (qs : List QueueState) (pool : ℕ) (d : QueueState) → (get_or (if r then with_queue f n qs else qs) pool d).room ≡ (get_or qs pool d).room
room_if true f n qs pool d = room-with_queue f n qs pool d
room_if false f n qs pool d = refl

put_if : (q : ℕ → List Ticket) (k : Ticket) (r : Bool) (qs : List QueueState) → Stand q k false qs → Stand q k r (if r then with_queue (placed rank_before (rank_of k)) k.pool qs else qs)
put_if q k true qs h = Stand-put q k qs h
put_if q k false qs h = h

cut_if : (q : ℕ → List Ticket) (k : Ticket) (r : Bool) (qs : List QueueState) → Stand q k r qs → Stand q k false (if r then with_queue (displaced rank_before (rank_of k)) k.pool qs else qs)
cut_if q k true qs h = Stand-cut q k qs h
cut_if q k false qs h = h

pub room_to_add : (ks : List Ticket) (rs : List Bool) (qs : List QueueState) (spare m n pool : ℕ) (d : QueueState) → IsWaitingKept ks rs qs spare m n → pool < length qs → 0 < spare → length (get_or qs pool d).ranks < (get_or qs pool d).room
room_to_add ks rs qs spare m n pool d h l s =
    let q = h.queues pool d l in
    let e = ap length q.ranks in
    let f = length_queue pool ks rs in
    let g = q.room in
    omega arith

added_at : (ks : List Ticket) (rs : List Bool) (qs : List QueueState) (spare m n n' : ℕ) (k : Ticket) (r : Bool) → IsWaitingKept ks rs qs spare m n → n ≤ n' → has_ticket k.job ks ≡ false → k.pool < length qs → 0 < spare →
    IsWaitingKept (insert ks (index_of k.job ks) k) (insert rs (index_of k.job ks) r) (if r then with_queue (placed rank_before (rank_of k)) k.pool qs else qs) (spare - 1) m n'
added_at ks rs qs spare m n n' k r h wider fresh l s =
    let at = index_of k.job ks in
    let within : at ≤ length ks = leading_within (λ x. nat_lt x.job k.job) ks in
    let in_flags : at ≤ length rs = let f = h.flags in omega arith in
    let lk = length-insert ks at k within in
    let lr = length-insert rs at r in_flags in
    let f = placed rank_before (rank_of k) in
    let qs' = if r then with_queue f k.pool qs else qs in
    let lq : length qs' ≡ length qs = length_if r f k.pool qs in
    record {
      rising = subst (Rises job_before) (placed_insert job_before k ks) (Rises-with_ticket k ks fresh h.rising);
      flags = let x = h.flags in omega arith;
      pools = subst (λ j. AllByRecursion (λ (x : Ticket). x.pool < j) (insert ks at k)) (sym lq)
          (subst (AllByRecursion (λ (x : Ticket). x.pool < length qs)) (placed_insert job_before k ks) (all_placed job_before (λ x. x.pool < length qs) k ks l h.pools));
      queues = Stand-to ks rs qs' (spare - 1) at k r within h.flags (fresh_others k.job ks fresh)
          (put_if (λ pool. queue_of pool ks rs) k r qs (λ pool d b. (h.queues pool d b).ranks))
          (λ pool d b. let g = (h.queues pool d (omega arith)).room in let e = room_if r f k.pool qs pool d in omega arith);
      ticket_room = let x = h.ticket_room in omega arith;
      flag_room = let x = h.flag_room in omega arith;
    }

pub kept_added : (ks : List Ticket) (rs : List Bool) (qs : List QueueState) (spare m n n' : ℕ) (k : Ticket) (r : Bool) (at : ℕ) → at ≡ index_of k.job ks → IsWaitingKept ks rs qs spare m n → n ≤ n' → has_ticket k.job ks ≡ false → k.pool < length qs → 0 < spare →
    IsWaitingKept (insert ks at k) (insert rs at r) (if r then with_queue (placed rank_before (rank_of k)) k.pool qs else qs) (spare - 1) m n'
kept_added ks rs qs spare m n n' k r at e h wider fresh l s =
    subst (λ i. IsWaitingKept (insert ks i k) (insert rs i r) (if r then with_queue (placed rank_before (rank_of k)) k.pool qs else qs) (spare - 1) m n') (sym e) (added_at ks rs qs spare m n n' k r h wider fresh l s)

-- ---- a ticket that stands at a rank, and the others

none_of_job : (job : ℕ) (ks : List Ticket) → AllByRecursion (λ (l : Ticket). (l.job == job) ≡ false) (without_ticket job ks)
none_of_job job [] = tt
none_of_job job (k ∷ ks) = elim (k.job == job) as (λ b. (k.job == job) ≡ b → AllByRecursion (λ (l : Ticket). (l.job == job) ≡ false) (cond (not b) (k ∷ without_ticket job ks) (without_ticket job ks))) [
  | true ↦ λ e. none_of_job job ks
  | false ↦ λ e. (e, none_of_job job ks)
] refl

-- the rank of a job's ticket, the ticket and its flag
pub record StandsAt (job : ℕ) (ks : List Ticket) (rs : List Bool) (at : ℕ) (k : Ticket) (r : Bool) : Type 0 where
  pub index_of : at ≡ index_of job ks
  pub has : has_ticket job ks ≡ true
  pub ticket : k ≡ get_or ks at k
  pub flag : r ≡ get_or rs at r

-- what follows of the others
pub record SplitAt (job : ℕ) (ks : List Ticket) (rs : List Bool) (qs : List QueueState) (at : ℕ) (k : Ticket) (r : Bool) : Type 0 where
  pub within : at < length ks
  pub same : k.job ≡ job
  pub rising : Rises job_before (remove ks at)
  pub others : AllByRecursion (λ (l : Ticket). (l.job == k.job) ≡ false) (remove ks at)
  pub tickets : insert (remove ks at) at k ≡ ks
  pub flags : insert (remove rs at) at r ≡ rs
  pub as_long : length (remove rs at) ≡ length (remove ks at)
  pub pool : k.pool < length qs
  pub pools : AllByRecursion (λ (x : Ticket). x.pool < length qs) (remove ks at)
  pub stand : Stand (λ pool. queue_of pool (remove ks at) (remove rs at)) k r qs

pub split_at : (job : ℕ) (ks : List Ticket) (rs : List Bool) (qs : List QueueState) (spare m n at : ℕ) (k : Ticket) (r : Bool) → IsWaitingKept ks rs qs spare m n → StandsAt job ks rs at k r → SplitAt job ks rs qs at k r
split_at job ks rs qs spare m n at k r h s =
    let f = found_at job ks k h.rising s.has in
    let within : at < length ks = let w = f.within in let e = s.index_of in omega arith in
    let in_flags : at < length rs = let e = h.flags in omega arith in
    let same : k.job ≡ job = ap (λ (x : Ticket). x.job) s.ticket ∙ ap (λ i. (get_or ks i k).job) s.index_of ∙ f.same in
    let left : without_ticket job ks ≡ remove ks at = without_ticket_at job ks h.rising s.has ∙ ap (remove ks) (sym s.index_of) in
    let tickets : insert (remove ks at) at k ≡ ks = ap (insert (remove ks at) at) s.ticket ∙ restored ks at k within in
    let flags : insert (remove rs at) at r ≡ rs = ap (insert (remove rs at) at) s.flag ∙ restored rs at r in_flags in
    let a = length-remove ks at within in
    let b = length-remove rs at in_flags in
    let as_long : length (remove rs at) ≡ length (remove ks at) = let e = h.flags in omega arith in
    let others : AllByRecursion (λ (l : Ticket). (l.job == k.job) ≡ false) (remove ks at) =
    subst (λ j. AllByRecursion (λ (l : Ticket). (l.job == j) ≡ false) (remove ks at)) (sym same) (subst (AllByRecursion (λ (l : Ticket). (l.job == job) ≡ false)) left (none_of_job job ks)) in
    record {
      within = within;
      same = same;
      rising = subst (Rises job_before) left (Rises-filter job_before (λ (l : Ticket). not (l.job == job)) ks h.rising);
      others = others;
      tickets = tickets;
      flags = flags;
      as_long = as_long;
      pool = subst (λ (x : Ticket). x.pool < length qs) (sym s.ticket) (all_at (λ (x : Ticket). x.pool < length qs) ks h.pools at k within);
      pools = subst (AllByRecursion (λ (x : Ticket). x.pool < length qs)) left (all_filter (λ (x : Ticket). x.pool < length qs) (λ (l : Ticket). not (l.job == job)) ks h.pools);
      stand = Stand-from (remove ks at) (remove rs at) qs spare at k r (omega arith) as_long others
          (subst (λ (x : List Ticket). AreQueuesOf x (insert (remove rs at) at r) spare qs) (sym tickets) (subst (λ (x : List Bool). AreQueuesOf ks x spare qs) (sym flags) h.queues));
    }

pub kept_removed : (job : ℕ) (ks : List Ticket) (rs : List Bool) (qs : List QueueState) (spare m m' n at : ℕ) (k : Ticket) (r : Bool) → IsWaitingKept ks rs qs spare m n → m ≤ m' + 1 → SplitAt job ks rs qs at k r →
    IsWaitingKept (remove ks at) (remove rs at) (if r then with_queue (displaced rank_before (rank_of k)) k.pool qs else qs) spare m' n
kept_removed job ks rs qs spare m m' n at k r h narrower s =
    let f = displaced rank_before (rank_of k) in
    let qs' = if r then with_queue f k.pool qs else qs in
    let lq : length qs' ≡ length qs = length_if r f k.pool qs in
    let a = length-remove ks at s.within in
    record {
      rising = s.rising;
      flags = s.as_long;
      pools = subst (λ j. AllByRecursion (λ (x : Ticket). x.pool < j) (remove ks at)) (sym lq) s.pools;
      queues = λ pool d b. record {
        ranks = cut_if (λ pool. queue_of pool (remove ks at) (remove rs at)) k r qs s.stand pool d b;
        room = let g = (h.queues pool d (omega arith)).room in let e = room_if r f k.pool qs pool d in omega arith;
      };
      ticket_room = let x = h.ticket_room in omega arith;
      flag_room = let x = h.flag_room in omega arith;
    }

-- there is room for the rank of a ticket that isn't ready
pub room_to_stand : (job : ℕ) (ks : List Ticket) (rs : List Bool) (qs : List QueueState) (spare m n at : ℕ) (k : Ticket) (r : Bool) → IsWaitingKept ks rs qs spare m n → SplitAt job ks rs qs at k r → r ≡ false → (d : QueueState) → length (get_or qs k.pool d).ranks < (get_or qs k.pool d).room
room_to_stand job ks rs qs spare m n at k r h s e d =
    let a = ap length (subst (λ b. Stand (λ pool. queue_of pool (remove ks at) (remove rs at)) k b qs) e s.stand k.pool d s.pool) in
    let b = length_queue k.pool (remove ks at) (remove rs at) in
    let c = length-remove ks at s.within in
    let g = (h.queues k.pool d s.pool).room in
    omega arith

-- the rank of a ready ticket is in its queue
pub rank_there : (job : ℕ) (ks : List Ticket) (rs : List Bool) (qs : List QueueState) (at : ℕ) (k : Ticket) (r : Bool) → SplitAt job ks rs qs at k r → r ≡ true → (d : QueueState) →
    leading (λ p. rank_before p (rank_of k)) (get_or qs k.pool d).ranks < length (get_or qs k.pool d).ranks
rank_there job ks rs qs at k r s e d = Stand-there (λ pool. queue_of pool (remove ks at) (remove rs at)) k qs (subst (λ b. Stand (λ pool. queue_of pool (remove ks at) (remove rs at)) k b qs) e s.stand) s.pool d

-- the queues, where the flag of a ticket becomes another
abbrev pub requeued : Ticket → Bool → List QueueState → List QueueState
requeued k b qs = let qs' = if b then with_queue (placed rank_before (rank_of k)) k.pool qs else qs in if not b then with_queue (displaced rank_before (rank_of k)) k.pool qs' else qs'

requeued_stand : (q : ℕ → List Ticket) (k : Ticket) (b : Bool) (qs : List QueueState) → Stand q k (not b) qs → Stand q k b (requeued k b qs)
requeued_stand q k true qs h = Stand-put q k qs h
requeued_stand q k false qs h = Stand-cut q k qs h

pub length-requeued : (k : Ticket) (b : Bool) (qs : List QueueState) → length (requeued k b qs) ≡ length qs
length-requeued k true qs = length-with_queue (placed rank_before (rank_of k)) k.pool qs
length-requeued k false qs = length-with_queue (displaced rank_before (rank_of k)) k.pool qs

room-requeued : (k : Ticket) (b : Bool) (qs : List QueueState) (pool : ℕ) (d : QueueState) → (get_or (requeued k b qs) pool d).room ≡ (get_or qs pool d).room
room-requeued k true qs pool d = room-with_queue (placed rank_before (rank_of k)) k.pool qs pool d
room-requeued k false qs pool d = room-with_queue (displaced rank_before (rank_of k)) k.pool qs pool d

pub kept_flagged : (job : ℕ) (ks : List Ticket) (rs : List Bool) (qs : List QueueState) (spare m n at : ℕ) (k : Ticket) (r b : Bool) → IsWaitingKept ks rs qs spare m n → SplitAt job ks rs qs at k r → r ≡ not b →
    IsWaitingKept ks (set rs at b) (requeued k b qs) spare m n
kept_flagged job ks rs qs spare m n at k r b h s e =
    let lq = length-requeued k b qs in
    let in_flags : at < length rs = let x = h.flags in let w = s.within in omega arith in
    let stand : Stand (λ pool. queue_of pool (remove ks at) (remove rs at)) k b (requeued k b qs) = requeued_stand (λ pool. queue_of pool (remove ks at) (remove rs at)) k b qs (subst (λ t. Stand (λ pool. queue_of pool (remove ks at) (remove rs at)) k t qs) e s.stand) in
    let a = length-remove ks at s.within in
    let queues : AreQueuesOf (insert (remove ks at) at k) (insert (remove rs at) at b) spare (requeued k b qs) =
    Stand-to (remove ks at) (remove rs at) (requeued k b qs) spare at k b (omega arith) s.as_long s.others stand
    (λ pool d l. let g = (h.queues pool d (omega arith)).room in let x = room-requeued k b qs pool d in omega arith) in
    record {
      rising = h.rising;
      flags = let x = length-set rs at b in let y = h.flags in omega arith;
      pools = subst (λ j. AllByRecursion (λ (x : Ticket). x.pool < j) ks) (sym lq) h.pools;
      queues = subst (λ (x : List Ticket). AreQueuesOf x (set rs at b) spare (requeued k b qs)) s.tickets (subst (λ (x : List Bool). AreQueuesOf (insert (remove ks at) at k) x spare (requeued k b qs)) (insert-remove rs at b in_flags) queues);
      ticket_room = h.ticket_room;
      flag_room = h.flag_room;
    }

-- ---- other queues with the same ranks

pub HaveNoRanks-push : (qs : List QueueState) (q : QueueState) → q.ranks ≡ [] → HaveNoRanks qs → HaveNoRanks (qs ++ q ∷ [])
HaveNoRanks-push [] q e h zero d l = e
HaveNoRanks-push [] q e h (suc i) d l = absurd (omega arith)
HaveNoRanks-push (p ∷ qs) q e h zero d l = h 0 d (omega arith)
HaveNoRanks-push (p ∷ qs) q e h (suc i) d l = HaveNoRanks-push qs q e (λ j x m. h (suc j) x (omega arith)) i d (omega arith)

pub kept_moved : (ks : List Ticket) (rs : List Bool) (qs qs' : List QueueState) (spare spare' m n m' n' : ℕ) → IsWaitingKept ks rs qs spare m n → length qs' ≡ length qs →
    ((pool : ℕ) (d : QueueState) → pool < length qs → (get_or qs' pool d).ranks ≡ (get_or qs pool d).ranks) →
    ((pool : ℕ) (d : QueueState) → pool < length qs → length ks + spare' ≤ (get_or qs' pool d).room) →
    length ks + spare' ≤ m' → length ks + spare' ≤ n' → IsWaitingKept ks rs qs' spare' m' n'
kept_moved ks rs qs qs' spare spare' m n m' n' h e same room a b = record {
  rising = h.rising;
  flags = h.flags;
  pools = subst (λ j. AllByRecursion (λ (x : Ticket). x.pool < j) ks) (sym e) h.pools;
  queues = λ pool d l. let l' : pool < length qs = omega arith in record { ranks = same pool d l' ∙ (h.queues pool d l').ranks; room = room pool d l' };
  ticket_room = a;
  flag_room = b;
}
