-- What each change leaves of what the pools keep.
use Rattle.std.proofs.Common.{◌≡◌, ℕ, zero, suc, ◌+◌, ◌<◌, ◌≤◌, Bool, true, false, cond, not, List, [], ◌∷◌, map, length, Some, is_some, ◌∙◌, arith}
use Rattle.std.proofs.lemmas.Bool.{cond_both, false≢true}
use Rattle.std.specs.Prelude.{slice_get, ◌==◌}
use Rattle.op_keys.specs.declared.declarations.ClientDecl.{ClientDecl}
use Rattle.op_keys.specs.declared.declarations.PoolDecl.{PoolDecl}
use Rattle.op_keys.specs.declared.declarations.WorkerDecl.{WorkerDecl}
use Rattle.std.specs.List.{AllByRecursion}
use Rattle.fair_pool.specs.Fair.{job_before, ticket_of, has_ticket, with_ticket, without_ticket}
use Rattle.fair_pool.specs.Kept.{WaitingState, ArePoolsKept}
use Rattle.fair_pool.specs.Layouts.{Layout, capacity_of}
use Rattle.fair_pool.specs.Sound.{IsClientSound, IsWorkerSound}
use Rattle.fair_pool.proofs.Ordered.{length_placed}
use Rattle.fair_pool.specs.declared.ticket.Ticket.{Ticket}

-- other tickets, which have room
pub kept_tickets : (l : Layout) (ts us : WaitingState) (ns rs : List ℕ) (ps : List Bool) (ws : List ℕ) (room more : ℕ) → ArePoolsKept l ts ns rs ps ws room → us.pools ≡ ts.pools → length us.tickets + us.spare ≤ more → ArePoolsKept l us ns rs ps ws more
kept_tickets l ts us ns rs ps ws room more h e fit = record {
  layout = h.layout;
  next = h.next;
  rates = h.rates;
  paused = h.paused;
  loads = h.loads;
  positive = h.positive;
  pools = e ∙ h.pools;
  hints = fit;
}

pub kept_next : (l : Layout) (ts : WaitingState) (ns ns' rs : List ℕ) (ps : List Bool) (ws : List ℕ) (room : ℕ) → ArePoolsKept l ts ns rs ps ws room → length ns' ≡ length ns → ArePoolsKept l ts ns' rs ps ws room
kept_next l ts ns ns' rs ps ws room h e = record { layout = h.layout; next = e ∙ h.next; rates = h.rates; paused = h.paused; loads = h.loads; positive = h.positive; pools = h.pools; hints = h.hints }

pub kept_loads : (l : Layout) (ts : WaitingState) (ns rs : List ℕ) (ps : List Bool) (ws ws' : List ℕ) (room : ℕ) → ArePoolsKept l ts ns rs ps ws room → length ws' ≡ length ws → ArePoolsKept l ts ns rs ps ws' room
kept_loads l ts ns rs ps ws ws' room h e = record { layout = h.layout; next = h.next; rates = h.rates; paused = h.paused; loads = e ∙ h.loads; positive = h.positive; pools = h.pools; hints = h.hints }

pub length_without : (job : ℕ) (ks : List Ticket) → length (without_ticket job ks) ≤ length ks
length_without job [] = omega arith
length_without job (k ∷ ks) = cond_both (not (k.job == job)) (k ∷ without_ticket job ks) (without_ticket job ks) (λ ls. length ls ≤ suc (length ks)) (λ _. let h = length_without job ks in omega arith) (λ _. let h = length_without job ks in omega arith)

-- a job's ticket that goes leaves fewer
pub length_less : (job : ℕ) (ks : List Ticket) → has_ticket job ks ≡ true → length (without_ticket job ks) < length ks
length_less job [] = λ h. absurd (false≢true h)
length_less job (k ∷ ks) = elim (k.job == job) as (λ b. is_some (cond b (Some k) (ticket_of job ks)) ≡ true → length (cond (not b) (k ∷ without_ticket job ks) (without_ticket job ks)) < suc (length ks)) [
  | true ↦ λ h. let l = length_without job ks in omega arith
  | false ↦ λ h. let l = length_less job ks h in omega arith
]

pub length_with : (k : Ticket) (ks : List Ticket) → length (with_ticket k ks) ≡ length ks + 1
length_with k ks = length_placed job_before k ks

-- ---- what sound declarations give

pub rates_positive : (pools : List PoolDecl) (cs : List ClientDecl) → AllByRecursion (IsClientSound pools) cs → AllByRecursion (λ r. 0 < r) (map (λ d. d.rate) cs)
rates_positive pools [] a = tt
rates_positive pools (c ∷ cs) a = (let s = a.0 in s.some_rate, rates_positive pools cs a.1)

pub capacity_small : (pools : List PoolDecl) (ws : List WorkerDecl) (w : ℕ) → AllByRecursion (IsWorkerSound pools) ws → capacity_of (slice_get ws w) ≤ 8
capacity_small pools [] w a = omega arith
capacity_small pools (x ∷ ws) zero a = let s = a.0 in s.capacity
capacity_small pools (x ∷ ws) (suc w) a = capacity_small pools ws w a.1
