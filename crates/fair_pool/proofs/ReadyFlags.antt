-- Flags that come from a test of jobs: what crates that know which jobs are ready need.
use Rattle.std.proofs.Common.{◌≡◌, ℕ, Bool, true, false, cond, ◌&&◌, List, [], ◌∷◌, map, Some, None, is_some, refl, ap, ◌∙◌}
use Rattle.std.proofs.lemmas.Bool.{eqb-true}
use Rattle.std.specs.Prelude.{◌==◌, if◌then◌else◌, slice_get, slice_index}
use Rattle.std.specs.List.{AllByRecursion}
use Rattle.std.specs.Option.{option_map}
use Rattle.fair_pool.specs.Fair.{ticket_of, has_ticket, eligible, allows, least, takes_none, pick}
use Rattle.fair_pool.specs.Flags.{flag_of}
use Rattle.fair_pool.specs.Layouts.{worker_pool}
use Rattle.fair_pool.specs.Pools.{PoolsState, is_ready_in, pick_of}
use Rattle.fair_pool.proofs.Ordered.{all_since}
use Rattle.fair_pool.proofs.Picks.{filter_same, has_each}
use Rattle.fair_pool.specs.declared.ticket.Ticket.{Ticket}

-- the flags of some tickets, by a test of their jobs
abbrev pub flags_by : (ℕ → Bool) → List Ticket → List Bool
flags_by test ks = map (λ (k : Ticket). test k.job) ks

pub flag_of-flags_by : (test : ℕ → Bool) (job : ℕ) (ks : List Ticket) → flag_of job ks (flags_by test ks) ≡ (has_ticket job ks && test job)
flag_of-flags_by test job [] = refl
flag_of-flags_by test job (k ∷ ks) = elim (k.job == job) as (λ b. (k.job == job) ≡ b → cond b (test k.job) (flag_of job ks (flags_by test ks)) ≡ (is_some (cond b (Some k) (ticket_of job ks)) && test job)) [
  | true ↦ λ e. ap test (eqb-true k.job job e)
  | false ↦ λ e. flag_of-flags_by test job ks
] refl

-- the pick needs only the test
pub pick_by_test : (p : PoolsState) (test : ℕ → Bool) (now w : ℕ) → p.ready ≡ flags_by test p.fair.tickets → pick_of p now w ≡ pick p.layout p.fair test (slice_index p.loads) now w
pick_by_test p test now w e =
    let ks = p.fair.tickets in
    let pool = worker_pool p.layout (slice_get p.layout.workers w) in
    let same : AllByRecursion (λ (k : Ticket). eligible p.layout p.fair (is_ready_in p) (slice_index p.loads) now w k ≡ eligible p.layout p.fair test (slice_index p.loads) now w k) ks =
    all_since (λ (k : Ticket). has_ticket k.job ks ≡ true) (λ (k : Ticket). eligible p.layout p.fair (is_ready_in p) (slice_index p.loads) now w k ≡ eligible p.layout p.fair test (slice_index p.loads) now w k)
    (λ k h. ap (λ b. (b && k.pool == pool) && allows p.layout p.fair (slice_index p.loads) now w k) (ap (flag_of k.job ks) e ∙ flag_of-flags_by test k.job ks ∙ ap (λ b. b && test k.job) h)) ks (has_each ks) in
    ap (λ ls. if takes_none p.layout p.fair (slice_index p.loads) w then None else option_map (λ (k : Ticket). k.job) (least ls))
    (filter_same (eligible p.layout p.fair (is_ready_in p) (slice_index p.loads) now w) (eligible p.layout p.fair test (slice_index p.loads) now w) ks same)
