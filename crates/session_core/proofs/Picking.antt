-- The loop over workers.
use Rattle.std.proofs.Common.{◌≡◌, ◌<◌, ◌^◌, ℕ, suc, ◌+◌, ◌-◌, max, min, Bool, true, false, ap, sym, ◌∙◌, arith}
use Rattle.std.specs.Prelude.{Some, is_some, if◌then◌else◌}
use Rattle.core_rules.specs.Core.{CoreState}
use Rattle.core_rules.specs.Orders.{picked}
use Rattle.core_rules.specs.Parts.{pools_of, work_of}
use Rattle.core_rules.specs.Steps.{at_time}
use Rattle.core_rules.proofs.Parts.{pools_pick}
use Rattle.fair_pool.specs.Pools.{PoolsState, pick_of}
use Rattle.job_core.specs.State.{JobsState, bare}
use Rattle.engine_core.specs.State.{EngineState, IsEngineLawful}
use Rattle.session_core.specs.Orders.{free_among}

module _ (c : CoreState) (last w n : ℕ) (below : w < n) where
  abbrev has : Bool
  has = is_some (picked (at_time c last) w)

  one_more : n - w ≡ suc (n - (w + 1))
  one_more = omega (arith, below)

  opened : free_among c last w (n - w) ≡ (if has then Some w else free_among c last (w + 1) (n - (w + 1)))
  opened = ap (free_among c last w) one_more

  -- a worker without a pick is passed
  pub passed : has ≡ false → free_among c last w (n - w) ≡ free_among c last (w + 1) (n - (w + 1))
  passed none = opened ∙ ap (λ (b : Bool). if b then Some w else free_among c last (w + 1) (n - (w + 1))) none

  -- one with a pick is found
  pub found : has ≡ true → free_among c last w (n - w) ≡ Some w
  found some = opened ∙ ap (λ (b : Bool). if b then Some w else free_among c last (w + 1) (n - (w + 1))) some

-- the pools of an engine's jobs pick as the core's state does
pub pick_is : (d e : EngineState) (last w m : ℕ) (j : JobsState) (p : PoolsState) → e ≡ d → IsEngineLawful e.core → j ≡ record { work = work_of e.core; spare = e.job_room } → p ≡ pools_of (bare j.work) j.spare →
    m ≡ max d.core.now (min last (2 ^ 60)) → pick_of p m w ≡ picked (at_time d.core last) w
pick_is d e last w m j p same lawful jobs pools moment =
    let is : p ≡ pools_of (at_time e.core last) e.job_room = pools ∙ ap (λ (k : JobsState). pools_of (bare k.work) k.spare) jobs in
    let now : m ≡ max e.core.now (min last (2 ^ 60)) = moment ∙ ap (λ (x : EngineState). max x.core.now (min last (2 ^ 60))) (sym same) in
    (λ i. pick_of (is i) (now i) w) ∙ pools_pick (at_time e.core last) e.job_room lawful.invariant.lawful.within lawful.invariant.lawful.ticketed w
    ∙ ap (λ (x : EngineState). picked (at_time x.core last) w) same
