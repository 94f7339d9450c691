use Rattle.std.proofs.Common.{ap, ◌∙◌}
use Rattle.fair_pool.specs.Pools.{PoolsState, pick_of}
use Rattle.core_rules.specs.Core.{CoreState}
use Rattle.core_rules.specs.Orders.{picked}
use Rattle.core_rules.specs.Parts.{core_of}
use Rattle.core_rules.proofs.Parts.{pools_pick}
use Rattle.engine_core.proofs.parts.PartsLookups.pick.Goals as goal

pub returns : goal.returns
returns c =
    let i = c.self.inside in
    let s : CoreState = core_of i.jobs.now.work i.rows.now.rows i.moment in
    c.pick.ensures
    ∙ ap (λ (p : PoolsState). pick_of p i.moment c.args.worker) c.pools.ensures
    ∙ pools_pick s i.jobs.now.spare c.self.invariant.within c.self.invariant.ticketed c.args.worker
    ∙ ap (λ (x : CoreState). picked x c.args.worker) c.self.view_is
