use Rattle.std.proofs.Common.{sym, ap, ◌∙◌}
use Rattle.fair_pool.specs.Kept.{allows_job, first_job}
use Rattle.fair_pool.proofs.Picks.{first_is_pick}
use Rattle.fair_pool.proofs.pools.Pools.pick.Goals as goal

pub returns : goal.returns
returns c =
    c.first_allowed.ensures ∙ ap (first_job (allows_job c.args.self.now c.args.now c.args.worker)) c.queue.ensures.ranks
    ∙ first_is_pick c.args.self.now c.args.now c.args.worker c.queue.ensures.rising (sym c.takes_none.ensures ∙ c.if-takes_none.false)
