use Rattle.std.proofs.Common.{◌+◌, sym, ap, ◌∙◌}
use Rattle.fair_pool.specs.Kept.{allows_job, first_job, looked_for}
use Rattle.fair_pool.proofs.Picks.{first_is_pick, looked_is}
use Rattle.fair_pool.proofs.pools.Pools.pick_counted.Goals as goal

pub returns-clause-answer : goal.returns-clause-answer
returns-clause-answer g c =
    c.first_counted.ensures.answer ∙ ap (first_job (allows_job c.args.self.now c.args.now c.args.worker)) c.queue.ensures.ranks
    ∙ first_is_pick c.args.self.now c.args.now c.args.worker c.queue.ensures.rising (sym c.takes_none.ensures ∙ c.if-takes_none.false)

pub returns-clause-steps : goal.returns-clause-steps
returns-clause-steps g c =
    c.first_counted.ensures.steps
    ∙ ap (λ n. c.args.steps.now + n) (ap (looked_for (allows_job c.args.self.now c.args.now c.args.worker)) c.queue.ensures.ranks
    ∙ looked_is c.args.self.now c.args.now c.args.worker c.queue.ensures.rising (sym c.takes_none.ensures ∙ c.if-takes_none.false))
