use Rattle.std.proofs.Common.{rules, of_calls, ap, ◌∙◌, arith}
use Rattle.std.proofs.lemmas.Fn.{always_returns_same}
use Rattle.fair_pool.specs.Kept.{rank_before}
use Rattle.fair_pool.specs.Order.{leading}
use Rattle.fair_pool.proofs.Before.{rank_before_order}
use Rattle.fair_pool.proofs.Ordered.{leading_found, parted}
use Rattle.fair_pool.proofs.queue.Queue.index_of.Goals as goal

pub returns : goal.returns
returns c =
    let ps = c.self.inside.ranks.items in
    let point = c.partition_point.ensures.partitioned (λ p. rank_before p c.args.rank) (always_returns_same _ _ _ (λ a r f k. search (rules, of_calls)))
    (parted rank_before rank_before_order c.args.rank ps c.self.invariant.order) in
    leading_found (λ p. rank_before p c.args.rank) ps c.partition_point.result (let b = c.partition_point.ensures.bound in omega (arith, c.self.inside.ranks.ok.0)) point
    ∙ ap (leading (λ p. rank_before p c.args.rank)) (ap (λ q. q.ranks) c.self.view_is)
