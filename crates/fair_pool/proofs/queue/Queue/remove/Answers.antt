use Rattle.std.proofs.Common.{◌≡◌, ◌<◌, sym, ap, ◌∙◌, subst, arith}
use Rattle.std.specs.Prelude.{remove, length}
use Rattle.fair_pool.specs.Kept.{rank_before}
use Rattle.fair_pool.specs.Order.{leading, displaced, IsInOrder}
use Rattle.fair_pool.proofs.Before.{rank_before_order}
use Rattle.fair_pool.proofs.Ordered.{displaced_remove, IsInOrder-displaced}
use Rattle.fair_pool.proofs.queue.Queue.remove.Goals as goal
use Rattle.fair_pool.proofs.queue.Queue.remove.Goals.{After-take_at-rank}

left : (c : After-take_at-rank) → c.take_at-rank.new.items.items ≡ displaced rank_before c.args.rank c.self.inside.ranks.items
left c =
    let ps = c.self.inside.ranks.items in
    let same : c.index_of-at.result ≡ leading (λ p. rank_before p c.args.rank) ps = c.index_of-at.ensures ∙ ap (λ q. leading (λ p. rank_before p c.args.rank) q.ranks) (sym c.self.view_is) in
    let within : leading (λ p. rank_before p c.args.rank) ps < length ps = subst (λ q. leading (λ p. rank_before p c.args.rank) q.ranks < length q.ranks) (sym c.self.view_is) c.requires in
    c.take_at-rank.ensures.items ∙ ap (remove ps) same ∙ sym (displaced_remove rank_before c.args.rank ps within)

pub invariant_of-self : goal.invariant_of-self
invariant_of-self c = record {
  order = subst (IsInOrder rank_before) (sym (left (goal.at.invariant_of-self c).After-take_at-rank)) (IsInOrder-displaced rank_before rank_before_order c.args.rank c.self.inside.ranks.items c.self.invariant.order);
  fits = let f = c.self.invariant.fits in let g = c.take_at-rank.ensures.capacity in omega arith;
}

pub returns : goal.returns
returns c =
    let e : c.take_at-rank.new.items.items ≡ displaced rank_before c.args.rank c.args.self.now.ranks = left (goal.at.returns c).After-take_at-rank ∙ ap (λ q. displaced rank_before c.args.rank q.ranks) c.self.view_is in
    let v = ap (λ q. q.room) c.self.view_is in
    cc
