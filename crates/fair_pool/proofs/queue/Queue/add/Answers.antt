use Rattle.std.proofs.Common.{◌≡◌, ◌<◌, length, sym, ap, ◌∙◌, subst, arith}
use Rattle.std.specs.Prelude.{insert}
use Rattle.fair_pool.specs.Kept.{rank_before}
use Rattle.fair_pool.specs.Order.{leading, placed, IsInOrder}
use Rattle.fair_pool.proofs.Before.{rank_before_order}
use Rattle.fair_pool.proofs.Ordered.{leading_within, placed_insert, IsInOrder-placed}
use Rattle.fair_pool.proofs.queue.Queue.add.Goals as goal
use Rattle.fair_pool.proofs.queue.Queue.add.Goals.{After-put_at}

pub put_at-requires-clause-within : goal.put_at-requires-clause-within
put_at-requires-clause-within c =
    let ps = c.self.inside.ranks.items in
    let same : c.index_of-at.result ≡ leading (λ p. rank_before p c.args.rank) ps = c.index_of-at.ensures ∙ ap (λ q. leading (λ p. rank_before p c.args.rank) q.ranks) (sym c.self.view_is) in
    let l = leading_within (λ p. rank_before p c.args.rank) ps in
    omega (arith, c.self.inside.ranks.ok.0)

more : (c : After-put_at) → c.put_at.new.items.items ≡ placed rank_before c.args.rank c.self.inside.ranks.items
more c =
    let ps = c.self.inside.ranks.items in
    let same : c.index_of-at.result ≡ leading (λ p. rank_before p c.args.rank) ps = c.index_of-at.ensures ∙ ap (λ q. leading (λ p. rank_before p c.args.rank) q.ranks) (sym c.self.view_is) in
    c.put_at.ensures.items ∙ ap (λ i. insert ps i c.args.rank) same ∙ sym (placed_insert rank_before c.args.rank ps)

pub invariant_of-self : goal.invariant_of-self
invariant_of-self c = record {
  order = subst (IsInOrder rank_before) (sym (more (goal.at.invariant_of-self c).After-put_at)) (IsInOrder-placed rank_before rank_before_order c.args.rank c.self.inside.ranks.items c.self.invariant.order);
  fits = let f = c.self.invariant.fits in let g = c.put_at.ensures.capacity in omega arith;
}

pub returns : goal.returns
returns c =
    let e : c.put_at.new.items.items ≡ placed rank_before c.args.rank c.args.self.now.ranks = more (goal.at.returns c).After-put_at ∙ ap (λ q. placed rank_before c.args.rank q.ranks) c.self.view_is in
    let v = ap (λ q. q.room) c.self.view_is in
    cc

pub put_at-requires-clause-room : goal.put_at-requires-clause-room
put_at-requires-clause-room c =
    let r = subst (λ q. length q.ranks < q.room) (sym c.self.view_is) c.requires in
    let f = c.self.invariant.fits in
    omega (arith, c.self.inside.ranks.ok.0)
