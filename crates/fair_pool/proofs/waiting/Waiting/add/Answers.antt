use Rattle.std.proofs.Common.{◌≡◌, ◌<◌, ◌≤◌, ◌-◌, false, nat_lt, sym, ap, ◌∙◌, subst, length, arith}
use Rattle.std.specs.Prelude.{insert}
use Rattle.fair_pool.specs.Fair.{has_ticket, with_ticket, job_before}
use Rattle.fair_pool.specs.Flags.{with_flag}
use Rattle.fair_pool.specs.Kept.{rank_before}
use Rattle.fair_pool.specs.Order.{placed}
use Rattle.fair_pool.proofs.Ordered.{leading_within, placed_insert}
use Rattle.fair_pool.proofs.Standing.{with_flag_at}
use Rattle.fair_pool.proofs.Waits.{index_of, room_to_add, kept_added, length_if}
use Rattle.fair_pool.proofs.waiting.Waiting.add.Goals as goal
use Rattle.fair_pool.proofs.waiting.Waiting.add.Goals.{After-index_of-at}

index_at : (c : After-index_of-at) → c.index_of-at.result ≡ index_of c.args.ticket.job c.self.inside.tickets.items
index_at c = c.index_of-at.ensures ∙ ap (λ w. index_of c.args.ticket.job w.tickets) (sym c.self.view_is)

index_within : (c : After-index_of-at) → c.index_of-at.result ≤ length c.self.inside.tickets.items
index_within c = let e = index_at c in let l = leading_within (λ k. nat_lt k.job c.args.ticket.job) c.self.inside.tickets.items in omega arith

pub enqueue_ready-requires-clause-room : goal.enqueue_ready-requires-clause-room
enqueue_ready-requires-clause-room c = λ _ d.
    room_to_add c.self.inside.tickets.items c.self.inside.ready.items c.self.inside.queues.items c.self.inside.spare _ _ c.args.ticket.pool d c.self.invariant
    (subst (λ w. c.args.ticket.pool < w.pools) (sym c.self.view_is) c.requires.pool)
    (subst (λ w. 0 < w.spare) (sym c.self.view_is) c.requires.room)

pub insert-requires-clause-within : goal.insert-requires-clause-within
insert-requires-clause-within c = index_within (goal.at.insert-requires-clause-within c).After-index_of-at

pub insert-requires-clause-room : goal.insert-requires-clause-room
insert-requires-clause-room c = let r = subst (λ w. 0 < w.spare) (sym c.self.view_is) c.requires.room in let t = c.self.invariant.ticket_room in omega arith

pub put_at-requires-clause-within : goal.put_at-requires-clause-within
put_at-requires-clause-within c = omega (arith, index_within (goal.at.put_at-requires-clause-within c).After-index_of-at, c.self.invariant.flags, c.self.inside.ready.ok.0)

pub put_at-requires-clause-room : goal.put_at-requires-clause-room
put_at-requires-clause-room c =
    let r = subst (λ w. 0 < w.spare) (sym c.self.view_is) c.requires.room in
    omega (arith, c.self.invariant.flag_room, c.self.invariant.flags, c.self.inside.ready.ok.0)

pub invariant_of-self : goal.invariant_of-self
invariant_of-self c =
    let ks = c.self.inside.tickets.items in
    let rs = c.self.inside.ready.items in
    let qs = c.self.inside.queues.items in
    let k = c.args.ticket in
    let r = c.args.ready in
    let at = c.index_of-at.result in
    let kept = kept_added ks rs qs c.self.inside.spare _ _ _ k r at (index_at (goal.at.invariant_of-self c).After-index_of-at) c.self.invariant c.put_at.ensures.capacity
    (subst (λ w. has_ticket k.job w.tickets ≡ false) (sym c.self.view_is) c.requires.fresh)
    (subst (λ w. k.pool < w.pools) (sym c.self.view_is) c.requires.pool)
    (subst (λ w. 0 < w.spare) (sym c.self.view_is) c.requires.room) in
    rw (c.insert.ensures.items, c.put_at.ensures.items, c.enqueue_ready.ensures, c.insert.ensures.room, c.rank-rank.ensures) kept

pub returns : goal.returns
returns c =
    let ks = c.self.inside.tickets.items in
    let rs = c.self.inside.ready.items in
    let k = c.args.ticket in
    let at = index_at (goal.at.returns c).After-index_of-at in
    let tickets : c.insert.new.self.items ≡ with_ticket k c.args.self.now.tickets =
    c.insert.ensures.items ∙ ap (λ i. insert ks i k) at ∙ sym (placed_insert job_before k ks) ∙ ap (λ w. with_ticket k w.tickets) c.self.view_is in
    let flags : c.put_at.new.items.items ≡ with_flag k.job c.args.ready c.args.self.now.tickets c.args.self.now.ready =
    c.put_at.ensures.items ∙ ap (λ i. insert rs i c.args.ready) at ∙ sym (with_flag_at k.job c.args.ready ks rs c.self.invariant.flags) ∙ ap (λ w. with_flag k.job c.args.ready w.tickets w.ready) c.self.view_is in
    let pools : length c.enqueue_ready.new.queues.items ≡ c.args.self.now.pools =
    ap length c.enqueue_ready.ensures ∙ length_if c.args.ready (placed rank_before c.rank-rank.result) k.pool c.self.inside.queues.items ∙ ap (λ w. w.pools) c.self.view_is in
    let spare = ap (λ w. w.spare - 1) c.self.view_is in
    cc
