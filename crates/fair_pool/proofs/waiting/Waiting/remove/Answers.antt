use Rattle.std.proofs.Common.{◌≡◌, true, sym, ap, ◌∙◌, subst, length, arith}
use Rattle.std.specs.Prelude.{remove}
use Rattle.fair_pool.specs.Fair.{has_ticket, ticket_of, without_ticket}
use Rattle.fair_pool.specs.Flags.{without_flag}
use Rattle.fair_pool.specs.Kept.{rank_before}
use Rattle.fair_pool.specs.Order.{displaced}
use Rattle.fair_pool.proofs.Standing.{without_ticket_at, without_flag_at}
use Rattle.fair_pool.proofs.Waits.{index_of, index_within, SplitAt, split_at, kept_removed, rank_there, found_is, length_if}
use Rattle.fair_pool.proofs.waiting.Waiting.remove.Goals as goal
use Rattle.fair_pool.proofs.waiting.Waiting.remove.Goals.{After-index_of-at, After-take_at-was_ready}

index_at : (c : After-index_of-at) → c.index_of-at.result ≡ index_of c.args.job c.self.inside.tickets.items
index_at c = c.index_of-at.ensures ∙ ap (λ w. index_of c.args.job w.tickets) (sym c.self.view_is)

has : (c : After-index_of-at) → has_ticket c.args.job c.self.inside.tickets.items ≡ true
has c = subst (λ w. has_ticket c.args.job w.tickets ≡ true) (sym c.self.view_is) c.requires

pub remove-ticket-requires : goal.remove-ticket-requires
remove-ticket-requires c =
    let start = (goal.at.remove-ticket-requires c).After-index_of-at in
    omega (arith, index_within c.args.job c.self.inside.tickets.items c.self.invariant.rising (has start), index_at start)

pub take_at-was_ready-requires : goal.take_at-was_ready-requires
take_at-was_ready-requires c =
    let start = (goal.at.take_at-was_ready-requires c).After-index_of-at in
    omega (arith, index_within c.args.job c.self.inside.tickets.items c.self.invariant.rising (has start), index_at start, c.self.invariant.flags, c.self.inside.ready.ok.0)

split : (c : After-take_at-was_ready) → SplitAt c.args.job c.self.inside.tickets.items c.self.inside.ready.items c.self.inside.queues.items c.index_of-at.result c.remove-ticket.result c.take_at-was_ready.result
split c =
    split_at c.args.job c.self.inside.tickets.items c.self.inside.ready.items c.self.inside.queues.items c.self.inside.spare _ _ c.index_of-at.result c.remove-ticket.result c.take_at-was_ready.result c.self.invariant
    (record {
      index_of = c.index_of-at.ensures ∙ ap (λ w. index_of c.args.job w.tickets) (sym c.self.view_is);
      has = subst (λ w. has_ticket c.args.job w.tickets ≡ true) (sym c.self.view_is) c.requires;
      ticket = c.remove-ticket.ensures.ticket;
      flag = c.take_at-was_ready.ensures.value;
    })

pub dequeue_ready-requires-clause-pool : goal.dequeue_ready-requires-clause-pool
dequeue_ready-requires-clause-pool c = let s = split (goal.at.dequeue_ready-requires-clause-pool c).After-take_at-was_ready in s.pool

pub dequeue_ready-requires-clause-there : goal.dequeue_ready-requires-clause-there
dequeue_ready-requires-clause-there c = λ e d.
    rw c.rank-rank.ensures (rank_there c.args.job c.self.inside.tickets.items c.self.inside.ready.items c.self.inside.queues.items c.index_of-at.result c.remove-ticket.result c.take_at-was_ready.result
    (split (goal.at.dequeue_ready-requires-clause-there c).After-take_at-was_ready) e d)

pub invariant_of-self : goal.invariant_of-self
invariant_of-self c =
    let ks = c.self.inside.tickets.items in
    let rs = c.self.inside.ready.items in
    let qs = c.self.inside.queues.items in
    let kept = kept_removed c.args.job ks rs qs c.self.inside.spare _ _ _ c.index_of-at.result c.remove-ticket.result c.take_at-was_ready.result c.self.invariant c.remove-ticket.ensures.room (split (goal.at.invariant_of-self c).After-take_at-was_ready) in
    rw (c.remove-ticket.ensures.items, c.take_at-was_ready.ensures.items, c.dequeue_ready.ensures, c.take_at-was_ready.ensures.capacity, c.rank-rank.ensures) kept

pub returns-clause-ticket : goal.returns-clause-ticket
returns-clause-ticket c =
    let ks = c.self.inside.tickets.items in
    let start = (goal.at.returns-clause-ticket c).After-index_of-at in
    let s = split (goal.at.returns-clause-ticket c).After-take_at-was_ready in
    ap (λ w. ticket_of c.args.job w.tickets) (sym c.self.view_is)
    ∙ sym (found_is c.args.job ks c.index_of-at.result c.remove-ticket.result c.self.invariant.rising (index_at start) s.within c.remove-ticket.ensures.ticket s.same)

pub returns-clause-left : goal.returns-clause-left
returns-clause-left c =
    let ks = c.self.inside.tickets.items in
    let rs = c.self.inside.ready.items in
    let start = (goal.at.returns-clause-left c).After-index_of-at in
    let at = index_at start in
    let tickets : c.remove-ticket.new.self.items ≡ without_ticket c.args.job c.args.self.now.tickets =
    c.remove-ticket.ensures.items ∙ ap (remove ks) at ∙ sym (without_ticket_at c.args.job ks c.self.invariant.rising (has start)) ∙ ap (λ w. without_ticket c.args.job w.tickets) c.self.view_is in
    let flags : c.take_at-was_ready.new.items.items ≡ without_flag c.args.job c.args.self.now.tickets c.args.self.now.ready =
    c.take_at-was_ready.ensures.items ∙ ap (remove rs) at ∙ sym (without_flag_at c.args.job ks rs c.self.invariant.flags c.self.invariant.rising (has start)) ∙ ap (λ w. without_flag c.args.job w.tickets w.ready) c.self.view_is in
    let pools : length c.dequeue_ready.new.queues.items ≡ c.args.self.now.pools =
    ap length c.dequeue_ready.ensures ∙ length_if c.take_at-was_ready.result (displaced rank_before c.rank-rank.result) c.remove-ticket.result.pool c.self.inside.queues.items ∙ ap (λ w. w.pools) c.self.view_is in
    let spare = ap (λ w. w.spare) c.self.view_is in
    cc
