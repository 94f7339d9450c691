use Rattle.std.proofs.Common.{◌≡◌, ◌<◌, Bool, List, true, false, not, sym, ap, ◌∙◌, subst, length, set, arith}
use Rattle.std.proofs.lemmas.List.{set-get_or}
use Rattle.std.specs.Prelude.{if◌then◌else◌}
use Rattle.fair_pool.specs.Kept.{rank_before, with_queue}
use Rattle.fair_pool.specs.Order.{placed, displaced}
use Rattle.fair_pool.specs.Fair.{has_ticket}
use Rattle.fair_pool.specs.Flags.{flagged}
use Rattle.fair_pool.proofs.Standing.{flagged_at}
use Rattle.fair_pool.proofs.Waits.{index_of, index_within, SplitAt, split_at, kept_flagged, rank_there, room_to_stand, length_if, beq_same, beq_other, not_not}
use Rattle.fair_pool.proofs.waiting.Waiting.set_ready.Goals as goal
use Rattle.fair_pool.proofs.waiting.Waiting.set_ready.Goals.{After-index_of-at, After-rank-rank}

index_at : (c : After-index_of-at) → c.index_of-at.result ≡ index_of c.args.job c.self.inside.tickets.items
index_at c = c.index_of-at.ensures ∙ ap (λ w. index_of c.args.job w.tickets) (sym c.self.view_is)

has : (c : After-index_of-at) → has_ticket c.args.job c.self.inside.tickets.items ≡ true
has c = subst (λ w. has_ticket c.args.job w.tickets ≡ true) (sym c.self.view_is) c.requires

within : (c : After-index_of-at) → c.index_of-at.result < length c.self.inside.tickets.items
within c = let a = index_within c.args.job c.self.inside.tickets.items c.self.invariant.rising (has c) in let b = index_at c in omega arith

pub index-requires : goal.index-requires
index-requires c = omega (arith, within (goal.at.index-requires c).After-index_of-at, c.self.invariant.flags, c.self.inside.ready.ok.0)

pub get-ticket-requires : goal.get-ticket-requires
get-ticket-requires c = within (goal.at.get-ticket-requires c).After-index_of-at

pub index_mut-requires : goal.index_mut-requires
index_mut-requires c = omega (arith, within (goal.at.index_mut-requires c).After-index_of-at, c.self.invariant.flags, c.self.inside.ready.ok.0)

pub returns-then-index-ready : goal.returns-then-index-ready
returns-then-index-ready c =
    let ks = c.self.inside.tickets.items in
    let rs = c.self.inside.ready.items in
    let start = (goal.at.returns-then-index-ready c).After-index_of-at in
    let same : c.index.result.now ≡ c.args.ready = beq_same c.index.result.now c.args.ready c.if-index-ready.true in
    let e : flagged c.args.job c.args.ready ks rs ≡ rs =
    flagged_at c.args.job c.args.ready ks rs c.self.invariant.flags c.self.invariant.rising (has start)
    ∙ ap (λ i. set rs i c.args.ready) (sym (index_at start)) ∙ ap (set rs c.index_of-at.result) (sym same ∙ c.index.ensures) ∙ set-get_or rs c.index_of-at.result c.index.result.now in
    let f : flagged c.args.job c.args.ready c.args.self.now.tickets c.args.self.now.ready ≡ c.args.self.now.ready = subst (λ w. flagged c.args.job c.args.ready w.tickets w.ready ≡ w.ready) c.self.view_is e in
    ap (λ (x : List Bool). record c.args.self.now { ready = x }) (sym f)

split : (c : After-rank-rank) → SplitAt c.args.job c.self.inside.tickets.items c.self.inside.ready.items c.self.inside.queues.items c.index_of-at.result c.get-ticket.result.now c.index.result.now
split c =
    split_at c.args.job c.self.inside.tickets.items c.self.inside.ready.items c.self.inside.queues.items c.self.inside.spare _ _ c.index_of-at.result c.get-ticket.result.now c.index.result.now c.self.invariant
    (record {
      index_of = c.index_of-at.ensures ∙ ap (λ w. index_of c.args.job w.tickets) (sym c.self.view_is);
      has = subst (λ w. has_ticket c.args.job w.tickets ≡ true) (sym c.self.view_is) c.requires;
      ticket = c.get-ticket.ensures;
      flag = c.index.ensures;
    })

turned : (c : After-rank-rank) → c.index.result.now ≡ not c.args.ready
turned c = beq_other c.index.result.now c.args.ready c.if-index-ready.false

pub enqueue_ready-requires-clause-pool : goal.enqueue_ready-requires-clause-pool
enqueue_ready-requires-clause-pool c = let s = split (goal.at.enqueue_ready-requires-clause-pool c).After-rank-rank in s.pool

pub enqueue_ready-requires-clause-room : goal.enqueue_ready-requires-clause-room
enqueue_ready-requires-clause-room c = λ e d.
    let start = (goal.at.enqueue_ready-requires-clause-room c).After-rank-rank in
    room_to_stand c.args.job c.self.inside.tickets.items c.self.inside.ready.items c.self.inside.queues.items c.self.inside.spare _ _ c.index_of-at.result c.get-ticket.result.now c.index.result.now c.self.invariant
    (split start) (turned start ∙ ap not e) d

pub dequeue_ready-requires-clause-pool : goal.dequeue_ready-requires-clause-pool
dequeue_ready-requires-clause-pool c =
    let s = split (goal.at.dequeue_ready-requires-clause-pool c).After-rank-rank in
    let e = ap length c.enqueue_ready.ensures ∙ length_if c.args.ready (placed rank_before c.rank-rank.result) c.get-ticket.result.now.pool c.self.inside.queues.items in
    let p = s.pool in
    omega arith

pub dequeue_ready-requires-clause-there : goal.dequeue_ready-requires-clause-there
dequeue_ready-requires-clause-there c = λ e d.
    let start = (goal.at.dequeue_ready-requires-clause-there c).After-rank-rank in
    let qs = c.self.inside.queues.items in
    let off : c.args.ready ≡ false = not_not c.args.ready e in
    let same : c.enqueue_ready.new.queues.items ≡ qs = c.enqueue_ready.ensures ∙ ap (λ b. if b then with_queue (placed rank_before c.rank-rank.result) c.get-ticket.result.now.pool qs else qs) off in
    rw (same, c.rank-rank.ensures) (rank_there c.args.job c.self.inside.tickets.items c.self.inside.ready.items qs c.index_of-at.result c.get-ticket.result.now c.index.result.now (split start) (turned start ∙ e) d)

pub invariant_of-self : goal.invariant_of-self
invariant_of-self c =
    let start = (goal.at.invariant_of-self c).After-rank-rank in
    let kept = kept_flagged c.args.job c.self.inside.tickets.items c.self.inside.ready.items c.self.inside.queues.items c.self.inside.spare _ _ c.index_of-at.result c.get-ticket.result.now c.index.result.now c.args.ready c.self.invariant
    (split start) (turned start) in
    rw (c.dequeue_ready.ensures, c.enqueue_ready.ensures, c.rank-rank.ensures) kept

pub returns : goal.returns
returns c =
    let ks = c.self.inside.tickets.items in
    let rs = c.self.inside.ready.items in
    let start = (goal.at.returns c).After-index_of-at in
    let e : flagged c.args.job c.args.ready ks rs ≡ set rs c.index_of-at.result c.args.ready =
    flagged_at c.args.job c.args.ready ks rs c.self.invariant.flags c.self.invariant.rising (has start) ∙ ap (λ i. set rs i c.args.ready) (sym (index_at start)) in
    let f : set rs c.index_of-at.result c.args.ready ≡ flagged c.args.job c.args.ready c.args.self.now.tickets c.args.self.now.ready = sym e ∙ ap (λ w. flagged c.args.job c.args.ready w.tickets w.ready) c.self.view_is in
    let tickets = ap (λ w. w.tickets) c.self.view_is in
    let spare = ap (λ w. w.spare) c.self.view_is in
    let pools : length c.dequeue_ready.new.queues.items ≡ c.args.self.now.pools =
    ap length c.dequeue_ready.ensures ∙ length_if (not c.args.ready) (displaced rank_before c.rank-rank.result) c.get-ticket.result.now.pool c.enqueue_ready.new.queues.items
    ∙ ap length c.enqueue_ready.ensures ∙ length_if c.args.ready (placed rank_before c.rank-rank.result) c.get-ticket.result.now.pool c.self.inside.queues.items ∙ ap (λ w. w.pools) c.self.view_is in
    cc
