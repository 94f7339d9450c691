use Rattle.std.proofs.Common.{◌≡◌, ◌<◌, ◌+◌, true, length, ap, ◌∙◌, arith}
use Rattle.std.proofs.lemmas.List.{length-set, get_or_read}
use Rattle.std.specs.Prelude.{slice_get, slice_index}
use Rattle.fair_pool.specs.Fair.{has_ticket}
use Rattle.fair_pool.specs.Layouts.{capacity_of}
use Rattle.fair_pool.proofs.Keeps.{kept_tickets, kept_loads, length_less, capacity_small}
use Rattle.fair_pool.proofs.Picks.{pick_has, pick_below, pick_known}
use Rattle.fair_pool.proofs.pools.Pools.taken.Goals as goal
use Rattle.fair_pool.proofs.pools.Pools.taken.Goals.{After-self}

has : (c : After-self) → has_ticket c.args.job c.self.inside.waiting.tickets ≡ true
has c = ap (λ p. has_ticket c.args.job p.fair.tickets) c.self.view_is ∙ pick_has c.args.self.now c.args.now c.args.worker c.args.job c.requires

pub remove-ticket-requires : goal.remove-ticket-requires
remove-ticket-requires c = has (goal.at.remove-ticket-requires c).After-self

pub index_mut-requires : goal.index_mut-requires
index_mut-requires c =
    let known = pick_known c.args.self.now c.args.now c.args.worker c.args.job c.requires in
    let n = ap (λ p. length p.layout.workers) c.self.view_is in
    omega (arith, c.self.invariant.loads, c.self.inside.loads.ok.0)

pub overflow_add-index_mut : goal.overflow_add-index_mut
overflow_add-index_mut c =
    let p = c.args.self.now in
    let below = pick_below p c.args.now c.args.worker c.args.job c.requires in
    let small = capacity_small c.self.inside.declared.pools c.self.inside.declared.workers c.args.worker c.self.invariant.layout.workers in
    let same = ap (λ q. capacity_of (slice_get q.layout.workers c.args.worker)) c.self.view_is in
    let loads = ap (λ q. slice_index q.loads c.args.worker) c.self.view_is in
    let known = pick_known p c.args.now c.args.worker c.args.job c.requires in
    let n = ap (λ q. length q.layout.workers) c.self.view_is in
    let within : c.args.worker < length c.self.inside.loads.items = omega (arith, c.self.invariant.loads) in
    let read = get_or_read c.self.inside.loads.items c.args.worker c.index_mut.result.now within c.index_mut.ensures.value 0 in
    omega arith

pub invariant_of-self : goal.invariant_of-self
invariant_of-self c =
    let ts = c.self.inside.waiting in
    let us = c.remove-ticket.new.self in
    let few = length_less c.args.job ts.tickets (has (goal.at.invariant_of-self c).After-self) in
    let n = ap (λ w. length w.tickets) c.remove-ticket.ensures.left in
    let m = ap (λ w. w.spare) c.remove-ticket.ensures.left in
    kept_loads c.self.inside.declared us _ _ _ c.self.inside.loads.items _ _
    (kept_tickets c.self.inside.declared ts us _ _ _ _ _ c.note_hint.new.hints.room c.self.invariant (ap (λ w. w.pools) c.remove-ticket.ensures.left) (omega (arith, c.self.invariant.hints, c.note_hint.ensures.room)))
    (length-set c.self.inside.loads.items c.args.worker (c.index_mut.result.now + 1))
