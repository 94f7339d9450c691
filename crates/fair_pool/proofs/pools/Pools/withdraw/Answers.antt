use Rattle.std.proofs.Common.{length, ap, arith}
use Rattle.fair_pool.proofs.Keeps.{kept_tickets, length_without}
use Rattle.fair_pool.proofs.pools.Pools.withdraw.Goals as goal

pub invariant_of-self : goal.invariant_of-self
invariant_of-self c =
    let ts = c.self.inside.waiting in
    let us = c.remove-ticket.new.self in
    let few = length_without c.args.job ts.tickets in
    let n = ap (λ w. length w.tickets) c.remove-ticket.ensures.left in
    let m = ap (λ w. w.spare) c.remove-ticket.ensures.left in
    kept_tickets c.self.inside.declared ts us _ _ _ _ _ _ c.self.invariant (ap (λ w. w.pools) c.remove-ticket.ensures.left) (omega (arith, c.self.invariant.hints))
