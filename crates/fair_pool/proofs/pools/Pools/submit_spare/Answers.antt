use Rattle.std.proofs.Common.{◌≤◌, ◌∙◌, length, ap, subst, sym, arith}
use Rattle.std.proofs.lemmas.List.{length-set}
use Rattle.fair_pool.proofs.Keeps.{kept_tickets, kept_next, length_with}
use Rattle.fair_pool.proofs.pools.Pools.submit_spare.Goals as goal

pub invariant_of-self : goal.invariant_of-self
invariant_of-self c =
    let ts = c.self.inside.waiting in
    let us = c.add.new.self in
    let ns = c.self.inside.next.items in
    let n = ap (λ w. length w.tickets) c.add.ensures ∙ length_with _ ts.tickets in
    let m = ap (λ w. w.spare) c.add.ensures in
    let r : 1 ≤ ts.spare = subst (λ p. 1 ≤ p.spare) (sym c.self.view_is) c.requires.room in
    kept_next c.self.inside.declared us ns _ _ _ _ _
    (kept_tickets c.self.inside.declared ts us _ _ _ _ _ _ c.self.invariant (ap (λ w. w.pools) c.add.ensures) (omega (arith, c.self.invariant.hints)))
    (length-set ns c.client_number-client.result c.saturating_add.result)
