use Rattle.std.proofs.Common.{◌≡◌, ◌++◌, ◌∷◌, []}
use Rattle.scope_pool.proofs.SlotLaws.{laid_out-put, held_in-set, last_vacant, link_in-set}
use Rattle.scope_pool.proofs.slots.fill.Goals as goal

pub returns-clause-laid_out : goal.returns-clause-laid_out
returns-clause-laid_out g c =
    let items : c.args.vacant.now.items ≡ c.pop.new.self.items ++ c.in-Some.number ∷ [] = rw c.in-Some.is at c.pop.ensures.items in
    laid_out-put _ _ _ _ _ _ (rw items at c.requires.laid_out)

pub returns-clause-was_vacant : goal.returns-clause-was_vacant
returns-clause-was_vacant g c =
    let items : c.args.vacant.now.items ≡ c.pop.new.self.items ++ c.in-Some.number ∷ [] = rw c.in-Some.is at c.pop.ensures.items in
    last_vacant _ _ _ (rw items at c.requires.laid_out)

pub returns-clause-filled : goal.returns-clause-filled
returns-clause-filled g c = held_in-set c.args.slots.now.items c.in-Some.number _

pub returns-clause-chained : goal.returns-clause-chained
returns-clause-chained g c = link_in-set c.args.slots.now.items c.in-Some.number _
