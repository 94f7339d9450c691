use Rattle.std.proofs.Common.{arith}
use Rattle.std.proofs.lemmas.Grind.{common_steps}
use Rattle.scope_pool.proofs.SlotLaws.{laid_out-added, link-added, seen-added}
use Rattle.scope_pool.proofs.slots.add_slot.Goals as goal

pub returns-clause-laid_out : goal.returns-clause-laid_out
returns-clause-laid_out g c = rw (c.push_reserved.ensures.items, c.push_reserved-2.ensures.items) (laid_out-added _ _ c.len.result c.len-number.result (grind (arith, common_steps)) (grind (arith, common_steps)) c.requires.laid_out)

pub returns-clause-places : goal.returns-clause-places
returns-clause-places g c = λ place. rw c.push_reserved.ensures.items (seen-added c.args.slots.now.items c.len.result place)

pub returns-clause-chains : goal.returns-clause-chains
returns-clause-chains g c = λ place. rw c.push_reserved.ensures.items (link-added c.args.slots.now.items c.len.result place)
