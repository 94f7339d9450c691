use Rattle.scope_pool.specs.declared.slots.Slot.TheVariants.{Vacant}
use Rattle.scope_pool.proofs.SlotLaws.{held_in-set, link_in-set}
use Rattle.scope_pool.proofs.slots.vacate_one.Goals as goal

pub returns-clause-left : goal.returns-clause-left
returns-clause-left g c = held_in-set c.args.slots.now.items c.args.place (Vacant c.len.result)

pub returns-clause-links : goal.returns-clause-links
returns-clause-links g c = link_in-set c.args.slots.now.items c.args.place (Vacant c.len.result)
