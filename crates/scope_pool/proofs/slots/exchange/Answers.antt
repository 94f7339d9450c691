use Rattle.std.proofs.Common.{arith}
use Rattle.std.proofs.lemmas.Grind.{common_steps}
use Rattle.scope_pool.proofs.SlotLaws.{live_slot, held_in-set, held_in-at, held_in_with, laid_out-set, link-exchanged}
use Rattle.scope_pool.proofs.slots.exchange.Goals as goal

pub returns-clause-new : goal.returns-clause-new
returns-clause-new g c =
    let live = live_slot c.args.slots.now.items c.args.place c.requires in
    rw (held_in-at c.args.slots.now.items c.args.place c.index_mut-slot.result.now live.0, ← held_in_with, ← c.index_mut-slot.ensures.value, ← c.exchange.ensures.new) (held_in-set c.args.slots.now.items c.args.place _)

pub returns-clause-laid_out : goal.returns-clause-laid_out
returns-clause-laid_out g c = λ vacant l.
    let live = live_slot c.args.slots.now.items c.args.place c.requires in
    rw c.exchange.ensures.new (laid_out-set c.args.slots.now.items vacant c.args.place c.args.item c.index_mut-slot.result.now l live.0 (λ d. rw c.index_mut-slot.ensures.value (grind (arith, common_steps, live.0))) (rw c.index_mut-slot.ensures.value (live.1 c.index_mut-slot.result.now)))

pub returns-clause-chains : goal.returns-clause-chains
returns-clause-chains g c =
    let live = live_slot c.args.slots.now.items c.args.place c.requires in
    rw c.exchange.ensures.new (link-exchanged c.args.slots.now.items c.args.place c.args.item c.index_mut-slot.result.now (λ d. rw c.index_mut-slot.ensures.value (grind (arith, common_steps, live.0))))
