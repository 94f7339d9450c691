use Rattle.std.proofs.Common.{◌∙◌, arith}
use Rattle.scope_pool.proofs.slots.add_vacant.Goals as goal

pub loop-preserved : goal.loop-preserved
loop-preserved g c = record {
  laid_out = c.add_slot.ensures.laid_out;
  len = omega arith;
  vacant = omega arith;
  capacity = c.add_slot.ensures.capacity ∙ c.loop.invariant.capacity;
  capacity_to_vacate = c.add_slot.ensures.capacity_to_vacate ∙ c.loop.invariant.capacity_to_vacate;
  places = λ place. c.add_slot.ensures.places place ∙ c.loop.invariant.places place;
  chains = λ place. c.add_slot.ensures.chains place ∙ c.loop.invariant.chains place;
}
