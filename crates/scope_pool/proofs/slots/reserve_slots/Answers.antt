use Rattle.scope_pool.proofs.slots.reserve_slots.Goals as goal

pub returns-clause-places : goal.returns-clause-places
returns-clause-places g c = λ place. rw (← c.in_ok-reserve.ensures.items) (c.add_vacant.ensures.places place)

pub returns-clause-chains : goal.returns-clause-chains
returns-clause-chains g c = λ place. rw (← c.in_ok-reserve.ensures.items) (c.add_vacant.ensures.chains place)
