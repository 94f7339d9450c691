use Rattle.std.proofs.Common.{◌∙◌, IsSome, map, subst, ap}
use Rattle.std.specs.Option.{option_map}
use Rattle.scope_pool.specs.Layout.{held_in}
use Rattle.scope_pool.proofs.StandingLaws.{get_standing}
use Rattle.scope_pool.proofs.pool.Pool.get.Goals as goal

pub item_in-requires : goal.item_in-requires
item_in-requires g c = rw c.as_slice.ensures.value (subst IsSome (get_standing (map held_in c.self.inside.slots.items) c.args.place.number) (rw (← c.self.view_is) at c.requires))

pub returns : goal.returns
returns g c =
    let item = rw c.as_slice.ensures.value at c.item_in.ensures in
    rw (← c.self.view_is) (ap (option_map (λ x. x.item)) (get_standing (map held_in c.self.inside.slots.items) c.args.place.number) ∙ item)
