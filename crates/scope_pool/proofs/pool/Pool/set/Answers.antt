use Rattle.std.proofs.Common.{◌∙◌, IsSome, None, ap, arith, map, subst}
use Rattle.std.proofs.lemmas.Grind.{common_steps}
use Rattle.std.specs.Option.{option_map}
use Rattle.scope_pool.specs.Layout.{held_in, newest_first, standing}
use Rattle.scope_pool.proofs.ChainLaws.{chained_same}
use Rattle.scope_pool.proofs.VacatingLaws.{same_chains}
use Rattle.scope_pool.proofs.StandingLaws.{get_standing, live_exchanged, standing_exchanged}
use Rattle.scope_pool.proofs.pool.Pool.set.Goals as goal

pub exchange-requires : goal.exchange-requires
exchange-requires g c = subst IsSome (get_standing (map held_in c.self.inside.slots.items) c.args.place.number) (rw (← c.self.view_is) at c.requires)

pub invariant_of-self : goal.invariant_of-self
invariant_of-self g c = record {
  laid_out = c.exchange.ensures.laid_out c.self.inside.vacant.items c.self.invariant.laid_out;
  few = grind (arith, common_steps, c.self.invariant.few, c.exchange.ensures.len);
  room_for_items = c.self.invariant.room_for_items;
  room_to_vacate = grind (arith, common_steps, c.self.invariant.room_to_vacate, c.exchange.ensures.len);
  room_for_scopes = c.self.invariant.room_for_scopes;
  room_to_close = c.self.invariant.room_to_close;
  none_closing = c.self.invariant.none_closing;
  names_left = c.self.invariant.names_left;
  names_used = c.self.invariant.names_used;
  sound = c.self.invariant.sound;
  ascending = c.self.invariant.ascending;
  chained = same_chains c.self.inside.slots.items _ c.self.inside.scopes.items c.exchange.ensures.chains c.self.invariant.chained;
  unused = λ t h. chained_same _ _ t None c.exchange.ensures.chains (c.self.invariant.unused t h);
}

pub returns-clause-old : goal.returns-clause-old
returns-clause-old g c = rw (← c.self.view_is) (ap (option_map (λ x. x.item)) (get_standing (map held_in c.self.inside.slots.items) c.args.place.number) ∙ c.exchange.ensures.old)

pub returns-clause-set : goal.returns-clause-set
returns-clause-set g c =
    let live = subst IsSome (get_standing (map held_in c.self.inside.slots.items) c.args.place.number) (rw (← c.self.view_is) at c.requires) in
    let items = ap standing c.exchange.ensures.new ∙ standing_exchanged (map held_in c.self.inside.slots.items) c.args.place.number c.args.item live in
    rw (← c.self.view_is) (λ i. record { scopes = newest_first c.self.inside.scopes.items; items = items i; spare_scopes = c.self.inside.spare_scopes; spare_puts = c.self.inside.spare_puts })

pub returns-clause-live : goal.returns-clause-live
returns-clause-live g c =
    let live = subst IsSome (get_standing (map held_in c.self.inside.slots.items) c.args.place.number) (rw (← c.self.view_is) at c.requires) in
    rw c.exchange.ensures.new (live_exchanged (map held_in c.self.inside.slots.items) c.args.place.number c.args.item live)
