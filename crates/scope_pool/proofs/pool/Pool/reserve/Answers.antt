use Rattle.std.proofs.Common.{◌≡◌, ◌∙◌, None, ap, arith, map, max}
use Rattle.std.proofs.lemmas.Grind.{common_steps}
use Rattle.scope_pool.specs.Layout.{held_in, newest_first}
use Rattle.scope_pool.proofs.ChainLaws.{chained_same}
use Rattle.scope_pool.proofs.VacatingLaws.{same_chains}
use Rattle.scope_pool.proofs.StandingLaws.{any_err, standing_same}
use Rattle.scope_pool.proofs.pool.Pool.reserve.Goals as goal

pub invariant_of-self : goal.invariant_of-self
invariant_of-self g c = record {
  laid_out = c.self.invariant.laid_out;
  few = c.self.invariant.few;
  room_for_items = c.self.invariant.room_for_items;
  room_to_vacate = c.self.invariant.room_to_vacate;
  room_for_scopes = grind (arith, common_steps);
  room_to_close = grind (arith, common_steps);
  none_closing = c.reserve_scopes.ensures.closing ∙ c.self.invariant.none_closing;
  names_left = c.self.invariant.names_left;
  names_used = rw c.reserve_scopes.ensures.scopes c.self.invariant.names_used;
  sound = rw c.reserve_scopes.ensures.scopes c.self.invariant.sound;
  ascending = rw c.reserve_scopes.ensures.scopes c.self.invariant.ascending;
  chained = rw c.reserve_scopes.ensures.scopes c.self.invariant.chained;
  unused = c.self.invariant.unused;
}

pub invariant_of-self-in_err-reserve_slots : goal.invariant_of-self-in_err-reserve_slots
invariant_of-self-in_err-reserve_slots g c =
    let after = c.in_err-reserve_slots.ensures in
    record {
      laid_out = after.laid_out;
      few = grind (arith, common_steps, after.few);
      room_for_items = grind (arith, common_steps, c.self.invariant.room_for_items, after.vacant);
      room_to_vacate = grind (arith, common_steps, after.room_to_vacate);
      room_for_scopes = grind (arith, common_steps);
      room_to_close = grind (arith, common_steps);
      none_closing = c.reserve_scopes.ensures.closing ∙ c.self.invariant.none_closing;
      names_left = c.self.invariant.names_left;
      names_used = rw c.reserve_scopes.ensures.scopes c.self.invariant.names_used;
      sound = rw c.reserve_scopes.ensures.scopes c.self.invariant.sound;
      ascending = rw c.reserve_scopes.ensures.scopes c.self.invariant.ascending;
      chained = rw c.reserve_scopes.ensures.scopes (same_chains c.self.inside.slots.items c.reserve_slots.new.slots.items c.self.inside.scopes.items after.chains c.self.invariant.chained);
      unused = λ t h. chained_same _ _ t None after.chains (c.self.invariant.unused t h);
    }

pub invariant_of-self-2 : goal.invariant_of-self-2
invariant_of-self-2 g c =
    let after = c.in_ok-reserve_slots.ensures in
    record {
      laid_out = after.laid_out;
      few = grind (arith, common_steps, after.few);
      room_for_items = grind (arith, common_steps, c.self.invariant.room_for_items, after.vacant, after.ok);
      room_to_vacate = grind (arith, common_steps, after.room_to_vacate);
      room_for_scopes = grind (arith, common_steps);
      room_to_close = grind (arith, common_steps);
      none_closing = c.reserve_scopes.ensures.closing ∙ c.self.invariant.none_closing;
      names_left = grind (arith, common_steps);
      names_used = rw c.reserve_scopes.ensures.scopes c.self.invariant.names_used;
      sound = rw c.reserve_scopes.ensures.scopes c.self.invariant.sound;
      ascending = rw c.reserve_scopes.ensures.scopes c.self.invariant.ascending;
      chained = rw c.reserve_scopes.ensures.scopes (same_chains c.self.inside.slots.items c.reserve_slots.new.slots.items c.self.inside.scopes.items after.chains c.self.invariant.chained);
      unused = λ t h. chained_same _ _ t None after.chains (c.self.invariant.unused t h);
    }

pub returns-in_err-reserve_slots-clause-err : goal.returns-in_err-reserve_slots-clause-err
returns-in_err-reserve_slots-clause-err g c =
    let scopes = ap newest_first c.reserve_scopes.ensures.scopes in
    let items = standing_same (map held_in c.reserve_slots.new.slots.items) (map held_in c.self.inside.slots.items) c.in_err-reserve_slots.ensures.places in
    any_err c.from_residual-in_err-reserve_slots.result
    (rw (← c.self.view_is) (λ i. record { scopes = scopes i; items = items i; spare_scopes = c.self.inside.spare_scopes; spare_puts = c.self.inside.spare_puts }))

pub returns-clause-ok : goal.returns-clause-ok
returns-clause-ok g c =
    let scopes = ap newest_first c.reserve_scopes.ensures.scopes in
    let items = standing_same (map held_in c.reserve_slots.new.slots.items) (map held_in c.self.inside.slots.items) c.in_ok-reserve_slots.ensures.places in
    let spare_scopes : c.max-self-inside.result ≡ max c.self.inside.spare_scopes c.args.scopes = grind (arith, common_steps, c.max-self-inside.ensures) in
    let spare_puts : c.max-self-inside-2.result ≡ max c.self.inside.spare_puts c.args.puts = grind (arith, common_steps, c.max-self-inside-2.ensures) in
    rw (← c.self.view_is) (λ i. record { scopes = scopes i; items = items i; spare_scopes = spare_scopes i; spare_puts = spare_puts i })
