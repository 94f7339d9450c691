use Rattle.std.proofs.Common.{◌≡◌, ◌<◌, [], arith}
use Rattle.std.proofs.lemmas.Grind.{common_steps}
use Rattle.std.proofs.lemmas.List.Elements.{All-filter}
use Rattle.scope_pool.specs.Layout.{IsChained, found_from, link_at, newest_first}
use Rattle.scope_pool.specs.declared.scopes.Scope.{Scope}
use Rattle.scope_pool.proofs.Closing.{items_closed, scopes_closed}
use Rattle.scope_pool.proofs.NameLaws.{ascending_filter}
use Rattle.scope_pool.proofs.ScopeLaws.{found_open, sound_closed}
use Rattle.scope_pool.proofs.pool.Pool.close_scope.Goals as goal

pub vacate_all-requires-clause-open : goal.vacate_all-requires-clause-open
vacate_all-requires-clause-open g c =
    let found : c.as_slice-2.result.now ≡ found_from c.args.scope.name [] c.self.inside.scopes.items = grind (arith, common_steps) in
    rw found (found_open c.args.scope.name c.self.inside.scopes.items)

pub drop_scopes-requires-clause-ascending : goal.drop_scopes-requires-clause-ascending
drop_scopes-requires-clause-ascending g c = c.vacate_all.ensures.scopes.ascending c.self.invariant.ascending

pub drop_scopes-requires-clause-open : goal.drop_scopes-requires-clause-open
drop_scopes-requires-clause-open g c =
    let found : c.as_slice-3.result.now ≡ found_from c.args.scope.name [] c.self.inside.scopes.items = grind (arith, common_steps) in
    rw (found, c.vacate_all.ensures.scopes.seen) (found_open c.args.scope.name c.self.inside.scopes.items)

pub invariant_of-self : goal.invariant_of-self
invariant_of-self g c =
    let kept = c.vacate_all.ensures.scopes in
    let found : c.as_slice-3.result.now ≡ found_from c.args.scope.name [] c.self.inside.scopes.items = grind (arith, common_steps) in
    let left = scopes_closed c.args.scope.name c.self.inside.scopes.items c.vacate_all.new.scopes.items _ c.as_slice-3.result.now c.self.invariant.sound found kept.seen c.drop_scopes.ensures.left in
    record {
      laid_out = c.vacate_all.ensures.laid_out;
      few = grind (arith, common_steps, c.self.invariant.few, c.vacate_all.ensures.len);
      room_for_items = grind (arith, common_steps, c.self.invariant.room_for_items, c.vacate_all.ensures.vacant);
      room_to_vacate = grind (arith, common_steps, c.self.invariant.room_to_vacate, c.vacate_all.ensures.len, c.vacate_all.ensures.capacity);
      room_for_scopes = grind (arith, common_steps, c.self.invariant.room_for_scopes, kept.len, c.drop_scopes.ensures.len, c.drop_scopes.ensures.capacity, c.vacate_all.ensures.scopes_capacity);
      room_to_close = grind (arith, common_steps, c.self.invariant.room_to_close, kept.len, c.drop_scopes.ensures.len);
      none_closing = c.clear.ensures.items;
      names_left = c.self.invariant.names_left;
      names_used = let below = All-filter _ (λ (s : Scope). s.name < c.self.inside.next_scope) _ (kept.used c.self.inside.next_scope c.self.invariant.names_used) in rw c.drop_scopes.ensures.left below;
      sound = rw left (sound_closed c.args.scope.name (newest_first c.self.inside.scopes.items) c.self.invariant.sound);
      ascending = rw c.drop_scopes.ensures.left (ascending_filter _ c.vacate_all.new.scopes.items (kept.ascending c.self.invariant.ascending));
      chained =
          let chained = All-filter _ (λ (s : Scope). IsChained (link_at c.vacate_all.new.slots.items) s.name s.last) _ c.vacate_all.ensures.chained in
          rw c.drop_scopes.ensures.left chained;
      unused = λ t h. c.vacate_all.ensures.unused t (c.self.invariant.unused t h);
    }

pub returns : goal.returns
returns g c =
    let found : c.as_slice-2.result.now ≡ found_from c.args.scope.name [] c.self.inside.scopes.items = grind (arith, common_steps) in
    let found_again : c.as_slice-3.result.now ≡ found_from c.args.scope.name [] c.self.inside.scopes.items = grind (arith, common_steps) in
    let scopes = scopes_closed c.args.scope.name c.self.inside.scopes.items c.vacate_all.new.scopes.items _ c.as_slice-3.result.now c.self.invariant.sound found_again c.vacate_all.ensures.scopes.seen c.drop_scopes.ensures.left in
    let items = items_closed c.args.scope.name c.self.inside.scopes.items c.self.inside.slots.items _ c.as_slice-2.result.now c.self.invariant.sound found c.vacate_all.ensures.left in
    rw (← c.self.view_is) (λ i. record { scopes = scopes i; items = items i; spare_scopes = c.self.inside.spare_scopes; spare_puts = c.self.inside.spare_puts })
