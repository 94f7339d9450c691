use Rattle.std.proofs.Common.{◌∙◌, ◌-◌, ◌∷◌, ap, arith, map}
use Rattle.std.proofs.lemmas.Grind.{common_steps}
use Rattle.scope_pool.specs.Layout.{IsChained, held_in, link_at, newest_first, standing}
use Rattle.scope_pool.specs.declared.scopes.Scope.{Scope}
use Rattle.scope_pool.specs.Region.{OpenScope}
use Rattle.std.proofs.lemmas.List.Elements.{All-push}
use Rattle.scope_pool.proofs.NameLaws.{ascending_push}
use Rattle.scope_pool.proofs.ScopeLaws.{newest_more, not_used, used_more}
use Rattle.scope_pool.proofs.pool.Pool.open_scope.Goals as goal

pub invariant_of-self : goal.invariant_of-self
invariant_of-self g c =
    let fresh = not_used c.self.inside.scopes.items c.self.inside.next_scope c.self.invariant.names_used in
    let newest = ap newest_first c.push_reserved.ensures.items ∙ newest_more c.self.inside.scopes.items _ in
    record {
      laid_out = c.self.invariant.laid_out;
      few = c.self.invariant.few;
      room_for_items = c.self.invariant.room_for_items;
      room_to_vacate = c.self.invariant.room_to_vacate;
      room_for_scopes = grind (arith, common_steps, c.self.invariant.room_for_scopes);
      room_to_close = grind (arith, common_steps, c.self.invariant.room_to_close);
      none_closing = c.self.invariant.none_closing;
      names_left = grind (arith, common_steps, c.self.invariant.names_left);
      names_used = rw c.push_reserved.ensures.items (used_more c.self.inside.scopes.items _ c.self.inside.next_scope c.self.invariant.names_used (grind (arith, common_steps)));
      sound = rw newest (fresh, (rw c.name_of.ensures (rw (← c.self.view_is) at c.requires.parent), c.self.invariant.sound));
      ascending = rw c.push_reserved.ensures.items (ascending_push c.self.inside.scopes.items _ c.self.invariant.ascending c.self.invariant.names_used);
      chained = rw c.push_reserved.ensures.items (All-push (λ (s : Scope). IsChained (link_at c.self.inside.slots.items) s.name s.last) c.self.inside.scopes.items _ c.self.invariant.chained (c.self.invariant.unused c.self.inside.next_scope (omega arith)));
      unused = λ t h. c.self.invariant.unused t (grind (arith, common_steps, h));
    }

pub returns-clause-fresh : goal.returns-clause-fresh
returns-clause-fresh g c = rw (← c.self.view_is) (not_used c.self.inside.scopes.items c.self.inside.next_scope c.self.invariant.names_used)

pub returns-clause-opened : goal.returns-clause-opened
returns-clause-opened g c =
    let newest = ap newest_first c.push_reserved.ensures.items ∙ newest_more c.self.inside.scopes.items _
    ∙ ap (λ p. let s : OpenScope = record { name = c.self.inside.next_scope; parent = p } in s ∷ newest_first c.self.inside.scopes.items) c.name_of.ensures in
    rw (← c.self.view_is) (λ i. record { scopes = newest i; items = standing (map held_in c.self.inside.slots.items); spare_scopes = c.self.inside.spare_scopes - 1; spare_puts = c.self.inside.spare_puts })
