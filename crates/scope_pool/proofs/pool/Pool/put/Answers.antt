use Rattle.std.proofs.Common.{◌≡◌, ◌==◌, ◌∙◌, ◌-◌, ◌<◌, Some, None, false, get_or, length, ap, arith, map, subst, sym}
use Rattle.std.proofs.lemmas.Bool.Decides.{nat_tests}
use Rattle.std.proofs.lemmas.Grind.{common_steps}
use Rattle.scope_pool.specs.Layout.{IsChained, KeepsOthers, held_in, link_at, standing}
use Rattle.scope_pool.specs.declared.scopes.Scope.{Scope}
use Rattle.scope_pool.proofs.NameLaws.{chained_set, keeps_set}
use Rattle.scope_pool.proofs.StandingLaws.{get_standing, live_put, standing_set}
use Rattle.scope_pool.proofs.VacatingLaws.{put_chained, put_others}
use Rattle.scope_pool.proofs.pool.Pool.put.Goals as goal

pub invariant_of-self : goal.invariant_of-self
invariant_of-self g c =
    let filled = c.fill-number.ensures in
    let number = c.fill-number.result in
    let i = c.index_of-index.result in
    let scopes = c.self.inside.scopes.items in
    let old = c.self.inside.slots.items in
    let new = c.fill-number.new.slots.items in
    let x = c.index_mut.result.now in
    let y = c.index.result.now in
    let within : i < length scopes = grind (arith, common_steps, c.index_of-index.ensures.within) in
    let is : (d : Scope) → get_or scopes i d ≡ x = λ d. rw c.index_mut.ensures.value (grind (arith, common_steps, within)) in
    let same : x ≡ y = sym (is x) ∙ grind (arith, common_steps, within) in
    let name : x.name ≡ c.args.scope.name = grind (arith, common_steps, is x, c.index_of-index.ensures.named x, c.as_slice.ensures.value) in
    let kept = keeps_set scopes i x (Some number) within is in
    let was : IsChained (link_at old) x.name x.last = subst (λ (s : Scope). IsChained (link_at old) s.name s.last) (is x) (c.self.invariant.chained i x within) in
    let chained : IsChained (link_at old) c.args.scope.name y.last = subst (λ n. IsChained (link_at old) n y.last) name (subst (λ (s : Scope). IsChained (link_at old) x.name s.last) same was) in
    let inside : number < length old = grind (arith, common_steps, filled.within) in
    let here : IsChained (link_at new) x.name (Some number) =
    subst (λ n. IsChained (link_at new) n (Some number)) (sym name) (put_chained old new number c.args.scope.name y.last filled.chained filled.was_vacant inside chained) in
    let others : KeepsOthers c.args.scope.name old new = put_others old new number c.args.scope.name y.last filled.chained filled.was_vacant inside in
    let used : x.name < c.self.inside.next_scope = subst (λ (s : Scope). s.name < c.self.inside.next_scope) (is x) (c.self.invariant.names_used i x within) in
    record {
      laid_out = filled.laid_out;
      few = grind (arith, common_steps, c.self.invariant.few, filled.len);
      room_for_items = grind (arith, common_steps, c.self.invariant.room_for_items, filled.vacant);
      room_to_vacate = grind (arith, common_steps, c.self.invariant.room_to_vacate, filled.len, filled.capacity);
      room_for_scopes = grind (arith, common_steps, c.self.invariant.room_for_scopes, kept.len);
      room_to_close = grind (arith, common_steps, c.self.invariant.room_to_close, kept.len);
      none_closing = c.self.invariant.none_closing;
      names_left = c.self.invariant.names_left;
      names_used = kept.used c.self.inside.next_scope c.self.invariant.names_used;
      sound = rw kept.seen c.self.invariant.sound;
      ascending = kept.ascending c.self.invariant.ascending;
      chained = chained_set old new scopes i x (Some number) c.self.invariant.ascending within is (subst (λ n. KeepsOthers n old new) (sym name) others) here c.self.invariant.chained;
      unused = λ t h.
          let differ : (t == c.args.scope.name) ≡ false = grind (arith, nat_tests, used, name, h) in
          others t None differ (c.self.invariant.unused t h);
    }

pub returns-clause-fresh : goal.returns-clause-fresh
returns-clause-fresh g c = rw (← c.self.view_is) (get_standing (map held_in c.self.inside.slots.items) c.fill-number.result ∙ c.fill-number.ensures.was_vacant)

pub returns-clause-put : goal.returns-clause-put
returns-clause-put g c =
    let scopes = c.self.inside.scopes.items in
    let i = c.index_of-index.result in
    let x = c.index_mut.result.now in
    let within : i < length scopes = grind (arith, common_steps, c.index_of-index.ensures.within) in
    let kept = keeps_set scopes i x (Some c.fill-number.result) within (λ d. rw c.index_mut.ensures.value (grind (arith, common_steps, within))) in
    let items = ap standing c.fill-number.ensures.filled ∙ standing_set (map held_in c.self.inside.slots.items) c.fill-number.result _ (grind (arith, common_steps, c.fill-number.ensures.within)) in
    rw (← c.self.view_is) (λ i. record { scopes = kept.seen i; items = items i; spare_scopes = c.self.inside.spare_scopes; spare_puts = c.self.inside.spare_puts - 1 })

pub returns-clause-live : goal.returns-clause-live
returns-clause-live g c = rw c.fill-number.ensures.filled (live_put (map held_in c.self.inside.slots.items) c.fill-number.result _ (grind (arith, common_steps, c.fill-number.ensures.within)))
