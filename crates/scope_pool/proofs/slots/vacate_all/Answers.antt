use Rattle.std.proofs.Common.{◌≡◌, ◌==◌, ◌∙◌, ◌<◌, suc, drop, add-one, length, None, get_or, arith, ap, sym, subst}
use Rattle.std.proofs.lemmas.Grind.{common_steps}
use Rattle.scope_pool.specs.Layout.{IsChained, among, held_at, left_by, link_at}
use Rattle.scope_pool.specs.declared.scopes.Scope.{Scope}
use Rattle.scope_pool.proofs.NameLaws.{chained_set, keeps_set, keeps_then}
use Rattle.scope_pool.proofs.VacatingLaws.{left_end, left_step, none_kept}
use Rattle.scope_pool.proofs.slots.vacate_all.Goals as goal

pub vacate-requires-clause-chained : goal.vacate-requires-clause-chained
vacate-requires-clause-chained g c =
    let x = c.index_mut.result.now in
    let is : get_or c.loop-name.scopes.items c.index_of-index.result x ≡ x = rw c.index_mut.ensures.value (grind (arith, common_steps, c.index_of-index.ensures.within)) in
    subst (λ (s : Scope). IsChained (link_at c.loop-name.slots.items) s.name s.last) is (c.loop-name.invariant.chained c.index_of-index.result x (grind (arith, common_steps, c.index_of-index.ensures.within)))

pub loop-name-preserved : goal.loop-name-preserved
loop-name-preserved g c =
    let x = c.index_mut.result.now in
    let i = c.index_of-index.result in
    let old = c.loop-name.slots.items in
    let new = c.vacate.new.slots.items in
    let k = c.loop-name.name-index in
    let after = c.vacate.ensures in
    let is : (d : Scope) → get_or c.loop-name.scopes.items i d ≡ x = λ d. rw c.index_mut.ensures.value (grind (arith, common_steps, c.index_of-index.ensures.within)) in
    let within : i < length c.loop-name.scopes.items = grind (arith, common_steps, c.index_of-index.ensures.within) in
    let up = c.loop-name.invariant.scopes.ascending c.requires.ascending in
    let name : x.name ≡ get_or c.args.closing.now k 0 = grind (arith, common_steps, is x, c.index_of-index.ensures.named x, c.as_slice.ensures.value) in
    record {
      laid_out = after.laid_out;
      chained = rw after.scope (chained_set old new c.loop-name.scopes.items i x None up within is after.others after.chained c.loop-name.invariant.chained);
      unused = λ t h. none_kept old new x.name t after.chained after.others (c.loop-name.invariant.unused t h);
      left = λ q.
          rw add-one (ap (left_by (among (drop (suc k) c.args.closing.now))) (after.left q ∙ ap (λ m. left_by (λ n. n == m) (held_at old q)) name)
          ∙ left_step c.args.closing.now k 0 (held_at old q) (grind (arith, common_steps)) ∙ c.loop-name.invariant.left q);
      scopes = rw after.scope (keeps_then c.args.scopes.now.items c.loop-name.scopes.items _ c.loop-name.invariant.scopes (keeps_set c.loop-name.scopes.items i x None within is));
      scopes_capacity = c.loop-name.invariant.scopes_capacity;
      len = after.len ∙ c.loop-name.invariant.len;
      vacant = omega (arith, after.vacant, c.loop-name.invariant.vacant);
      capacity = after.capacity ∙ c.loop-name.invariant.capacity;
    }

pub returns-clause-left : goal.returns-clause-left
returns-clause-left g c = λ q. sym (left_end c.args.closing.now c.loop-name.name-index (held_at c.loop-name.slots.items q) (grind (arith, common_steps))) ∙ c.loop-name.invariant.left q
