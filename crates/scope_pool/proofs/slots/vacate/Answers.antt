use Rattle.std.proofs.Common.{◌∙◌, arith, sym, subst}
use Rattle.scope_pool.specs.Layout.{IsChained, KeepsOthers, link_at}
use Rattle.scope_pool.proofs.VacatingLaws.{chain_less, last_held, left_same, none_held, others_kept}
use Rattle.scope_pool.proofs.slots.vacate.Goals as goal

pub vacate_one-scope-requires-clause-held : goal.vacate_one-scope-requires-clause-held
vacate_one-scope-requires-clause-held g c =
    last_held c.loop-scope.slots.items c.in-Some.place c.args.scope.now.name (subst (λ o. IsChained (link_at c.loop-scope.slots.items) c.args.scope.now.name o) c.in-Some.is c.loop-scope.invariant.chained)

pub loop-scope-preserved : goal.loop-scope-preserved
loop-scope-preserved g c =
    let chained = subst (λ o. IsChained (link_at c.loop-scope.slots.items) c.args.scope.now.name o) c.in-Some.is c.loop-scope.invariant.chained in
    let old = c.loop-scope.slots.items in
    let new = c.vacate_one-scope.new.slots.items in
    let after = c.vacate_one-scope.ensures in
    let kept : KeepsOthers c.args.scope.now.name old new = others_kept old new c.in-Some.place c.args.scope.now.name after.links chained in
    record {
      laid_out = after.laid_out;
      chained = chain_less old new c.in-Some.place c.args.scope.now.name c.vacate_one-scope.result after.links after.before chained;
      others = λ t last differ was. kept t last differ (c.loop-scope.invariant.others t last differ was);
      left = λ q. left_same old new c.in-Some.place c.args.scope.now.name after.left chained q ∙ c.loop-scope.invariant.left q;
      name = c.loop-scope.invariant.name;
      parent = c.loop-scope.invariant.parent;
      len = after.len ∙ c.loop-scope.invariant.len;
      vacant = omega (arith, after.vacant, c.loop-scope.invariant.vacant);
      capacity = after.capacity ∙ c.loop-scope.invariant.capacity;
    }

pub returns-clause-left : goal.returns-clause-left
returns-clause-left g c = λ q.
    let none = subst (λ o. IsChained (link_at c.loop-scope.slots.items) c.args.scope.now.name o) c.in_default.is c.loop-scope.invariant.chained in
    sym (none_held c.loop-scope.slots.items c.args.scope.now.name none q) ∙ c.loop-scope.invariant.left q
