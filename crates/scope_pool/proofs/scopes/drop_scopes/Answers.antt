use Rattle.std.proofs.Common.{length, get_or, ◌<◌, ◌≡◌, rules, arith, ◌∙◌}
use Rattle.std.proofs.lemmas.Fn.{filter_same}
use Rattle.std.proofs.lemmas.Grind.{common_steps}
use Rattle.scope_pool.specs.declared.scopes.Scope.{Scope}
use Rattle.scope_pool.proofs.NameLaws.{removed_one}
use Rattle.scope_pool.proofs.scopes.drop_scopes.Goals as goal

pub returns-in_default-clause-left : goal.returns-in_default-clause-left
returns-in_default-clause-left c = filter_same _ _ _ (λ x b f' k. search rules) _ _ c.retain.ensures.filtered

pub returns-in-len1-clause-left : goal.returns-in-len1-clause-left
returns-in-len1-clause-left c =
    let one : length c.args.closing.now ≡ 1 = grind (arith, common_steps, c.in-len1.len_at_least, c.in-len1.len_below) in
    let within : c.index_of-index.result < length c.args.scopes.now.items = grind (arith, common_steps, c.index_of-index.ensures.within) in
    let named : (d : Scope) → (get_or c.args.scopes.now.items c.index_of-index.result d).name ≡ get_or c.args.closing.now 0 0 = λ d. grind (arith, common_steps, one, c.index_of-index.ensures.named d, c.as_slice.ensures.value) in
    c.remove-closed.ensures.items ∙ removed_one c.args.closing.now c.args.scopes.now.items c.index_of-index.result one c.requires.ascending within named
