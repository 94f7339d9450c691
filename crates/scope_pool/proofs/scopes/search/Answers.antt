use Rattle.std.proofs.Common.{rules, of_calls}
use Rattle.std.proofs.lemmas.Fn.{always_returns_same}
use Rattle.std.specs.Ordering.{nat_cmp}
use Rattle.scope_pool.proofs.NameLaws.{found_by}
use Rattle.scope_pool.proofs.scopes.search.Goals as goal

pub returns : goal.returns
returns c =
    found_by c.args.name c.args.scopes.now c.requires c.binary_search_by.result c.binary_search_by.ensures.bound
    (c.binary_search_by.ensures.position (λ s. nat_cmp s.name c.args.name) (always_returns_same _ _ _ (λ a r f k. search (rules, of_calls))))
