use Rattle.std.proofs.Common.{◌∙◌, ◌∷◌, [], ap, codes, sym}
use Rattle.sql_keeper.specs.inside.Indexes.{index_of}
use Rattle.sql_keeper.proofs.Indexes.{old_index_is}
use Rattle.sql_keeper.proofs.known.is_old_index.Goals as goal

pub returns-then-index-eq4-clause-is : goal.returns-then-index-eq4-clause-is
returns-then-index-eq4-clause-is c h = c.is_index.ensures.is h ∙ ap (λ n. index_of (codes "sqlite_autoindex_cache_1") 3 n (1 ∷ 2 ∷ [])) c.if-index-eq4.true ∙ old_index_is

pub returns-then-index-eq4-clause-exact : goal.returns-then-index-eq4-clause-exact
returns-then-index-eq4-clause-exact c h = c.is_index.ensures.exact (h ∙ sym old_index_is ∙ sym (ap (λ n. index_of (codes "sqlite_autoindex_cache_1") 3 n (1 ∷ 2 ∷ [])) c.if-index-eq4.true))
