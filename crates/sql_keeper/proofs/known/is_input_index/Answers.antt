use Rattle.std.proofs.Common.{◌∙◌, ◌∷◌, [], ap, codes, sym}
use Rattle.sql_keeper.specs.inside.Indexes.{index_of}
use Rattle.sql_keeper.proofs.Indexes.{input_index_is}
use Rattle.sql_keeper.proofs.known.is_input_index.Goals as goal

pub returns-then-index-eq2-clause-is : goal.returns-then-index-eq2-clause-is
returns-then-index-eq2-clause-is c h = c.is_index.ensures.is h ∙ ap (λ n. index_of (codes "sqlite_autoindex_inputs_1") 1 n (1 ∷ [])) c.if-index-eq2.true ∙ input_index_is

pub returns-then-index-eq2-clause-exact : goal.returns-then-index-eq2-clause-exact
returns-then-index-eq2-clause-exact c h = c.is_index.ensures.exact (h ∙ sym input_index_is ∙ sym (ap (λ n. index_of (codes "sqlite_autoindex_inputs_1") 1 n (1 ∷ [])) c.if-index-eq2.true))
