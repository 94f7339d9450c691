use Rattle.std.proofs.Common.{◌∙◌, ap}
use Rattle.keeper_core.specs.declared.stored.Stored.TheVariants.{Current}
use Rattle.sql_keeper.proofs.Reading.{on_ok_then}
use Rattle.sql_keeper.proofs.Stores.{stored_current}
use Rattle.sql_keeper.proofs.commits.make_delta.Goals as goal

pub returns-clause-made : goal.returns-clause-made
returns-clause-made g c clean = on_ok_then c.make_changes.result _ _ (λ it. (it.0, it.1, stored_current _ it.1.database ∙ ap Current it.1.contents)) (c.make_changes.ensures.made clean)
