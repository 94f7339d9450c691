use Rattle.scope_pool.specs.Layout.{newest_first}
use Rattle.scope_pool.proofs.Nesting.{nested_by_parents}
use Rattle.scope_pool.proofs.pool.scopes_law.Goals as goal

pub returns-clause-nested : goal.returns-clause-nested
returns-clause-nested g c = rw (← c.pool.view_is) (nested_by_parents (newest_first c.pool.inside.scopes.items) c.pool.invariant.sound)
