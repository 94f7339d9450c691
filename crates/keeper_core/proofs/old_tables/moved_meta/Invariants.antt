use Rattle.std.proofs.Common.{◌≡◌, ◌++◌, drop, map}
use Rattle.keeper_core.specs.Migrations.{with_format}
use Rattle.keeper_core.proofs.old_tables.moved_meta.Given as goal

abbrev pub invariant-loop-row : goal.invariant-loop-row
invariant-loop-row l = l.moved.items ++ map with_format (drop l.row-index l.rows) ≡ map with_format l.rows
