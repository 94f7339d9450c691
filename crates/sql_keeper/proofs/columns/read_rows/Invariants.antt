use Rattle.std.proofs.Common.{◌≡◌, ◌++◌, drop, map}
use Rattle.sql_keeper.proofs.columns.read_rows.Given as goal

abbrev pub invariant-loop-row : goal.invariant-loop-row
invariant-loop-row g l = l.list ++ map g.T.FromRow.says (drop l.row-index l.rows) ≡ map g.T.FromRow.says l.rows
