use Rattle.std.proofs.Common.{◌≡◌, ◌++◌, drop}
use Rattle.std.specs.List.{flat_map}
use Rattle.session_rules.specs.StoreTexts.{result_line}
use Rattle.store_reports.proofs.rows.row_lines.Given as goal

abbrev pub invariant-loop-row : goal.invariant-loop-row
invariant-loop-row l = l.out.items ++ flat_map result_line (drop l.row-index l.tables.cache) ≡ flat_map result_line l.tables.cache
