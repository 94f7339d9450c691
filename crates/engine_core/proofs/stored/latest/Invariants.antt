use Rattle.std.proofs.Common.{◌≡◌, map, drop}
use Rattle.sched_rows.specs.Holding.{row_entry}
use Rattle.core_rules.specs.Openings.{latest}
use Rattle.engine_core.proofs.stored.latest.Given as goal

abbrev pub invariant-loop-held : goal.invariant-loop-held
invariant-loop-held l = latest l.latest (map row_entry (drop l.held-index l.rows)) ≡ latest l.moment (map row_entry l.rows)
