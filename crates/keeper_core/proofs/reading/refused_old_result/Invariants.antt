use Rattle.std.proofs.Common.{◌≡◌, ◌+◌, None, drop}
use Rattle.std.specs.Option.{option_copied}
use Rattle.keeper_core.specs.WellFormed.{first_refused, is_old_result}
use Rattle.keeper_core.proofs.reading.refused_old_result.Given as goal

abbrev pub invariant-loop-row : goal.invariant-loop-row
invariant-loop-row l = record {
  number : l.number ≡ l.row-index + 1;
  refused : first_refused (is_old_result l.meta.next_job) (option_copied l.before) l.number (drop l.row-index l.rows) ≡ first_refused (is_old_result l.meta.next_job) None 1 l.rows;
}
