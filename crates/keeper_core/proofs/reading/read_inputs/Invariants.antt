use Rattle.std.proofs.Common.{◌≡◌, ◌+◌, ◌++◌, None, drop}
use Rattle.std.specs.Option.{option_copied}
use Rattle.keeper_core.specs.Durables.{values_of}
use Rattle.keeper_core.specs.WellFormed.{first_refused, is_input}
use Rattle.keeper_core.proofs.reading.read_inputs.Given as goal

abbrev pub invariant-loop-row : goal.invariant-loop-row
invariant-loop-row l = record {
  number : l.number ≡ l.row-index + 1;
  refused : first_refused is_input (option_copied l.before) l.number (drop l.row-index l.rows) ≡ first_refused is_input None 1 l.rows;
  inputs : l.inputs ++ values_of (drop l.row-index l.rows) ≡ values_of l.rows;
}
