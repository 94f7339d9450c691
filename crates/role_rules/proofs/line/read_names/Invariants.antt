use Rattle.std.proofs.Common.{◌≡◌, ◌++◌, ◌≤◌, true, length}
use Rattle.std.specs.List.{list_all}
use Rattle.value_core.specs.Names.{is_name}
use Rattle.role_rules.specs.Pieces.{pieces_after}
use Rattle.role_rules.proofs.line.read_names.Given as goal

abbrev pub invariant-names : goal.invariant-names
invariant-names l = record {
  so_far : l.names ++ pieces_after 32 l.left ≡ pieces_after 32 l.rest;
  are_names : list_all is_name l.names ≡ true;
  few : length l.names ≤ 64;
}

abbrev pub decreases-names : goal.decreases-names
decreases-names l = length l.left
