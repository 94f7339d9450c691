use Rattle.std.proofs.Common.{◌≡◌, drop}
use Rattle.keeper_core.specs.HeldByPath.{held_at}
use Rattle.keeper_core.proofs.mem_keepers.index_of_path.Given as goal

abbrev pub invariant-loop-tables : goal.invariant-loop-tables
invariant-loop-tables l = record {
  at : l.at ≡ l.tables-index;
  held : held_at (drop l.tables-index l.held) l.path ≡ held_at l.held l.path;
}
