use Rattle.std.proofs.Common.{◌≡◌, ◌++◌, map, pos, take, drop}
use Rattle.keeper_core.specs.Commits.{with_next}
use Rattle.keeper_core.proofs.mem_tables.number.Given as goal

abbrev pub invariant-loop-row : goal.invariant-loop-row
invariant-loop-row l = l.meta ≡ map (with_next (pos l.next)) (take l.row-index l.initial.meta) ++ drop l.row-index l.initial.meta
