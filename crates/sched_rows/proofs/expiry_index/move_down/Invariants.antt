use Rattle.std.proofs.Common.{◌≡◌, ◌++◌, map, take, drop}
use Rattle.sched_rows.specs.Ends.{moved_down}
use Rattle.sched_rows.proofs.expiry_index.move_down.Given as goal

abbrev pub invariant-loop-end : goal.invariant-loop-end
invariant-loop-end l = l.ends ≡ map (moved_down l.from) (take l.end-index l.initial.ends) ++ drop l.end-index l.initial.ends
