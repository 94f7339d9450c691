use Rattle.std.proofs.Common.{◌≡◌, take}
use Rattle.sched_rows.proofs.rows.Rows.copy.Given as goal

abbrev pub invariant-loop-one : goal.invariant-loop-one
invariant-loop-one l = l.held.items ≡ take l.one-index l.self-inside.held.items
