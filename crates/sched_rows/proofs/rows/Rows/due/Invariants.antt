use Rattle.std.proofs.Common.{◌≡◌, map, take}
use Rattle.sched_rows.proofs.DueLaws.{names_at}
use Rattle.sched_rows.proofs.rows.Rows.due.Given as goal

abbrev pub invariant-loop-place : goal.invariant-loop-place
invariant-loop-place l = l.keys ≡ map (names_at l.self-inside.held.items) (take l.place-index l.place-items)
