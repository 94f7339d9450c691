use Rattle.std.proofs.Common.{◌≤ℤ◌}
use Rattle.sched_rows.proofs.InstantLaws.{NoneBefore}
use Rattle.sched_rows.proofs.schedule.next_monthly.Given as goal

abbrev pub invariant-loop-d : goal.invariant-loop-d
invariant-loop-d l = record {
  reached : l.first ≤ℤ l.d;
  none : NoneBefore l.day l.first l.d;
}
