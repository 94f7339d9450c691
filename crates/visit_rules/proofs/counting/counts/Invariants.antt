use Rattle.std.proofs.Common.{◌≡◌, ◌≤◌, drop, length, map}
use Rattle.visit_rules.specs.Visits.{tally}
use Rattle.visit_rules.proofs.counting.counts.Given as goal

abbrev pub invariant-loop-left : goal.invariant-loop-left
invariant-loop-left l = record {
  within : l.left ≤ length l.wants;
  so_far : map (λ e. (e.0.now, e.1)) l.counts.entries ≡ tally (drop l.left l.wants);
}

abbrev pub decreases-loop-left : goal.decreases-loop-left
decreases-loop-left l = l.left
