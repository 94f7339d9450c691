use Rattle.std.proofs.Common.{◌≡◌, ◌+◌, ◌≤◌, drop}
use Rattle.term_core.specs.Counts.{count_of}
use Rattle.visit_rules.proofs.counting.counted.Given as goal

abbrev pub invariant-loop-want : goal.invariant-loop-want
invariant-loop-want l = record {
  counted : l.count + count_of (drop l.want-index l.wants) l.triple ≡ count_of l.wants l.triple;
  few : l.count ≤ l.want-index;
}
