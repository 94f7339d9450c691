use Rattle.std.proofs.Common.{◌≡◌, ◌-◌, ◌≤◌, length}
use Rattle.job_core.specs.Walks.{wants_passed}
use Rattle.job_core.specs.Wants.{triples_in}
use Rattle.job_core.proofs.wants.WantsWalk.has.Given as goal

abbrev pub invariant-loop-self : goal.invariant-loop-self
invariant-loop-self l = record {
  wants : l.self.wants ≡ l.initial.self.wants;
  passed : l.self.passed ≤ wants_passed l.triple (triples_in l.self.wants.now);
}

abbrev pub decreases-loop-self : goal.decreases-loop-self
decreases-loop-self l = length (triples_in l.self.wants.now) - l.self.passed
