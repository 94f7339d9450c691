use Rattle.std.proofs.Common.{◌≡◌, ◌-◌, ◌≤◌, length}
use Rattle.job_core.specs.Keys.{by_keys, key_rank}
use Rattle.job_core.proofs.live_jobs.LiveWalk.on.Given as goal

abbrev pub invariant-loop-self : goal.invariant-loop-self
invariant-loop-self l = record {
  live : l.self.live ≡ l.initial.self.live;
  passed : l.self.passed ≤ key_rank l.op l.key l.self.live.now.jobs;
}

abbrev pub decreases-loop-self : goal.decreases-loop-self
decreases-loop-self l = length (by_keys l.self.live.now.jobs) - l.self.passed
