use Rattle.std.proofs.Common.{◌≡◌, ◌+◌, None, drop}
use Rattle.keeper_core.specs.WellFormed.{first_refused, is_log}
use Rattle.keeper_core.proofs.reading.refused_log.Given as goal

abbrev pub invariant-loop-job : goal.invariant-loop-job
invariant-loop-job l = record {
  number : l.number ≡ l.job-index + 1;
  refused : first_refused (is_log l.meta.next_job) None l.number (drop l.job-index l.jobs) ≡ first_refused (is_log l.meta.next_job) None 1 l.jobs;
}
