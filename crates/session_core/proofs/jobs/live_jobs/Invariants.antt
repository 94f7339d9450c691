use Rattle.std.proofs.Common.{drop, map}
use Rattle.session_core.proofs.ShownJobs.{AreBefore}
use Rattle.session_core.proofs.jobs.live_jobs.Given as goal

abbrev pub invariant-loop-job : goal.invariant-loop-job
invariant-loop-job l = AreBefore l.engine.core (map (λ j. j.now) (drop l.job-index l.job-items)) l.live
