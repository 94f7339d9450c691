use Rattle.std.proofs.Common.{subst}
use Rattle.core_rules.specs.Laws.{OneEach}
use Rattle.job_core.proofs.live_jobs.LiveJobs.key_rank_of.Goals as goal

pub returns-in-None-clause-one_each : goal.returns-in-None-clause-one_each
returns-in-None-clause-one_each c = subst (λ l. OneEach l.jobs) c.self.view_is c.self.invariant.live.one_each
