use Rattle.std.proofs.Common.{length, subst, ap, arith}
use Rattle.core_rules.specs.Laws.{OneEach, Rising}
use Rattle.job_core.proofs.KeptKeys.{keys_length}
use Rattle.job_core.proofs.live_jobs.LiveJobs.len.Goals as goal

pub returns-clause-len : goal.returns-clause-len
returns-clause-len c =
    let l = keys_length c.self.inside.numbered.jobs c.self.inside.numbered.spare c.self.inside.by_key.items c.self.inside.by_key.cap c.self.invariant in
    let v = ap (λ l. length l.jobs) c.self.view_is in
    omega (arith, c.len.ensures, c.self.inside.by_key.ok.0)

pub returns-clause-rising : goal.returns-clause-rising
returns-clause-rising c = subst (λ l. Rising l.jobs) c.self.view_is c.self.invariant.live.rising

pub returns-clause-one_each : goal.returns-clause-one_each
returns-clause-one_each c = subst (λ l. OneEach l.jobs) c.self.view_is c.self.invariant.live.one_each
