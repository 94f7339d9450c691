use Rattle.std.proofs.Common.{Some, refl}
use Rattle.core_rules.specs.declared.jobs.Job.{Job}
use Rattle.job_core.proofs.KeptKeys.{keys_changed}
use Rattle.job_core.proofs.live_jobs.LiveJobs.give.Goals as goal

pub invariant_of-self : goal.invariant_of-self
invariant_of-self c = rw c.give.ensures.given (keys_changed c.args.number (λ (j : Job). record j { worker = Some c.args.worker }) c.self.inside.numbered.jobs c.self.inside.numbered.spare c.self.inside.by_key.items c.self.inside.by_key.cap (λ _. refl) (λ _. refl) (λ _. refl) c.self.invariant)
