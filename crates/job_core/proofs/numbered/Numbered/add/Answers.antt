use Rattle.std.proofs.Common.{◌≡◌, ◌<◌, None, sym, subst, arith}
use Rattle.core_rules.specs.Laws.{JobsBelow}
use Rattle.core_rules.specs.Settling.{live_on}
use Rattle.job_core.proofs.KeptLive.{kept_more}
use Rattle.job_core.proofs.numbered.Numbered.add.Goals as goal

pub invariant_of-self : goal.invariant_of-self
invariant_of-self c =
    let j = c.args.job in
    rw c.push_back_reserved.ensures.items (kept_more c.self.inside.jobs.items j c.self.inside.spare c.self.inside.jobs.cap c.push_back_reserved.new.self.cap
    (subst (λ l. JobsBelow j.number l.jobs) (sym c.self.view_is) c.requires.above)
    (subst (λ l. live_on l.jobs j.triple.op j.triple.key ≡ None) (sym c.self.view_is) c.requires.free)
    (subst (λ l. 0 < l.spare) (sym c.self.view_is) c.requires.room)
    (let w = c.push_back_reserved.ensures.capacity in omega arith) c.self.invariant)
