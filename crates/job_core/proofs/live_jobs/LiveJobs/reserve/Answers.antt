use Rattle.std.proofs.Common.{sym, arith, subst}
use Rattle.job_core.specs.Keys.{AreKeysKept}
use Rattle.job_core.proofs.KeptKeys.{keys_length, keys_reserved}
use Rattle.job_core.proofs.live_jobs.LiveJobs.reserve.Goals as goal

pub invariant_of-self-2 : goal.invariant_of-self-2
invariant_of-self-2 c =
    let h = c.self.invariant in
    let old = c.self.inside.numbered in
    let l = keys_length old.jobs old.spare c.self.inside.by_key.items c.self.inside.by_key.cap h in
    let room = h.live.room in
    let grown = c.reserve.ensures.capacity in
    let fits = c.in_ok-reserve.ensures.ok in
    subst (λ ns. AreKeysKept c.reserve-2.new.self.jobs c.reserve-2.new.self.spare ns c.reserve.new.self.cap) (sym c.reserve.ensures.items)
    (keys_reserved old (c.reserve-2.new.self) c.self.inside.by_key.items c.self.inside.by_key.cap c.reserve.new.self.cap c.args.more c.reserve-2.result c.reserve-2.ensures.ok c.reserve-2.ensures.err (omega (arith, c.self.inside.by_key.ok.0)) grown h)
