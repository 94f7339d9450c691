use Rattle.std.proofs.Common.{◌≡◌, ◌<◌, None, sym, ap, ◌∙◌, subst, arith}
use Rattle.core_rules.specs.Laws.{JobsBelow}
use Rattle.core_rules.specs.Settling.{live_on}
use Rattle.job_core.specs.Keys.{key_rank}
use Rattle.job_core.proofs.KeptKeys.{keys_length, keys_more, rank_fits}
use Rattle.job_core.proofs.live_jobs.LiveJobs.add.Goals as goal
use Rattle.job_core.proofs.live_jobs.LiveJobs.add.Goals.{After-key_rank-at}

at : (c : After-key_rank-at) → c.key_rank-at.result ≡ key_rank c.args.job.triple.op c.args.job.triple.key c.self.inside.numbered.jobs
at c = c.key_rank-at.ensures.rank ∙ ap (λ l. key_rank c.args.job.triple.op c.args.job.triple.key l.jobs) (sym c.self.view_is)

pub put_at-requires-clause-within : goal.put_at-requires-clause-within
put_at-requires-clause-within c =
    let j = c.args.job in
    let e = at (goal.at.put_at-requires-clause-within c).After-key_rank-at in
    let l = rank_fits j.triple.op j.triple.key c.self.inside.numbered.jobs c.self.inside.numbered.spare c.self.inside.by_key.items c.self.inside.by_key.cap c.self.invariant in
    omega (arith, c.self.inside.by_key.ok.0)

pub put_at-requires-clause-room : goal.put_at-requires-clause-room
put_at-requires-clause-room c =
    let l = keys_length c.self.inside.numbered.jobs c.self.inside.numbered.spare c.self.inside.by_key.items c.self.inside.by_key.cap c.self.invariant in
    let r = c.self.invariant.live.room in
    let s = subst (λ l. 0 < l.spare) (sym c.self.view_is) c.requires.room in
    omega (arith, c.self.inside.by_key.ok.0)

pub invariant_of-self : goal.invariant_of-self
invariant_of-self c =
    let j = c.args.job in
    rw (c.add.ensures, c.put_at.ensures.items)
    (keys_more c.self.inside.numbered.jobs j c.self.inside.numbered.spare c.self.inside.by_key.items c.self.inside.by_key.cap c.put_at.new.items.cap c.key_rank-at.result
    (subst (λ l. JobsBelow j.number l.jobs) (sym c.self.view_is) c.requires.above)
    (subst (λ l. live_on l.jobs j.triple.op j.triple.key ≡ None) (sym c.self.view_is) c.requires.free)
    (subst (λ l. 0 < l.spare) (sym c.self.view_is) c.requires.room)
    (at (goal.at.invariant_of-self c).After-key_rank-at) c.put_at.ensures.capacity c.self.invariant)
