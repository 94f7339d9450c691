use Rattle.std.proofs.Common.{length, sym, subst, ap, ◌∙◌, arith}
use Rattle.core_rules.specs.Laws.{OneEach}
use Rattle.std.specs.Prelude.{slice_get}
use Rattle.fair_pool.proofs.Ordered.{length_in_order}
use Rattle.job_core.specs.Keys.{by_keys, key_before}
use Rattle.job_core.proofs.KeptKeys.{keys_length}
use Rattle.job_core.proofs.Walks.{found_in_keys, get_past}
use Rattle.job_core.proofs.live_jobs.LiveJobs.in_keys.Goals as goal

pub returns-then-rank-len-clause-job : goal.returns-then-rank-len-clause-job
returns-then-rank-len-clause-job c =
    c.find.ensures.job
    ∙ found_in_keys c.self.inside.numbered.jobs c.self.inside.by_key.items c.args.rank c.index.result.now c.self.invariant.live.rising c.self.invariant.in_keys (omega (arith, c.if-rank-len.true, c.len.ensures, c.self.inside.by_key.ok.0)) c.index.ensures
    ∙ ap (λ l. slice_get (by_keys l.jobs) c.args.rank) c.self.view_is

pub returns-else-rank-len-clause-job : goal.returns-else-rank-len-clause-job
returns-else-rank-len-clause-job c =
    let k = keys_length c.self.inside.numbered.jobs c.self.inside.numbered.spare c.self.inside.by_key.items c.self.inside.by_key.cap c.self.invariant in
    let n = length_in_order key_before c.self.inside.numbered.jobs in
    sym (get_past (by_keys c.self.inside.numbered.jobs) c.args.rank (omega (arith, c.if-rank-len.false, c.len.ensures, c.self.inside.by_key.ok.0)))
    ∙ ap (λ l. slice_get (by_keys l.jobs) c.args.rank) c.self.view_is

pub returns-then-rank-len-clause-one_each : goal.returns-then-rank-len-clause-one_each
returns-then-rank-len-clause-one_each c = subst (λ l. OneEach l.jobs) c.self.view_is c.self.invariant.live.one_each

pub returns-then-rank-len-clause-few : goal.returns-then-rank-len-clause-few
returns-then-rank-len-clause-few c =
    let k = keys_length c.self.inside.numbered.jobs c.self.inside.numbered.spare c.self.inside.by_key.items c.self.inside.by_key.cap c.self.invariant in
    let v = ap (λ l. length l.jobs) c.self.view_is in
    let few = c.len.type_inv in
    omega (arith, c.len.ensures, c.self.inside.by_key.ok.0)

pub returns-else-rank-len-clause-one_each : goal.returns-else-rank-len-clause-one_each
returns-else-rank-len-clause-one_each c = subst (λ l. OneEach l.jobs) c.self.view_is c.self.invariant.live.one_each

pub returns-else-rank-len-clause-few : goal.returns-else-rank-len-clause-few
returns-else-rank-len-clause-few c =
    let k = keys_length c.self.inside.numbered.jobs c.self.inside.numbered.spare c.self.inside.by_key.items c.self.inside.by_key.cap c.self.invariant in
    let v = ap (λ l. length l.jobs) c.self.view_is in
    let few = c.len.type_inv in
    omega (arith, c.len.ensures, c.self.inside.by_key.ok.0)
