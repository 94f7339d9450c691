use Rattle.std.proofs.Common.{rules, of_calls, ℕ, Bool, sym, subst, ap, ◌∙◌, arith}
use Rattle.std.proofs.lemmas.Fn.{always_returns_same}
use Rattle.std.specs.List.Sorted.{IsPartitionedBy}
use Rattle.fair_pool.specs.Order.{leading}
use Rattle.fair_pool.proofs.Ordered.{leading_found}
use Rattle.core_rules.specs.Core.{job_numbered}
use Rattle.core_rules.specs.Laws.{OneEach, Rising}
use Rattle.job_core.specs.Keys.{is_found_before, key_rank}
use Rattle.job_core.proofs.Keys.{keys_leading, keys_parted}
use Rattle.job_core.proofs.live_jobs.LiveJobs.key_rank.Goals as goal

pub returns-clause-rank : goal.returns-clause-rank
returns-clause-rank c =
    let js = c.self.inside.numbered.jobs in
    let test : ℕ → Bool = λ n. is_found_before c.args.op c.args.key.now (job_numbered js n) in
    let same = c.self.invariant.in_keys in
    let point = c.partition_point.ensures.partitioned test (always_returns_same _ _ _ (λ a r f k. search (rules, of_calls)))
    (subst (IsPartitionedBy test) (sym same) (keys_parted c.args.op c.args.key.now js c.self.invariant.live.rising)) in
    leading_found test c.self.inside.by_key.items c.partition_point.result (let b = c.partition_point.ensures.bound in omega (arith, c.self.inside.by_key.ok.0)) point
    ∙ ap (leading test) same ∙ keys_leading c.args.op c.args.key.now js c.self.invariant.live.rising
    ∙ ap (λ l. key_rank c.args.op c.args.key.now l.jobs) c.self.view_is

pub returns-clause-rising : goal.returns-clause-rising
returns-clause-rising c = subst (λ l. Rising l.jobs) c.self.view_is c.self.invariant.live.rising

pub returns-clause-one_each : goal.returns-clause-one_each
returns-clause-one_each c = subst (λ l. OneEach l.jobs) c.self.view_is c.self.invariant.live.one_each
