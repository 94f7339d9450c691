use Rattle.std.proofs.Common.{◌≡◌, true, cond, Some, None, sym, ap, ◌∙◌, arith}
use Rattle.std.specs.Prelude.{slice_get}
use Rattle.std.specs.Option.{option_copied}
use Rattle.fair_pool.proofs.Ordered.{length_in_order}
use Rattle.core_rules.specs.Settling.{live_on}
use Rattle.job_core.specs.Keys.{by_keys, is_key_before, key_before, key_rank}
use Rattle.job_core.specs.Walks.{passes}
use Rattle.job_core.proofs.Walks.{if_on, walk_ends, walk_on, walk_within, walked_live}
use Rattle.job_core.proofs.live_jobs.LiveWalk.on.Goals as goal
use Rattle.job_core.proofs.live_jobs.LiveWalk.on.Goals.{After-in_keys, In-loop-self}

more : (c : In-loop-self) → passes (is_key_before c.args.op c.args.key.now) (slice_get (by_keys c.loop-self.self.live.now.jobs) c.loop-self.self.passed) ≡ true
more c = sym c.is_past.ensures.past ∙ c.loop-self-test.true

pub overflow_add-self : goal.overflow_add-self
overflow_add-self c =
    let js = c.loop-self.self.live.now.jobs in
    let l = walk_within (is_key_before c.args.op c.args.key.now) (by_keys js) c.loop-self.self.passed (more (goal.at.overflow_add-self c).In-loop-self) in
    let few = c.is_past.ensures.few in
    let n = length_in_order key_before js in
    omega arith

pub loop-self-smaller : goal.loop-self-smaller
loop-self-smaller c =
    let l = walk_within (is_key_before c.args.op c.args.key.now) (by_keys c.loop-self.self.live.now.jobs) c.loop-self.self.passed (more (goal.at.loop-self-smaller c).In-loop-self) in
    omega arith

pub loop-self-preserved : goal.loop-self-preserved
loop-self-preserved c = record {
  live = c.loop-self.invariant.live;
  passed = walk_on (is_key_before c.args.op c.args.key.now) (by_keys c.loop-self.self.live.now.jobs) c.loop-self.self.passed c.loop-self.invariant.passed (more (goal.at.loop-self-preserved c).In-loop-self);
}

-- where the walk stops
at : (c : After-in_keys) → c.loop-self.self.passed ≡ key_rank c.args.op c.args.key.now c.loop-self.self.live.now.jobs
at c = walk_ends (is_key_before c.args.op c.args.key.now) (by_keys c.loop-self.self.live.now.jobs) c.loop-self.self.passed c.loop-self.invariant.passed (sym c.is_past.ensures.past ∙ c.loop-self-test.false)

pub returns-in_err-job-clause-passed : goal.returns-in_err-job-clause-passed
returns-in_err-job-clause-passed c = at (goal.at.returns-in_err-job-clause-passed c).After-in_keys ∙ ap (λ l. key_rank c.args.op c.args.key.now l.now.jobs) c.loop-self.invariant.live

pub returns-then-is_on-clause-passed : goal.returns-then-is_on-clause-passed
returns-then-is_on-clause-passed c = at (goal.at.returns-then-is_on-clause-passed c).After-in_keys ∙ ap (λ l. key_rank c.args.op c.args.key.now l.now.jobs) c.loop-self.invariant.live

pub returns-else-is_on-clause-passed : goal.returns-else-is_on-clause-passed
returns-else-is_on-clause-passed c = at (goal.at.returns-else-is_on-clause-passed c).After-in_keys ∙ ap (λ l. key_rank c.args.op c.args.key.now l.now.jobs) c.loop-self.invariant.live

-- what stands there is the live job of the key
there : (c : After-in_keys) → if_on c.args.op c.args.key.now (option_copied c.in_keys.result) ≡ live_on c.args.self.now.live.now.jobs c.args.op c.args.key.now
there c =
    let js = c.loop-self.self.live.now.jobs in
    ap (if_on c.args.op c.args.key.now) (c.in_keys.ensures.job ∙ ap (slice_get (by_keys js)) (at c))
    ∙ walked_live js c.args.op c.args.key.now c.in_keys.ensures.one_each
    ∙ ap (λ l. live_on l.now.jobs c.args.op c.args.key.now) c.loop-self.invariant.live

pub returns-in_err-job-clause-job : goal.returns-in_err-job-clause-job
returns-in_err-job-clause-job c =
    ap option_copied c.from_residual.ensures
    ∙ ap (if_on c.args.op c.args.key.now) (c.in_err-job.ensures.job ∙ sym c.in_keys.ensures.job) ∙ there (goal.at.returns-in_err-job-clause-job c).After-in_keys

pub returns-then-is_on-clause-job : goal.returns-then-is_on-clause-job
returns-then-is_on-clause-job c =
    sym (ap (λ b. cond b (Some c.in_ok-job.job.now) None) (sym c.is_on.ensures ∙ c.if-is_on.true))
    ∙ ap (if_on c.args.op c.args.key.now) (c.in_ok-job.ensures.job ∙ sym c.in_keys.ensures.job) ∙ there (goal.at.returns-then-is_on-clause-job c).After-in_keys

pub returns-else-is_on-clause-job : goal.returns-else-is_on-clause-job
returns-else-is_on-clause-job c =
    sym (ap (λ b. cond b (Some c.in_ok-job.job.now) None) (sym c.is_on.ensures ∙ c.if-is_on.false))
    ∙ ap (if_on c.args.op c.args.key.now) (c.in_ok-job.ensures.job ∙ sym c.in_keys.ensures.job) ∙ there (goal.at.returns-else-is_on-clause-job c).After-in_keys
