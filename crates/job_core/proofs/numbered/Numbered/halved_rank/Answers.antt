use Rattle.std.proofs.Common.{rules, of_calls, nat_lt, ap, ◌∙◌, arith}
use Rattle.std.proofs.lemmas.Fn.{always_returns_same}
use Rattle.fair_pool.specs.Order.{leading}
use Rattle.fair_pool.proofs.Ordered.{leading_found}
use Rattle.job_core.proofs.Places.{halved}
use Rattle.job_core.proofs.numbered.Numbered.halved_rank.Goals as goal

pub returns : goal.returns
returns c =
    let js = c.self.inside.jobs.items in
    let point = c.partition_point.ensures.partitioned (λ j. nat_lt j.number c.args.number) (always_returns_same _ _ _ (λ a r f k. search (rules, of_calls))) (halved c.args.number js c.self.invariant.rising) in
    leading_found (λ j. nat_lt j.number c.args.number) js c.partition_point.result (let b = c.partition_point.ensures.bound in omega (arith, c.self.inside.jobs.ok.0)) point
    ∙ ap (leading (λ j. nat_lt j.number c.args.number)) (ap (λ l. l.jobs) c.self.view_is)
