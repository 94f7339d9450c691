use Rattle.std.proofs.Common.{rules, of_calls, ◌≡◌, false, None, nat_lt, sym, subst, ap, ◌∙◌}
use Rattle.std.proofs.lemmas.Fn.{always_returns_same}
use Rattle.fair_pool.specs.Fair.{job_before}
use Rattle.fair_pool.specs.Order.{leading, Rises, IsInOrder}
use Rattle.fair_pool.proofs.Before.{job_before_order}
use Rattle.fair_pool.proofs.Ordered.{leading_found, parted, IsInOrder-Rises}
use Rattle.fair_pool.specs.declared.ticket.Ticket.{Ticket}
use Rattle.fair_pool.proofs.waiting.Waiting.index_of.Goals as goal

pub returns : goal.returns
returns c =
    let same : c.as_slice.result.now ≡ c.self.inside.tickets.items = c.as_slice.ensures in
    let rises : Rises job_before c.as_slice.result.now = subst (Rises job_before) (sym same) c.self.invariant.rising in
    let order : IsInOrder job_before c.as_slice.result.now = IsInOrder-Rises job_before job_before_order c.as_slice.result.now rises in
    let k : Ticket = record { job = c.args.job; pool = 0; urgent = false; hint = None; start = 0; created = 0 } in
    let point = c.partition_point.ensures.partitioned (λ p. nat_lt p.job c.args.job) (always_returns_same _ _ _ (λ a r f k. search (rules, of_calls)))
    (parted job_before job_before_order k c.as_slice.result.now order) in
    leading_found (λ p. nat_lt p.job c.args.job) c.as_slice.result.now c.partition_point.result c.partition_point.ensures.bound point
    ∙ ap (leading (λ p. nat_lt p.job c.args.job)) (same ∙ ap (λ w. w.tickets) c.self.view_is)
