use Rattle.std.proofs.Common.{sym, ap, ◌∙◌, cond}
use Rattle.fair_pool.specs.Kept.{rank_before, with_queue}
use Rattle.fair_pool.specs.Order.{displaced}
use Rattle.fair_pool.proofs.Standing.{set_queue}
use Rattle.fair_pool.proofs.waiting.dequeue_ready.Goals as goal

pub returns-then-was_ready : goal.returns-then-was_ready
returns-then-was_ready c =
    let qs = c.args.queues.now.items in
    set_queue (displaced rank_before c.args.rank) c.args.pool qs c.index_mut-queue.result.now c.remove.new.self c.requires.pool c.index_mut-queue.ensures.value c.remove.ensures
    ∙ ap (λ b. cond b (with_queue (displaced rank_before c.args.rank) c.args.pool qs) qs) (sym c.if-was_ready.true)
