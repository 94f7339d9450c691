use Rattle.std.proofs.Common.{sym, ap, ◌∙◌, cond}
use Rattle.fair_pool.specs.Kept.{rank_before, with_queue}
use Rattle.fair_pool.specs.Order.{placed}
use Rattle.fair_pool.proofs.Standing.{set_queue}
use Rattle.fair_pool.proofs.waiting.enqueue_ready.Goals as goal

pub returns-then-ready : goal.returns-then-ready
returns-then-ready c =
    let qs = c.args.queues.now.items in
    set_queue (placed rank_before c.args.rank) c.args.pool qs c.index_mut-queue.result.now c.add.new.self c.requires.pool c.index_mut-queue.ensures.value c.add.ensures
    ∙ ap (λ b. cond b (with_queue (placed rank_before c.args.rank) c.args.pool qs) qs) (sym c.if-ready.true)
