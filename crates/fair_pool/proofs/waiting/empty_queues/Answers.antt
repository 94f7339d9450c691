use Rattle.std.proofs.Common.{length, length-append, ap, ◌∙◌, ◌≡◌, ◌++◌, ◌∷◌, [], sym, subst, arith}
use Rattle.fair_pool.specs.Kept.{HaveNoRanks}
use Rattle.fair_pool.proofs.Waits.{HaveNoRanks-push}
use Rattle.fair_pool.proofs.waiting.empty_queues.Goals as goal

pub loop-n-preserved : goal.loop-n-preserved
loop-n-preserved c =
    let pushed : c.push.new.self.items ≡ c.loop-n.queues.items ++ c.new.result ∷ [] = c.in_ok-push.ensures.items in
    record {
      len = ap length pushed ∙ (let l = c.loop-n.invariant.len in let a = length-append c.loop-n.queues.items (c.new.result ∷ []) in omega arith);
      ranks = subst HaveNoRanks (sym pushed) (HaveNoRanks-push c.loop-n.queues.items c.new.result c.new.ensures c.loop-n.invariant.ranks);
    }
