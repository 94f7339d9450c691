use Rattle.std.proofs.Common.{◌<◌, length, sym, ◌∙◌, arith}
use Rattle.session_core.proofs.Picking.{passed}
use Rattle.session_core.proofs.session.Session.free_worker.Goals as goal

pub loop-worker-preserved : goal.loop-worker-preserved
loop-worker-preserved g c =
    let below : c.loop-worker.worker < length c.as_slice.result.now = c.loop-worker-test.true in
    record {
      range = omega (arith, below);
      count = c.loop-worker.invariant.count;
      so_far = sym (passed c.args.self.now.desk.engine.core c.args.self.now.last c.loop-worker.worker (length c.as_slice.result.now) below (sym c.has_pick.ensures ∙ c.if-has_pick.false)) ∙ c.loop-worker.invariant.so_far;
    }
