use Rattle.std.proofs.Common.{◌≡◌, ◌≤◌, ◌-◌, length}
use Rattle.session_core.specs.Orders.{free_among}
use Rattle.session_core.proofs.session.Session.free_worker.Given as goal

abbrev pub invariant-loop-worker : goal.invariant-loop-worker
invariant-loop-worker g l =
    let core = l.self.desk.engine.core in
    record {
      range : l.worker ≤ l.count;
      count : l.count ≡ length core.program.workers;
      so_far : free_among core l.self.last l.worker (l.count - l.worker) ≡ free_among core l.self.last 0 l.count;
    }

abbrev pub decreases-loop-worker : goal.decreases-loop-worker
decreases-loop-worker g l = l.count - l.worker
