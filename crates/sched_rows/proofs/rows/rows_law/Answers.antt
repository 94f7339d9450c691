use Rattle.std.proofs.Common.{ap}
use Rattle.sched_rows.proofs.Soundness.{sound}
use Rattle.sched_rows.proofs.rows.rows_law.Goals as goal

pub returns : goal.returns
returns c = sound c.rows.inside.held.items c.rows.inside.index.set c.args.rows.now (ap (λ k. k.rows) c.rows.view_is) (ap (λ k. k.expiries) c.rows.view_is) c.rows.invariant.orderly
