use Rattle.std.proofs.Common.{arith, w64}
use Rattle.std.proofs.lemmas.Int.{to_z-of_z}
use Rattle.sqlite.specs.State.{HasCleanDisk}
use Rattle.sqlite.specs.Held.{state}
use Rattle.sql_keeper.proofs.LogMap.{log_inside}
use Rattle.sql_keeper.proofs.statements.add_log.Goals as goal

pub returns-clause-logged : goal.returns-clause-logged
returns-clause-logged g c clean =
    let old = state g.S.Store c.args.tx.now.conn.now in
    let new = state g.S.Store c.execute.new.self.conn.now in
    let was : HasCleanDisk old = omega (arith, c.execute.ensures.survives.clean) in
    let ready = c.requires was in
    log_inside old new c.args.job c.args.output.now c.execute.result ready.database ready.inside (rw (c.params-to_sql.ensures, c.params-to_sql-2.ensures, to_z-of_z w64 c.args.job c.ranges.job) at (c.execute.ensures.runs clean ready.inside))
