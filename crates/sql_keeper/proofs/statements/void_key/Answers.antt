use Rattle.std.proofs.Common.{arith}
use Rattle.sqlite.specs.State.{HasCleanDisk}
use Rattle.sqlite.specs.Held.{state}
use Rattle.sql_keeper.proofs.CacheMap.{key_inside}
use Rattle.sql_keeper.proofs.statements.void_key.Goals as goal

pub returns-clause-voided : goal.returns-clause-voided
returns-clause-voided g c clean =
    let old = state g.S.Store c.args.tx.now.conn.now in
    let new = state g.S.Store c.execute.new.self.conn.now in
    let was : HasCleanDisk old = omega (arith, c.execute.ensures.survives.clean) in
    let ready = c.requires was in
    key_inside old new (record { op = c.args.op.now; khash = c.args.khash.now; ckey = c.args.ckey.now }) c.execute.result ready.database ready.inside
    (rw (c.params-to_sql.ensures, c.params-to_sql-2.ensures, c.params-to_sql-3.ensures) at (c.execute.ensures.runs clean ready.inside))
