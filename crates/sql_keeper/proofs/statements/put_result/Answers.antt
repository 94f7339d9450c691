use Rattle.std.proofs.Common.{arith, w64}
use Rattle.std.proofs.lemmas.Int.{to_z-of_z}
use Rattle.sqlite.specs.State.{HasCleanDisk}
use Rattle.sqlite.specs.Held.{state}
use Rattle.sql_keeper.specs.inside.Borrowed.{columns_of, key_of}
use Rattle.sql_keeper.proofs.CachePut.{result_inside}
use Rattle.sql_keeper.proofs.statements.put_result.Goals as goal

pub returns-clause-put : goal.returns-clause-put
returns-clause-put g c clean =
    let old = state g.S.Store c.args.tx.now.conn.now in
    let new = state g.S.Store c.execute.new.self.conn.now in
    let was : HasCleanDisk old = omega (arith, c.execute.ensures.survives.clean) in
    let ready = c.requires was in
    result_inside old new (key_of c.args.texts.now) (columns_of c.args.texts.now c.args.fine c.args.finished c.args.job c.args.rebuild) c.execute.result ready.database ready.inside
    (rw (
      c.params-to_sql.ensures,
      c.params-to_sql-2.ensures,
      c.params-to_sql-3.ensures,
      c.params-to_sql-4.ensures,
      c.params-to_sql-5.ensures,
      c.params-to_sql-6.ensures,
      c.params-to_sql-7.ensures,
      c.params-to_sql-8.ensures,
      c.params-to_sql-9.ensures,
      to_z-of_z w64 c.args.fine c.ranges.fine,
      to_z-of_z w64 c.args.finished c.ranges.finished,
      to_z-of_z w64 c.args.job c.ranges.job,
      to_z-of_z w64 c.args.rebuild c.ranges.rebuild,
    ) at (c.execute.ensures.runs clean ready.inside))
