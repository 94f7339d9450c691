use Rattle.std.proofs.Common.{arith}
use Rattle.sqlite.specs.State.{HasCleanDisk}
use Rattle.sqlite.specs.Held.{state}
use Rattle.sql_keeper.proofs.NoText.{touched}
use Rattle.sql_keeper.proofs.statements.touch.Goals as goal

pub returns-clause-ready : goal.returns-clause-ready
returns-clause-ready g c clean =
    let old = state g.S.Store c.args.tx.now.conn.now in
    let new = state g.S.Store c.execute.new.self.conn.now in
    let was : HasCleanDisk old = omega (arith, c.execute.ensures.survives.clean) in
    touched c.args.is_old old new c.execute.result (c.requires.database was) (c.requires.inside was) (c.execute.ensures.runs clean (c.requires.inside was))
