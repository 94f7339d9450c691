use Rattle.std.proofs.Common.{arith}
use Rattle.sqlite.specs.State.{HasCleanDisk}
use Rattle.sqlite.specs.Held.{state}
use Rattle.sql_keeper.proofs.Creation.{meta_made}
use Rattle.sql_keeper.proofs.making.make_meta.Goals as goal

pub returns-clause-made : goal.returns-clause-made
returns-clause-made g c clean =
    let old = state g.S.Store c.args.tx.now.conn.now in
    let new = state g.S.Store c.execute.new.self.conn.now in
    let was : HasCleanDisk old = omega (arith, c.execute.ensures.survives.clean) in
    let making = c.requires was in
    meta_made old new c.execute.result making (c.execute.ensures.runs clean making.inside)
