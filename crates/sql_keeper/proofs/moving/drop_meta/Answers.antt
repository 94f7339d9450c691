use Rattle.std.proofs.Common.{arith}
use Rattle.sqlite.specs.State.{HasCleanDisk}
use Rattle.sqlite.specs.Held.{state}
use Rattle.sql_keeper.proofs.Dropping.{meta_dropped}
use Rattle.sql_keeper.proofs.moving.drop_meta.Goals as goal

pub returns-clause-blank : goal.returns-clause-blank
returns-clause-blank g c clean =
    let old = state g.S.Store c.args.tx.now.conn.now in
    let new = state g.S.Store c.execute.new.self.conn.now in
    let was : HasCleanDisk old = omega (arith, c.execute.ensures.survives.clean) in
    let dropping = c.requires was in
    meta_dropped old new c.execute.result dropping (c.execute.ensures.runs clean dropping.inside)
