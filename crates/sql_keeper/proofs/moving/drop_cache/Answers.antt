use Rattle.std.proofs.Common.{arith}
use Rattle.sqlite.specs.State.{HasCleanDisk}
use Rattle.sqlite.specs.Held.{state}
use Rattle.sql_keeper.proofs.Dropping.{cache_dropped}
use Rattle.sql_keeper.proofs.moving.drop_cache.Goals as goal

pub returns-clause-dropped : goal.returns-clause-dropped
returns-clause-dropped g c clean =
    let old = state g.S.Store c.args.tx.now.conn.now in
    let new = state g.S.Store c.execute.new.self.conn.now in
    let was : HasCleanDisk old = omega (arith, c.execute.ensures.survives.clean) in
    let dropping = c.requires was in
    cache_dropped old new c.execute.result dropping (c.execute.ensures.runs clean dropping.inside)
