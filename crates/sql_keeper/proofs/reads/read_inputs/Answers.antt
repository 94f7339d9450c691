use Rattle.std.proofs.Common.{arith}
use Rattle.sqlite.specs.State.{HasCleanDisk}
use Rattle.sqlite.specs.Held.{state}
use Rattle.sql_keeper.proofs.Loading.{inputs_loaded, inputs_plain}
use Rattle.sql_keeper.proofs.Reading.{ok_then}
use Rattle.sql_keeper.proofs.reads.read_inputs.Goals as goal

pub read_all-requires-clause-plain : goal.read_all-requires-clause-plain
read_all-requires-clause-plain g c = inputs_plain c.args.is_old

pub returns-clause-rows : goal.returns-clause-rows
returns-clause-rows g c clean =
    let old = state g.S.Store c.args.tx.now.conn.now in
    let new = state g.S.Store c.read_all.new.tx.conn.now in
    let was : HasCleanDisk old = omega (arith, c.read_all.ensures.survives.clean) in
    ok_then c.read_all.result _ _ (λ items says. inputs_loaded c.args.is_old old new (c.requires was).database items says) (c.read_all.ensures.says clean)
