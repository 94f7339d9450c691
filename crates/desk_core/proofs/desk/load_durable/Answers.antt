use Rattle.desk_core.proofs.Calls.{is_read}
use Rattle.desk_core.proofs.desk.load_durable.Goals as goal

pub returns-clause-read : goal.returns-clause-read
returns-clause-read g c =
    is_read g.K.Keeper.known g.K.Keeper.faults c.args.keeper.now c.load.new.self c.in_ok-tables.tables c.in_ok-durable.durable c.in_ok-tables.ensures.same c.in_ok-tables.ensures.cause c.in_ok-tables.ensures.rows
    c.in_ok-durable.ensures.read c.in_ok-durable.ensures.openable
