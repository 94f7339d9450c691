use Rattle.keeper_core.proofs.EntryLaws.{get_at, get_none}
use Rattle.keeper_core.proofs.sorted.get.Goals as goal

pub returns-in-Ok : goal.returns-in-Ok
returns-in-Ok g c = get_at g.K.Key.order g.met.K.Key.total c.args.key.now c.args.entries.now c.in-Ok.index c.index-entries-index.result c.requires c.in-Ok.ensures

pub returns-in-Err : goal.returns-in-Err
returns-in-Err g c = get_none g.K.Key.order g.met.K.Key.total c.args.key.now c.args.entries.now c.in-Err.field-0 c.requires c.in-Err.ensures
