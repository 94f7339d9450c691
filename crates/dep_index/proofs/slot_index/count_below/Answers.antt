use Rattle.dep_index.proofs.Searched.{start_found, start_gap}
use Rattle.dep_index.proofs.slot_index.count_below.Goals as goal

pub returns-in-Ok : goal.returns-in-Ok
returns-in-Ok c = start_found c.args.by c.args.slots.now c.args.numbers.now c.requires _ c.in-Ok.at c.in-Ok.ensures

pub returns-in-Err : goal.returns-in-Err
returns-in-Err c = start_gap c.args.by c.args.slots.now c.args.numbers.now c.requires _ c.in-Err.at c.in-Err.ensures
