use Rattle.sqlite.specs.Held.{state}
use Rattle.sql_keeper.specs.Kept.{Kept}
use Rattle.sql_keeper.proofs.Adoption.{adopts, kept_adopted}
use Rattle.sql_keeper.proofs.Knowing.{lawful}
use Rattle.sql_keeper.proofs.Refused.{faults}
use Rattle.sql_keeper.proofs.keeper.SqlKeeper.adopt.Goals as goal

pub invariant_of-result : goal.invariant_of-result
invariant_of-result g c =
    let new : Kept g.row.S.Denot = record { conn = c.in-Ok.conn; is_old = c.in-Ok.is_old; faults = 0; last = c.of.result.value } in
    let laws = g.met.S.Store in
    let law = lawful g.S.Store new.conn (laws.shut_if_dirty new.conn.store) (λ db o r. laws.settled new.conn.store db o r) (laws.stays new.conn.store) in
    kept_adopted g.S.Store new law c.of.ensures c.in-Ok.ensures.idle (state g.S.Store c.args.conn) c.in-Ok.ensures.adopted

pub returns-in-Ok-clause-tables : goal.returns-in-Ok-clause-tables
returns-in-Ok-clause-tables g c =
    let new : Kept g.row.S.Denot = record { conn = c.in-Ok.conn; is_old = c.in-Ok.is_old; faults = 0; last = c.of.result.value } in
    let laws = g.met.S.Store in
    let law = lawful g.S.Store new.conn (laws.shut_if_dirty new.conn.store) (λ db o r. laws.settled new.conn.store db o r) (laws.stays new.conn.store) in
    let other = lawful g.S.Store new.last (laws.shut_if_dirty new.last.store) (λ db o r. laws.settled new.last.store db o r) (laws.stays new.last.store) in
    adopts g.S.Store new law c.of.ensures c.in-Ok.ensures.idle (state g.S.Store c.args.conn) c.in-Ok.ensures.adopted other

pub returns-in-Err-clause-cause : goal.returns-in-Err-clause-cause
returns-in-Err-clause-cause g c = faults g.S.Store c.args.conn c.in-Err.error c.fault_of.result c.fault_of.ensures c.in-Err.ensures.cause
