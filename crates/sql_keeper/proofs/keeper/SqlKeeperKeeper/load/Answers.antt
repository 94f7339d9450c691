use Rattle.std.proofs.Common.{◌≡◌, Some, refl}
use Rattle.sqlite.specs.Held.{state}
use Rattle.keeper_core.specs.EitherSchema.{loaded_of}
use Rattle.sql_keeper.specs.Kept.{Kept}
use Rattle.sql_keeper.proofs.Knowing.{Reads, kept_still, lawful, reads_err, reads_ok, shows}
use Rattle.sql_keeper.proofs.keeper.SqlKeeperKeeper.load.Goals as goal

pub invariant_of-self : goal.invariant_of-self
invariant_of-self g c =
    let i = c.self.inside in
    let old : Kept g.row.S.Denot = record { conn = i.conn; is_old = i.is_old; faults = i.faults; last = i.last.value } in
    let new : Kept g.row.S.Denot = record { conn = c.load.new.conn; is_old = i.is_old; faults = i.faults; last = i.last.value } in
    let laws = g.met.S.Store in
    let law = lawful g.S.Store new.conn (laws.shut_if_dirty new.conn.store) (λ db o r. laws.settled new.conn.store db o r) (laws.stays new.conn.store) in
    let reads : Reads (state g.S.Store old.conn) (state g.S.Store new.conn) = record { same = c.load.ensures.same; survives = c.load.ensures.survives } in
    kept_still g.S.Store old new refl refl c.self.invariant law reads c.load.ensures.idle

pub invariant_of-self-in-Err : goal.invariant_of-self-in-Err
invariant_of-self-in-Err g c =
    let i = c.self.inside in
    let old : Kept g.row.S.Denot = record { conn = i.conn; is_old = i.is_old; faults = i.faults; last = i.last.value } in
    let new : Kept g.row.S.Denot = record { conn = c.load.new.conn; is_old = i.is_old; faults = c.refusal.new.faults; last = i.last.value } in
    let laws = g.met.S.Store in
    let law = lawful g.S.Store new.conn (laws.shut_if_dirty new.conn.store) (λ db o r. laws.settled new.conn.store db o r) (laws.stays new.conn.store) in
    let reads : Reads (state g.S.Store old.conn) (state g.S.Store new.conn) = record { same = c.load.ensures.same; survives = c.load.ensures.survives } in
    kept_still g.S.Store old new refl refl c.self.invariant law reads c.load.ensures.idle

pub returns-in-Ok-clause-rows : goal.returns-in-Ok-clause-rows
returns-in-Ok-clause-rows g c =
    let i = c.self.inside in
    let old : Kept g.row.S.Denot = record { conn = i.conn; is_old = i.is_old; faults = i.faults; last = i.last.value } in
    let new : Kept g.row.S.Denot = record { conn = c.load.new.conn; is_old = i.is_old; faults = i.faults; last = i.last.value } in
    let laws = g.met.S.Store in
    let law = lawful g.S.Store new.conn (laws.shut_if_dirty new.conn.store) (λ db o r. laws.settled new.conn.store db o r) (laws.stays new.conn.store) in
    let reads : Reads (state g.S.Store old.conn) (state g.S.Store new.conn) = record { same = c.load.ensures.same; survives = c.load.ensures.survives } in
    shows g.S.Store old new refl refl c.self.invariant law reads (λ s. loaded_of s ≡ Some c.in-Ok.tables) (λ clean. c.in-Ok.ensures.rows clean)

pub returns-in-Ok-clause-same : goal.returns-in-Ok-clause-same
returns-in-Ok-clause-same g c =
    let i = c.self.inside in
    let old : Kept g.row.S.Denot = record { conn = i.conn; is_old = i.is_old; faults = i.faults; last = i.last.value } in
    let new : Kept g.row.S.Denot = record { conn = c.load.new.conn; is_old = i.is_old; faults = i.faults; last = i.last.value } in
    let laws = g.met.S.Store in
    let law = lawful g.S.Store new.conn (laws.shut_if_dirty new.conn.store) (λ db o r. laws.settled new.conn.store db o r) (laws.stays new.conn.store) in
    let reads : Reads (state g.S.Store old.conn) (state g.S.Store new.conn) = record { same = c.load.ensures.same; survives = c.load.ensures.survives } in
    let other = lawful g.S.Store new.last (laws.shut_if_dirty new.last.store) (λ db o r. laws.settled new.last.store db o r) (laws.stays new.last.store) in
    rw (← c.self.view_is) (reads_ok g.S.Store old new refl refl c.self.invariant law reads c.in-Ok.tables c.load.ensures.idle other)

pub returns-in-Err-clause-same : goal.returns-in-Err-clause-same
returns-in-Err-clause-same g c =
    let i = c.self.inside in
    let old : Kept g.row.S.Denot = record { conn = i.conn; is_old = i.is_old; faults = i.faults; last = i.last.value } in
    let new : Kept g.row.S.Denot = record { conn = c.load.new.conn; is_old = i.is_old; faults = c.refusal.new.faults; last = i.last.value } in
    let laws = g.met.S.Store in
    let law = lawful g.S.Store new.conn (laws.shut_if_dirty new.conn.store) (λ db o r. laws.settled new.conn.store db o r) (laws.stays new.conn.store) in
    let reads : Reads (state g.S.Store old.conn) (state g.S.Store new.conn) = record { same = c.load.ensures.same; survives = c.load.ensures.survives } in
    rw (← c.self.view_is) (reads_err g.S.Store old new refl refl c.self.invariant law reads c.refusal.result)
