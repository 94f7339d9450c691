use Rattle.std.proofs.Common.{◌∙◌, IsTrue, false, Err, ap, inl, refl, sym, subst}
use Rattle.sqlite.specs.Held.{state}
use Rattle.sqlite.specs.declared.error.Error.TheVariants.{SqliteFailure}
use Rattle.sql_keeper.specs.Kept.{Kept}
use Rattle.sql_keeper.specs.inside.Moving.{HasMovedAs, SparesIfBad}
use Rattle.sql_keeper.proofs.Knowing.{bad_row, either_moved, is_sure, kept_moved, kept_spared, lawful, moved_to, same_last, stays_known}
use Rattle.sql_keeper.proofs.keeper.SqlKeeper.migrate_old.Goals as goal

pub invariant_of-self-in-Ok-BadRow : goal.invariant_of-self-in-Ok-BadRow
invariant_of-self-in-Ok-BadRow g c =
    let i = c.self.inside in
    let old : Kept g.row.S.Denot = record { conn = i.conn; is_old = i.is_old; faults = i.faults; last = i.last.value } in
    let new : Kept g.row.S.Denot = record { conn = c.move_tables.new.conn; is_old = i.is_old; faults = i.faults; last = i.last.value } in
    let laws = g.met.S.Store in
    let law = lawful g.S.Store new.conn (laws.shut_if_dirty new.conn.store) (λ db o r. laws.settled new.conn.store db o r) (laws.stays new.conn.store) in
    let old_ones : IsTrue i.is_old = subst (λ (k : Kept g.row.S.Denot). IsTrue k.is_old) (sym c.self.view_is) c.requires in
    let was = state g.S.Store i.conn in
    let is = state g.S.Store new.conn in
    kept_spared g.S.Store old new refl refl c.self.invariant law c.move_tables.ensures.idle c.move_tables.ensures.clean (λ clean opened. (subst (HasMovedAs was is) c.in-Ok-BadRow.field-0-is (c.in-Ok-BadRow.ensures.moved clean)).1 opened)
    (λ clean. subst (SparesIfBad was is) c.in-Ok-BadRow.field-0-is (c.in-Ok-BadRow.ensures.spared clean))

pub invariant_of-self-in-OutOfMemory-1 : goal.invariant_of-self-in-OutOfMemory-1
invariant_of-self-in-OutOfMemory-1 g c =
    let i = c.self.inside in
    let old : Kept g.row.S.Denot = record { conn = i.conn; is_old = i.is_old; faults = i.faults; last = i.last.value } in
    let new : Kept g.row.S.Denot = record { conn = c.move_tables.new.conn; is_old = i.is_old; faults = i.faults; last = i.last.value } in
    let laws = g.met.S.Store in
    let law = lawful g.S.Store new.conn (laws.shut_if_dirty new.conn.store) (λ db o r. laws.settled new.conn.store db o r) (laws.stays new.conn.store) in
    let old_ones : IsTrue i.is_old = subst (λ (k : Kept g.row.S.Denot). IsTrue k.is_old) (sym c.self.view_is) c.requires in
    let was = state g.S.Store i.conn in
    let is = state g.S.Store new.conn in
    let w = c.in-Err-SqliteFailure-OutOfMemory in
    let e = w.ensures in
    kept_spared g.S.Store old new refl refl c.self.invariant law e.idle e.clean e.err (λ clean. e.no_more clean (ap Err (w.field-0-is ∙ ap SqliteFailure w.field-0-0-is)))

pub returns-in-Ok-Rows-clause-tables : goal.returns-in-Ok-Rows-clause-tables
returns-in-Ok-Rows-clause-tables g c =
    let i = c.self.inside in
    let old : Kept g.row.S.Denot = record { conn = i.conn; is_old = i.is_old; faults = i.faults; last = i.last.value } in
    let new : Kept g.row.S.Denot = record { conn = c.move_tables.new.conn; is_old = false; faults = i.faults; last = c.of.result.value } in
    let laws = g.met.S.Store in
    let law = lawful g.S.Store new.conn (laws.shut_if_dirty new.conn.store) (λ db o r. laws.settled new.conn.store db o r) (laws.stays new.conn.store) in
    let old_ones : IsTrue i.is_old = subst (λ (k : Kept g.row.S.Denot). IsTrue k.is_old) (sym c.self.view_is) c.requires in
    let was = state g.S.Store i.conn in
    let is = state g.S.Store new.conn in
    let other = lawful g.S.Store new.last (laws.shut_if_dirty new.last.store) (λ db o r. laws.settled new.last.store db o r) (laws.stays new.last.store) in
    rw (← c.self.view_is) (
      moved_to g.S.Store old new law c.self.invariant old_ones c.move_tables.ensures.clean c.in-Ok-Rows.count (λ clean. subst (HasMovedAs was is) c.in-Ok-Rows.field-0-is (c.in-Ok-Rows.ensures.moved clean)),
      is_sure g.S.Store old new law (kept_moved g.S.Store old new law c.self.invariant old_ones c.move_tables.ensures.clean c.in-Ok-Rows.count refl c.of.ensures c.move_tables.ensures.idle (λ clean. subst (HasMovedAs was is) c.in-Ok-Rows.field-0-is (c.in-Ok-Rows.ensures.moved clean))) other,
    )

pub returns-in-Ok-Rows-clause-stop : goal.returns-in-Ok-Rows-clause-stop
returns-in-Ok-Rows-clause-stop g c =
    let i = c.self.inside in
    let old : Kept g.row.S.Denot = record { conn = i.conn; is_old = i.is_old; faults = i.faults; last = i.last.value } in
    let new : Kept g.row.S.Denot = record { conn = c.move_tables.new.conn; is_old = false; faults = i.faults; last = c.of.result.value } in
    let laws = g.met.S.Store in
    let law = lawful g.S.Store new.conn (laws.shut_if_dirty new.conn.store) (λ db o r. laws.settled new.conn.store db o r) (laws.stays new.conn.store) in
    let old_ones : IsTrue i.is_old = subst (λ (k : Kept g.row.S.Denot). IsTrue k.is_old) (sym c.self.view_is) c.requires in
    let was = state g.S.Store i.conn in
    let is = state g.S.Store new.conn in
    rw (← c.self.view_is) (either_moved g.S.Store old new law c.self.invariant old_ones c.move_tables.ensures.clean c.of.ensures c.move_tables.ensures.stop)

pub returns-in-Ok-BadRow-clause-tables : goal.returns-in-Ok-BadRow-clause-tables
returns-in-Ok-BadRow-clause-tables g c =
    let i = c.self.inside in
    let old : Kept g.row.S.Denot = record { conn = i.conn; is_old = i.is_old; faults = i.faults; last = i.last.value } in
    let new : Kept g.row.S.Denot = record { conn = c.move_tables.new.conn; is_old = i.is_old; faults = i.faults; last = i.last.value } in
    let laws = g.met.S.Store in
    let law = lawful g.S.Store new.conn (laws.shut_if_dirty new.conn.store) (λ db o r. laws.settled new.conn.store db o r) (laws.stays new.conn.store) in
    let old_ones : IsTrue i.is_old = subst (λ (k : Kept g.row.S.Denot). IsTrue k.is_old) (sym c.self.view_is) c.requires in
    let was = state g.S.Store i.conn in
    let is = state g.S.Store new.conn in
    rw (← c.self.view_is) (
      bad_row g.S.Store old new law c.self.invariant old_ones c.move_tables.ensures.clean (c.in-Ok-BadRow.table, c.in-Ok-BadRow.number) (λ clean. subst (HasMovedAs was is) c.in-Ok-BadRow.field-0-is (c.in-Ok-BadRow.ensures.moved clean)),
      same_last g.S.Store old new law refl,
    )

pub returns-in-Err-SqliteFailure-OutOfMemory-clause-tables : goal.returns-in-Err-SqliteFailure-OutOfMemory-clause-tables
returns-in-Err-SqliteFailure-OutOfMemory-clause-tables g c =
    let i = c.self.inside in
    let old : Kept g.row.S.Denot = record { conn = i.conn; is_old = i.is_old; faults = i.faults; last = i.last.value } in
    let new : Kept g.row.S.Denot = record { conn = c.move_tables.new.conn; is_old = i.is_old; faults = i.faults; last = i.last.value } in
    let laws = g.met.S.Store in
    let law = lawful g.S.Store new.conn (laws.shut_if_dirty new.conn.store) (λ db o r. laws.settled new.conn.store db o r) (laws.stays new.conn.store) in
    let old_ones : IsTrue i.is_old = subst (λ (k : Kept g.row.S.Denot). IsTrue k.is_old) (sym c.self.view_is) c.requires in
    let was = state g.S.Store i.conn in
    let is = state g.S.Store new.conn in
    let e = c.in-Err-SqliteFailure-OutOfMemory.ensures in
    rw (← c.self.view_is) (stays_known g.S.Store old new law (λ clean opened. let it = e.err clean opened in (it.0, it.2)), same_last g.S.Store old new law refl)

pub returns-in-Err-clause-tables : goal.returns-in-Err-clause-tables
returns-in-Err-clause-tables g c =
    let i = c.self.inside in
    let old : Kept g.row.S.Denot = record { conn = i.conn; is_old = i.is_old; faults = i.faults; last = i.last.value } in
    let new : Kept g.row.S.Denot = record { conn = c.move_tables.new.conn; is_old = i.is_old; faults = i.faults; last = c.of-in-Err.result.value } in
    let laws = g.met.S.Store in
    let law = lawful g.S.Store new.conn (laws.shut_if_dirty new.conn.store) (λ db o r. laws.settled new.conn.store db o r) (laws.stays new.conn.store) in
    let old_ones : IsTrue i.is_old = subst (λ (k : Kept g.row.S.Denot). IsTrue k.is_old) (sym c.self.view_is) c.requires in
    let was = state g.S.Store i.conn in
    let is = state g.S.Store new.conn in
    rw (← c.self.view_is) (inl (stays_known g.S.Store old new law (λ clean opened. let it = c.in-Err.ensures.err clean opened in (it.0, it.2))))

pub returns-in-Err-clause-stop : goal.returns-in-Err-clause-stop
returns-in-Err-clause-stop g c =
    let i = c.self.inside in
    let old : Kept g.row.S.Denot = record { conn = i.conn; is_old = i.is_old; faults = i.faults; last = i.last.value } in
    let new : Kept g.row.S.Denot = record { conn = c.move_tables.new.conn; is_old = i.is_old; faults = i.faults; last = c.of-in-Err.result.value } in
    let laws = g.met.S.Store in
    let law = lawful g.S.Store new.conn (laws.shut_if_dirty new.conn.store) (λ db o r. laws.settled new.conn.store db o r) (laws.stays new.conn.store) in
    let old_ones : IsTrue i.is_old = subst (λ (k : Kept g.row.S.Denot). IsTrue k.is_old) (sym c.self.view_is) c.requires in
    let was = state g.S.Store i.conn in
    let is = state g.S.Store new.conn in
    rw (← c.self.view_is) (either_moved g.S.Store old new law c.self.invariant old_ones c.move_tables.ensures.clean c.of-in-Err.ensures c.move_tables.ensures.stop)
