use Rattle.std.proofs.Common.{◌∙◌, Err, ap, inl, refl}
use Rattle.sqlite.specs.declared.error.Error.TheVariants.{SqliteFailure}
use Rattle.sql_keeper.specs.Kept.{Kept, known_of}
use Rattle.sql_keeper.proofs.Knowing.{becomes, either, is_sure, kept_spared, kept_written, lawful, refuses_none, same_last, stays_known}
use Rattle.sql_keeper.proofs.keeper.SqlKeeperKeeper.commit.Goals as goal

pub invariant_of-self-in-OutOfMemory-1 : goal.invariant_of-self-in-OutOfMemory-1
invariant_of-self-in-OutOfMemory-1 g c =
    let i = c.self.inside in
    let old : Kept g.row.S.Denot = record { conn = i.conn; is_old = i.is_old; faults = i.faults; last = i.last.value } in
    let new : Kept g.row.S.Denot = record { conn = c.commit.new.conn; is_old = i.is_old; faults = i.faults; last = i.last.value } in
    let laws = g.met.S.Store in
    let law = lawful g.S.Store new.conn (laws.shut_if_dirty new.conn.store) (λ db o r. laws.settled new.conn.store db o r) (laws.stays new.conn.store) in
    let w = c.in-Err-SqliteFailure-OutOfMemory in
    let e = w.ensures in
    kept_spared g.S.Store old new refl refl c.self.invariant law e.idle e.clean e.err (λ clean. e.spared clean (ap Err (w.field-0-is ∙ ap SqliteFailure w.field-0-0-is)))

pub returns-in-Ok-clause-tables : goal.returns-in-Ok-clause-tables
returns-in-Ok-clause-tables g c =
    let i = c.self.inside in
    let old : Kept g.row.S.Denot = record { conn = i.conn; is_old = i.is_old; faults = i.faults; last = i.last.value } in
    let new : Kept g.row.S.Denot = record { conn = c.commit.new.conn; is_old = i.is_old; faults = i.faults; last = c.of.result.value } in
    let laws = g.met.S.Store in
    let law = lawful g.S.Store new.conn (laws.shut_if_dirty new.conn.store) (λ db o r. laws.settled new.conn.store db o r) (laws.stays new.conn.store) in
    let other = lawful g.S.Store new.last (laws.shut_if_dirty new.last.store) (λ db o r. laws.settled new.last.store db o r) (laws.stays new.last.store) in
    let e = c.in-Ok.ensures in
    rw (← c.self.view_is) (becomes g.S.Store old new law c.args.delta.now c.self.invariant c.if-self.false e.clean e.ok, is_sure g.S.Store old new law (kept_written g.S.Store old new c.if-self.false law c.of.ensures e.idle e.ok) other)

pub returns-in-Ok-clause-stop : goal.returns-in-Ok-clause-stop
returns-in-Ok-clause-stop g c =
    let i = c.self.inside in
    let old : Kept g.row.S.Denot = record { conn = i.conn; is_old = i.is_old; faults = i.faults; last = i.last.value } in
    let new : Kept g.row.S.Denot = record { conn = c.commit.new.conn; is_old = i.is_old; faults = i.faults; last = c.of.result.value } in
    let laws = g.met.S.Store in
    let law = lawful g.S.Store new.conn (laws.shut_if_dirty new.conn.store) (λ db o r. laws.settled new.conn.store db o r) (laws.stays new.conn.store) in
    rw (← c.self.view_is) (either g.S.Store old new law c.args.delta.now c.self.invariant c.if-self.false c.of.ensures c.commit.ensures.clean c.commit.ensures.stop)

pub returns-in-Err-SqliteFailure-OutOfMemory-clause-tables : goal.returns-in-Err-SqliteFailure-OutOfMemory-clause-tables
returns-in-Err-SqliteFailure-OutOfMemory-clause-tables g c =
    let i = c.self.inside in
    let old : Kept g.row.S.Denot = record { conn = i.conn; is_old = i.is_old; faults = i.faults; last = i.last.value } in
    let new : Kept g.row.S.Denot = record { conn = c.commit.new.conn; is_old = i.is_old; faults = i.faults; last = i.last.value } in
    let laws = g.met.S.Store in
    let law = lawful g.S.Store new.conn (laws.shut_if_dirty new.conn.store) (λ db o r. laws.settled new.conn.store db o r) (laws.stays new.conn.store) in
    let e = c.in-Err-SqliteFailure-OutOfMemory.ensures in
    rw (← c.self.view_is) (stays_known g.S.Store old new law (λ clean opened. let it = e.err clean opened in (it.0, it.2)), same_last g.S.Store old new law refl)

pub returns-in-Err-clause-tables : goal.returns-in-Err-clause-tables
returns-in-Err-clause-tables g c =
    let i = c.self.inside in
    let old : Kept g.row.S.Denot = record { conn = i.conn; is_old = i.is_old; faults = i.faults; last = i.last.value } in
    let new : Kept g.row.S.Denot = record { conn = c.commit.new.conn; is_old = i.is_old; faults = i.faults; last = c.of-in-Err.result.value } in
    let laws = g.met.S.Store in
    let law = lawful g.S.Store new.conn (laws.shut_if_dirty new.conn.store) (λ db o r. laws.settled new.conn.store db o r) (laws.stays new.conn.store) in
    rw (← c.self.view_is) (inl (stays_known g.S.Store old new law (λ clean opened. let it = c.in-Err.ensures.err clean opened in (it.0, it.2))))

pub returns-in-Err-clause-stop : goal.returns-in-Err-clause-stop
returns-in-Err-clause-stop g c =
    let i = c.self.inside in
    let old : Kept g.row.S.Denot = record { conn = i.conn; is_old = i.is_old; faults = i.faults; last = i.last.value } in
    let new : Kept g.row.S.Denot = record { conn = c.commit.new.conn; is_old = i.is_old; faults = i.faults; last = c.of-in-Err.result.value } in
    let laws = g.met.S.Store in
    let law = lawful g.S.Store new.conn (laws.shut_if_dirty new.conn.store) (λ db o r. laws.settled new.conn.store db o r) (laws.stays new.conn.store) in
    rw (← c.self.view_is) (either g.S.Store old new law c.args.delta.now c.self.invariant c.if-self.false c.of-in-Err.ensures c.commit.ensures.clean c.commit.ensures.stop)

pub returns-in-Ok-clause-old : goal.returns-in-Ok-clause-old
returns-in-Ok-clause-old g c =
    let i = c.self.inside in
    let old : Kept g.row.S.Denot = record { conn = i.conn; is_old = i.is_old; faults = i.faults; last = i.last.value } in
    let new : Kept g.row.S.Denot = record { conn = c.commit.new.conn; is_old = i.is_old; faults = i.faults; last = c.of.result.value } in
    let laws = g.met.S.Store in
    let law = lawful g.S.Store old.conn (laws.shut_if_dirty old.conn.store) (λ db o r. laws.settled old.conn.store db o r) (laws.stays old.conn.store) in
    rw (← c.self.view_is) (refuses_none g.S.Store old (known_of g.S.Store new) _ c.self.invariant law c.if-self.false)

pub returns-in-Err-SqliteFailure-OutOfMemory-clause-old : goal.returns-in-Err-SqliteFailure-OutOfMemory-clause-old
returns-in-Err-SqliteFailure-OutOfMemory-clause-old g c =
    let i = c.self.inside in
    let old : Kept g.row.S.Denot = record { conn = i.conn; is_old = i.is_old; faults = i.faults; last = i.last.value } in
    let new : Kept g.row.S.Denot = record { conn = c.commit.new.conn; is_old = i.is_old; faults = i.faults; last = i.last.value } in
    let laws = g.met.S.Store in
    let law = lawful g.S.Store old.conn (laws.shut_if_dirty old.conn.store) (λ db o r. laws.settled old.conn.store db o r) (laws.stays old.conn.store) in
    rw (← c.self.view_is) (refuses_none g.S.Store old (known_of g.S.Store new) _ c.self.invariant law c.if-self.false)

pub returns-in-Err-clause-old : goal.returns-in-Err-clause-old
returns-in-Err-clause-old g c =
    let i = c.self.inside in
    let old : Kept g.row.S.Denot = record { conn = i.conn; is_old = i.is_old; faults = i.faults; last = i.last.value } in
    let new : Kept g.row.S.Denot = record { conn = c.commit.new.conn; is_old = i.is_old; faults = i.faults; last = c.of-in-Err.result.value } in
    let laws = g.met.S.Store in
    let law = lawful g.S.Store old.conn (laws.shut_if_dirty old.conn.store) (λ db o r. laws.settled old.conn.store db o r) (laws.stays old.conn.store) in
    rw (← c.self.view_is) (refuses_none g.S.Store old (known_of g.S.Store new) _ c.self.invariant law c.if-self.false)
