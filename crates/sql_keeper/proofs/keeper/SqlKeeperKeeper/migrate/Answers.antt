use Rattle.std.proofs.Common.{◌≡◌, ◌∙◌, if◌then◌else◌, Some, None, IsTrue, Err, refl, sym, ap, subst}
use Rattle.sqlite.specs.Held.{state}
use Rattle.keeper_core.specs.declared.tables.Table.TheVariants as table
use Rattle.keeper_core.specs.EitherSchema.{first_unmovable, is_current}
use Rattle.keeper_core.specs.KeeperCalls as calls
use Rattle.keeper_core.specs.declared.keeper.MigrateFault.{MigrateFault}
use Rattle.sql_keeper.specs.Kept.{Kept, known_of}
use Rattle.sql_keeper.specs.Rows.{stored_as}
use Rattle.sql_keeper.specs.inside.Keeping.{unmigrated}
use Rattle.sql_keeper.proofs.Knowing.{Reads, kept_still, knows_that, is_sure, lawful, migrates_err, same_last}
use Rattle.sql_keeper.proofs.keeper.SqlKeeperKeeper.migrate.Goals as goal

pub invariant_of-self : goal.invariant_of-self
invariant_of-self g c =
    let i = c.self.inside in
    let old : Kept g.row.S.Denot = record { conn = i.conn; is_old = i.is_old; faults = i.faults; last = i.last.value } in
    let new : Kept g.row.S.Denot = record { conn = c.says_current.new.conn; is_old = i.is_old; faults = i.faults; last = i.last.value } in
    let laws = g.met.S.Store in
    let law = lawful g.S.Store new.conn (laws.shut_if_dirty new.conn.store) (λ db o r. laws.settled new.conn.store db o r) (laws.stays new.conn.store) in
    let reads : Reads (state g.S.Store old.conn) (state g.S.Store new.conn) = record { same = c.says_current.ensures.same; survives = c.says_current.ensures.survives } in
    kept_still g.S.Store old new refl refl c.self.invariant law reads c.says_current.ensures.idle

pub invariant_of-self-in-Ok-false : goal.invariant_of-self-in-Ok-false
invariant_of-self-in-Ok-false g c =
    let i = c.self.inside in
    let old : Kept g.row.S.Denot = record { conn = i.conn; is_old = i.is_old; faults = i.faults; last = i.last.value } in
    let new : Kept g.row.S.Denot = record { conn = c.says_current.new.conn; is_old = i.is_old; faults = i.faults; last = i.last.value } in
    let laws = g.met.S.Store in
    let law = lawful g.S.Store new.conn (laws.shut_if_dirty new.conn.store) (λ db o r. laws.settled new.conn.store db o r) (laws.stays new.conn.store) in
    let reads : Reads (state g.S.Store old.conn) (state g.S.Store new.conn) = record { same = c.says_current.ensures.same; survives = c.says_current.ensures.survives } in
    kept_still g.S.Store old new refl refl c.self.invariant law reads c.says_current.ensures.idle

pub invariant_of-self-in-Err : goal.invariant_of-self-in-Err
invariant_of-self-in-Err g c =
    let i = c.self.inside in
    let old : Kept g.row.S.Denot = record { conn = i.conn; is_old = i.is_old; faults = i.faults; last = i.last.value } in
    let new : Kept g.row.S.Denot = record { conn = c.says_current.new.conn; is_old = i.is_old; faults = c.refusal.new.faults; last = i.last.value } in
    let laws = g.met.S.Store in
    let law = lawful g.S.Store new.conn (laws.shut_if_dirty new.conn.store) (λ db o r. laws.settled new.conn.store db o r) (laws.stays new.conn.store) in
    let reads : Reads (state g.S.Store old.conn) (state g.S.Store new.conn) = record { same = c.says_current.ensures.same; survives = c.says_current.ensures.survives } in
    kept_still g.S.Store old new refl refl c.self.invariant law reads c.says_current.ensures.idle

pub returns-in-Ok-true-clause-tables : goal.returns-in-Ok-true-clause-tables
returns-in-Ok-true-clause-tables g c =
    let i = c.self.inside in
    let old : Kept g.row.S.Denot = record { conn = i.conn; is_old = i.is_old; faults = i.faults; last = i.last.value } in
    let new : Kept g.row.S.Denot = record { conn = c.says_current.new.conn; is_old = i.is_old; faults = i.faults; last = i.last.value } in
    let laws = g.met.S.Store in
    let law = lawful g.S.Store new.conn (laws.shut_if_dirty new.conn.store) (λ db o r. laws.settled new.conn.store db o r) (laws.stays new.conn.store) in
    let reads : Reads (state g.S.Store old.conn) (state g.S.Store new.conn) = record { same = c.says_current.ensures.same; survives = c.says_current.ensures.survives } in
    let other = lawful g.S.Store new.last (laws.shut_if_dirty new.last.store) (λ db o r. laws.settled new.last.store db o r) (laws.stays new.last.store) in
    rw (← c.self.view_is) (
      knows_that g.S.Store old new refl refl c.self.invariant law reads (λ s. IsTrue (is_current s)) (λ clean. subst (λ b. IsTrue (is_current (stored_as b (state g.S.Store i.conn).now.trees))) (sym c.if-self.false) (sym (c.in-Ok-true.ensures.says clean) ∙ c.in-Ok-true.field-0-test)),
      is_sure g.S.Store old new law (kept_still g.S.Store old new refl refl c.self.invariant law reads c.says_current.ensures.idle) other,
    )

pub returns-in-Ok-false-clause-tables : goal.returns-in-Ok-false-clause-tables
returns-in-Ok-false-clause-tables g c =
    let i = c.self.inside in
    let old : Kept g.row.S.Denot = record { conn = i.conn; is_old = i.is_old; faults = i.faults; last = i.last.value } in
    let new : Kept g.row.S.Denot = record { conn = c.says_current.new.conn; is_old = i.is_old; faults = i.faults; last = i.last.value } in
    let laws = g.met.S.Store in
    let law = lawful g.S.Store new.conn (laws.shut_if_dirty new.conn.store) (λ db o r. laws.settled new.conn.store db o r) (laws.stays new.conn.store) in
    let reads : Reads (state g.S.Store old.conn) (state g.S.Store new.conn) = record { same = c.says_current.ensures.same; survives = c.says_current.ensures.survives } in
    rw (← c.self.view_is) (
      knows_that g.S.Store old new refl refl c.self.invariant law reads (λ s. first_unmovable s ≡ Some (table.Meta, 1)) (λ clean. subst (λ b. first_unmovable (stored_as b (state g.S.Store i.conn).now.trees) ≡ Some (table.Meta, 1)) (sym c.if-self.false) (ap (λ b. if b then None else Some (table.Meta, 1)) (sym (c.in-Ok-false.ensures.says clean) ∙ c.in-Ok-false.field-0-test))),
      same_last g.S.Store old new law refl,
    )

pub returns-in-Err-clause-tables : goal.returns-in-Err-clause-tables
returns-in-Err-clause-tables g c =
    let i = c.self.inside in
    let old : Kept g.row.S.Denot = record { conn = i.conn; is_old = i.is_old; faults = i.faults; last = i.last.value } in
    let new : Kept g.row.S.Denot = record { conn = c.says_current.new.conn; is_old = i.is_old; faults = c.refusal.new.faults; last = i.last.value } in
    let laws = g.met.S.Store in
    let law = lawful g.S.Store new.conn (laws.shut_if_dirty new.conn.store) (λ db o r. laws.settled new.conn.store db o r) (laws.stays new.conn.store) in
    let reads : Reads (state g.S.Store old.conn) (state g.S.Store new.conn) = record { same = c.says_current.ensures.same; survives = c.says_current.ensures.survives } in
    subst (λ (e : MigrateFault). calls.Migrates (known_of g.S.Store c.args.self.now) (known_of g.S.Store new) (Err e)) (sym c.unmigrated.ensures)
    (subst (λ (k : Kept g.row.S.Denot). calls.Migrates (known_of g.S.Store k) (known_of g.S.Store new) (Err (unmigrated c.refusal.result))) c.self.view_is (migrates_err g.S.Store old new refl refl c.self.invariant law reads c.refusal.result))
