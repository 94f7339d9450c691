use Rattle.std.proofs.Common.{◌∙◌, ◌-◌, ap, sym, Some, arith}
use Rattle.sched_rows.specs.declared.holding.Held.{Held}
use Rattle.sched_rows.specs.RowKeys.{key_of}
use Rattle.sched_rows.proofs.KeptLaws.{expiries_insert, expiries_set, no_row, orderly_insert, orderly_set, row_at, rows_insert, rows_set}
use Rattle.sched_rows.proofs.rows.Rows.put_spare.Goals as goal

pub invariant_of-self : goal.invariant_of-self
invariant_of-self c =
    let at = rw c.as_slice.ensures.value at c.in-Ok.ensures in
    let hs = c.self.inside.held.items in
    let one : Held = record { row = c.args.row; expiry = c.args.expiry.now } in
    let room = c.self.invariant.room in
    let index_room = c.self.invariant.index_room in
    record {
      orderly = orderly_set hs c.replace_at-row.new.held.items c.self.inside.index.set c.replace_at-row.new.index.set c.in-Ok.place one c.self.invariant.orderly at (c.requires.finished, c.requires.expiry) c.replace_at-row.ensures.items c.replace_at-row.ensures.indexed;
      room = omega arith;
      index_room = omega arith;
    }

pub invariant_of-self-in-Err : goal.invariant_of-self-in-Err
invariant_of-self-in-Err c =
    let gap = rw c.as_slice.ensures.value at c.in-Err.ensures in
    let hs = c.self.inside.held.items in
    let one : Held = record { row = c.args.row; expiry = c.args.expiry.now } in
    let room = c.self.invariant.room in
    let index_room = c.self.invariant.index_room in
    let spare = c.requires.spare in
    let spare_is = ap (λ k. k.spare) c.self.view_is in
    record {
      orderly = orderly_insert hs c.insert_at.new.held.items c.self.inside.index.set c.insert_at.new.index.set c.in-Err.place one c.self.invariant.orderly gap (c.requires.finished, c.requires.expiry) c.insert_at.ensures.items c.insert_at.ensures.indexed;
      room = omega arith;
      index_room = omega arith;
    }

pub returns-in-Ok-clause-replaced : goal.returns-in-Ok-clause-replaced
returns-in-Ok-clause-replaced c =
    let at = rw c.as_slice.ensures.value at c.in-Ok.ensures in
    let one : Held = record { row = c.args.row; expiry = c.args.expiry.now } in
    ap (λ (h : Held). Some h.row) c.replace_at-row.ensures.value
    ∙ sym (row_at c.self.inside.held.items c.args.self.now.rows (key_of c.args.row) c.in-Ok.place one (ap (λ k. k.rows) c.self.view_is) c.self.invariant.orderly.ordered at)

pub returns-in-Ok-clause-after : goal.returns-in-Ok-clause-after
returns-in-Ok-clause-after c =
    let at = rw c.as_slice.ensures.value at c.in-Ok.ensures in
    let hs = c.self.inside.held.items in
    let one : Held = record { row = c.args.row; expiry = c.args.expiry.now } in
    let rows = rows_set hs c.replace_at-row.new.held.items c.args.self.now.rows c.in-Ok.place one (ap (λ k. k.rows) c.self.view_is) c.self.invariant.orderly.ordered at c.replace_at-row.ensures.items in
    let expiries = expiries_set hs c.replace_at-row.new.held.items c.args.self.now.expiries c.in-Ok.place one (ap (λ k. k.expiries) c.self.view_is) c.self.invariant.orderly.ordered at c.replace_at-row.ensures.items in
    let spare = ap (λ k. k.spare - 1) c.self.view_is in
    λ i. record { rows = rows i; expiries = expiries i; spare = spare i }

pub returns-in-Err-clause-replaced : goal.returns-in-Err-clause-replaced
returns-in-Err-clause-replaced c =
    let gap = rw c.as_slice.ensures.value at c.in-Err.ensures in
    sym (no_row c.self.inside.held.items c.args.self.now.rows (key_of c.args.row) c.in-Err.place (ap (λ k. k.rows) c.self.view_is) c.self.invariant.orderly.ordered gap)

pub returns-in-Err-clause-after : goal.returns-in-Err-clause-after
returns-in-Err-clause-after c =
    let gap = rw c.as_slice.ensures.value at c.in-Err.ensures in
    let hs = c.self.inside.held.items in
    let one : Held = record { row = c.args.row; expiry = c.args.expiry.now } in
    let rows = rows_insert hs c.insert_at.new.held.items c.args.self.now.rows c.in-Err.place one (ap (λ k. k.rows) c.self.view_is) c.self.invariant.orderly.ordered gap c.insert_at.ensures.items in
    let expiries = expiries_insert hs c.insert_at.new.held.items c.args.self.now.expiries c.in-Err.place one (ap (λ k. k.expiries) c.self.view_is) c.self.invariant.orderly.ordered gap c.insert_at.ensures.items in
    let spare = ap (λ k. k.spare - 1) c.self.view_is in
    λ i. record { rows = rows i; expiries = expiries i; spare = spare i }
