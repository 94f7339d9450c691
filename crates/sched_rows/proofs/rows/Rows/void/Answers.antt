use Rattle.std.proofs.Common.{ap, sym, is_some, arith}
use Rattle.sched_rows.specs.RowKeys.{row_key}
use Rattle.sched_rows.proofs.KeptLaws.{an_item, expiries_absent, expiries_remove, no_expiry, no_row, orderly_remove, row_at, rows_absent, rows_remove}
use Rattle.sched_rows.proofs.rows.Rows.void.Goals as goal

pub invariant_of-self : goal.invariant_of-self
invariant_of-self c =
    let at = rw c.as_slice.ensures.value at c.in-Ok.ensures in
    let hs = c.self.inside.held.items in
    let room = c.self.invariant.room in
    let index_room = c.self.invariant.index_room in
    record {
      orderly = orderly_remove hs c.remove_at.new.held.items c.self.inside.index.set c.remove_at.new.index.set (row_key c.args.op.now c.args.key.now) c.in-Ok.place (an_item hs c.in-Ok.place at.within) c.self.invariant.orderly at c.remove_at.ensures.items c.remove_at.ensures.indexed;
      room = omega arith;
      index_room = omega arith;
    }

pub returns-in-Ok-clause-removed : goal.returns-in-Ok-clause-removed
returns-in-Ok-clause-removed c =
    let at = rw c.as_slice.ensures.value at c.in-Ok.ensures in
    let hs = c.self.inside.held.items in
    sym (ap is_some (row_at hs c.args.self.now.rows (row_key c.args.op.now c.args.key.now) c.in-Ok.place (an_item hs c.in-Ok.place at.within) (ap (λ k. k.rows) c.self.view_is) c.self.invariant.orderly.ordered at))

pub returns-in-Ok-clause-after : goal.returns-in-Ok-clause-after
returns-in-Ok-clause-after c =
    let at = rw c.as_slice.ensures.value at c.in-Ok.ensures in
    let hs = c.self.inside.held.items in
    let key = row_key c.args.op.now c.args.key.now in
    let d = an_item hs c.in-Ok.place at.within in
    let rows = rows_remove hs c.remove_at.new.held.items c.args.self.now.rows key c.in-Ok.place d (ap (λ k. k.rows) c.self.view_is) c.self.invariant.orderly.ordered at c.remove_at.ensures.items in
    let expiries = expiries_remove hs c.remove_at.new.held.items c.args.self.now.expiries key c.in-Ok.place d (ap (λ k. k.expiries) c.self.view_is) c.self.invariant.orderly.ordered at c.remove_at.ensures.items in
    let spare = ap (λ k. k.spare) c.self.view_is in
    λ i. record { rows = rows i; expiries = expiries i; spare = spare i }

pub returns-in-Err-clause-removed : goal.returns-in-Err-clause-removed
returns-in-Err-clause-removed c =
    let gap = rw c.as_slice.ensures.value at c.in-Err.ensures in
    sym (ap is_some (no_row c.self.inside.held.items c.args.self.now.rows (row_key c.args.op.now c.args.key.now) c.in-Err.field-0 (ap (λ k. k.rows) c.self.view_is) c.self.invariant.orderly.ordered gap))

pub returns-in-Err-clause-after : goal.returns-in-Err-clause-after
returns-in-Err-clause-after c =
    let gap = rw c.as_slice.ensures.value at c.in-Err.ensures in
    let key = row_key c.args.op.now c.args.key.now in
    let rows = rows_absent c.args.self.now.rows key (no_row c.self.inside.held.items c.args.self.now.rows key c.in-Err.field-0 (ap (λ k. k.rows) c.self.view_is) c.self.invariant.orderly.ordered gap) in
    let expiries = expiries_absent c.args.self.now.expiries key (no_expiry c.self.inside.held.items c.args.self.now.expiries key c.in-Err.field-0 (ap (λ k. k.expiries) c.self.view_is) c.self.invariant.orderly.ordered gap) in
    λ i. record { rows = rows i; expiries = expiries i; spare = c.args.self.now.spare }
