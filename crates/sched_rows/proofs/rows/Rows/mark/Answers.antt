use Rattle.std.proofs.Common.{ap, sym, is_some, arith}
use Rattle.sched_rows.specs.RowKeys.{row_key}
use Rattle.sched_rows.specs.Rows.{mark_found}
use Rattle.sched_rows.proofs.KeptLaws.{an_item, expiries_mark, no_row, orderly_mark, row_at, rows_mark}
use Rattle.sched_rows.proofs.rows.Rows.mark.Goals as goal

pub invariant_of-self : goal.invariant_of-self
invariant_of-self c =
    let at = rw c.as_slice.ensures.value at c.in-Ok.ensures in
    let hs = c.self.inside.held.items in
    let d = an_item hs c.in-Ok.place at.within in
    let room = c.self.invariant.room in
    let index_room = c.self.invariant.index_room in
    record {
      orderly = orderly_mark hs c.mark_at.new.held.items c.self.inside.index.set c.mark_at.new.index.set (row_key c.args.op.now c.args.key.now) c.in-Ok.place d c.self.invariant.orderly at (c.mark_at.ensures.items d) c.mark_at.ensures.indexed;
      room = omega arith;
      index_room = omega arith;
    }

pub returns-in-Ok-clause-found : goal.returns-in-Ok-clause-found
returns-in-Ok-clause-found c =
    let at = rw c.as_slice.ensures.value at c.in-Ok.ensures in
    let hs = c.self.inside.held.items in
    sym (ap is_some (row_at hs c.args.self.now.rows (row_key c.args.op.now c.args.key.now) c.in-Ok.place (an_item hs c.in-Ok.place at.within) (ap (λ k. k.rows) c.self.view_is) c.self.invariant.orderly.ordered at))

pub returns-in-Ok-clause-after : goal.returns-in-Ok-clause-after
returns-in-Ok-clause-after c =
    let at = rw c.as_slice.ensures.value at c.in-Ok.ensures in
    let hs = c.self.inside.held.items in
    let key = row_key c.args.op.now c.args.key.now in
    let d = an_item hs c.in-Ok.place at.within in
    let rows = rows_mark hs c.mark_at.new.held.items c.args.self.now.rows key c.in-Ok.place d (ap (λ k. k.rows) c.self.view_is) c.self.invariant.orderly.ordered at (c.mark_at.ensures.items d) in
    let expiries = expiries_mark hs c.mark_at.new.held.items c.args.self.now.expiries key c.in-Ok.place d (ap (λ k. k.expiries) c.self.view_is) c.self.invariant.orderly.ordered at (c.mark_at.ensures.items d) in
    let spare = ap (λ k. k.spare) c.self.view_is in
    λ i. record { rows = rows i; expiries = expiries i; spare = spare i }

pub returns-in-Err-clause-found : goal.returns-in-Err-clause-found
returns-in-Err-clause-found c =
    let gap = rw c.as_slice.ensures.value at c.in-Err.ensures in
    sym (ap is_some (no_row c.self.inside.held.items c.args.self.now.rows (row_key c.args.op.now c.args.key.now) c.in-Err.field-0 (ap (λ k. k.rows) c.self.view_is) c.self.invariant.orderly.ordered gap))

pub returns-in-Err-clause-after : goal.returns-in-Err-clause-after
returns-in-Err-clause-after c =
    let gap = rw c.as_slice.ensures.value at c.in-Err.ensures in
    let key = row_key c.args.op.now c.args.key.now in
    let none = no_row c.self.inside.held.items c.args.self.now.rows key c.in-Err.field-0 (ap (λ k. k.rows) c.self.view_is) c.self.invariant.orderly.ordered gap in
    λ i. record { rows = sym (ap (λ o. mark_found key o c.args.self.now.rows) none) i; expiries = c.args.self.now.expiries; spare = c.args.self.now.spare }
