use Rattle.std.proofs.Common.{◌∙◌, ap, sym, Some}
use Rattle.sched_rows.specs.RowKeys.{row_key}
use Rattle.sched_rows.specs.declared.holding.Held.{Held}
use Rattle.sched_rows.proofs.KeptLaws.{no_row, row_at}
use Rattle.sched_rows.proofs.rows.Rows.get.Goals as goal

pub returns-in-Ok-clause-row : goal.returns-in-Ok-clause-row
returns-in-Ok-clause-row c =
    ap (λ (h : Held). Some h.row) c.index.ensures
    ∙ sym (row_at c.self.inside.held.items c.args.self.now.rows (row_key c.args.op.now c.args.key.now) c.in-Ok.place c.index.result.now (ap (λ k. k.rows) c.self.view_is) c.self.invariant.orderly.ordered (rw c.as_slice.ensures.value at c.in-Ok.ensures))

pub returns-in-Err-clause-row : goal.returns-in-Err-clause-row
returns-in-Err-clause-row c =
    sym (no_row c.self.inside.held.items c.args.self.now.rows (row_key c.args.op.now c.args.key.now) c.in-Err.field-0 (ap (λ k. k.rows) c.self.view_is) c.self.invariant.orderly.ordered (rw c.as_slice.ensures.value at c.in-Err.ensures))
