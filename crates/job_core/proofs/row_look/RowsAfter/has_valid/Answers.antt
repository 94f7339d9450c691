use Rattle.std.proofs.Common.{not, ◌&&◌, sym, ap, ◌∙◌}
use Rattle.std.specs.Prelude.{if◌then◌else◌}
use Rattle.std.specs.FinMap.{get}
use Rattle.sched_rows.specs.RowKeys.{row_key}
use Rattle.core_rules.specs.Entries.{with_value}
use Rattle.job_core.specs.RowTests.{is_valid_row}
use Rattle.core_rules.specs.Own.{rows_made}
use Rattle.core_rules.specs.declared.own.RowChange.{RowChange}
use Rattle.job_core.proofs.RowLookups.{looked, mark_look, put_look, void_look}
use Rattle.job_core.proofs.row_look.RowsAfter.has_valid.Goals as goal

pub returns-then-is_key : goal.returns-then-is_key
returns-then-is_key c =
    c.is_valid.ensures
    ∙ ap (λ b. if b then is_valid_row c.args.op.now.expiry c.args.self.now.moment (with_value c.args.triple.now.value c.in-Put.row) else looked c.args.op.now.expiry c.args.self.now.moment c.args.triple.now.value (get c.args.self.now.rows.now.rows (row_key c.args.op.now.name c.args.triple.now.key))) (sym c.if-is_key.true)
    ∙ sym (put_look c.args.op.now.expiry c.args.self.now.moment c.args.triple.now.value c.args.op.now.name c.args.triple.now.key c.args.self.now.rows.now.rows c.in-Put.row c.is_key.result c.is_key.ensures)
    ∙ ap (λ (x : RowChange). looked c.args.op.now.expiry c.args.self.now.moment c.args.triple.now.value (get (rows_made x c.args.self.now.rows.now.rows) (row_key c.args.op.now.name c.args.triple.now.key))) (sym c.in-Put.is)

pub returns-else-is_key : goal.returns-else-is_key
returns-else-is_key c =
    c.has_valid-else-is_key.ensures
    ∙ ap (λ b. if b then is_valid_row c.args.op.now.expiry c.args.self.now.moment (with_value c.args.triple.now.value c.in-Put.row) else looked c.args.op.now.expiry c.args.self.now.moment c.args.triple.now.value (get c.args.self.now.rows.now.rows (row_key c.args.op.now.name c.args.triple.now.key))) (sym c.if-is_key.false)
    ∙ sym (put_look c.args.op.now.expiry c.args.self.now.moment c.args.triple.now.value c.args.op.now.name c.args.triple.now.key c.args.self.now.rows.now.rows c.in-Put.row c.is_key.result c.is_key.ensures)
    ∙ ap (λ (x : RowChange). looked c.args.op.now.expiry c.args.self.now.moment c.args.triple.now.value (get (rows_made x c.args.self.now.rows.now.rows) (row_key c.args.op.now.name c.args.triple.now.key))) (sym c.in-Put.is)

pub returns-then-is_key-2 : goal.returns-then-is_key-2
returns-then-is_key-2 c =
    ap (λ b. not b && looked c.args.op.now.expiry c.args.self.now.moment c.args.triple.now.value (get c.args.self.now.rows.now.rows (row_key c.args.op.now.name c.args.triple.now.key))) (sym c.if-is_key-2.true)
    ∙ sym (void_look c.args.op.now.expiry c.args.self.now.moment c.args.triple.now.value c.args.op.now.name c.args.triple.now.key c.in-Void.name c.in-Void.key c.args.self.now.rows.now.rows c.is_key-in-Void.result c.is_key-in-Void.ensures)
    ∙ ap (λ (x : RowChange). looked c.args.op.now.expiry c.args.self.now.moment c.args.triple.now.value (get (rows_made x c.args.self.now.rows.now.rows) (row_key c.args.op.now.name c.args.triple.now.key))) (sym c.in-Void.is)

pub returns-else-is_key-2 : goal.returns-else-is_key-2
returns-else-is_key-2 c =
    c.has_valid-else-is_key-2.ensures
    ∙ ap (λ b. not b && looked c.args.op.now.expiry c.args.self.now.moment c.args.triple.now.value (get c.args.self.now.rows.now.rows (row_key c.args.op.now.name c.args.triple.now.key))) (sym c.if-is_key-2.false)
    ∙ sym (void_look c.args.op.now.expiry c.args.self.now.moment c.args.triple.now.value c.args.op.now.name c.args.triple.now.key c.in-Void.name c.in-Void.key c.args.self.now.rows.now.rows c.is_key-in-Void.result c.is_key-in-Void.ensures)
    ∙ ap (λ (x : RowChange). looked c.args.op.now.expiry c.args.self.now.moment c.args.triple.now.value (get (rows_made x c.args.self.now.rows.now.rows) (row_key c.args.op.now.name c.args.triple.now.key))) (sym c.in-Void.is)

pub returns-then-is_key-3 : goal.returns-then-is_key-3
returns-then-is_key-3 c =
    ap (λ b. not b && looked c.args.op.now.expiry c.args.self.now.moment c.args.triple.now.value (get c.args.self.now.rows.now.rows (row_key c.args.op.now.name c.args.triple.now.key))) (sym c.if-is_key-3.true)
    ∙ sym (mark_look c.args.op.now.expiry c.args.self.now.moment c.args.triple.now.value c.args.op.now.name c.args.triple.now.key c.in-Mark.name c.in-Mark.key c.args.self.now.rows.now.rows c.is_key-in-Mark.result c.is_key-in-Mark.ensures)
    ∙ ap (λ (x : RowChange). looked c.args.op.now.expiry c.args.self.now.moment c.args.triple.now.value (get (rows_made x c.args.self.now.rows.now.rows) (row_key c.args.op.now.name c.args.triple.now.key))) (sym c.in-Mark.is)

pub returns-else-is_key-3 : goal.returns-else-is_key-3
returns-else-is_key-3 c =
    c.has_valid-else-is_key-3.ensures
    ∙ ap (λ b. not b && looked c.args.op.now.expiry c.args.self.now.moment c.args.triple.now.value (get c.args.self.now.rows.now.rows (row_key c.args.op.now.name c.args.triple.now.key))) (sym c.if-is_key-3.false)
    ∙ sym (mark_look c.args.op.now.expiry c.args.self.now.moment c.args.triple.now.value c.args.op.now.name c.args.triple.now.key c.in-Mark.name c.in-Mark.key c.args.self.now.rows.now.rows c.is_key-in-Mark.result c.is_key-in-Mark.ensures)
    ∙ ap (λ (x : RowChange). looked c.args.op.now.expiry c.args.self.now.moment c.args.triple.now.value (get (rows_made x c.args.self.now.rows.now.rows) (row_key c.args.op.now.name c.args.triple.now.key))) (sym c.in-Mark.is)
