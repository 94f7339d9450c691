use Rattle.std.proofs.Common.{◌≡◌}
use Rattle.session_rules.specs.StoreTexts.{outcome_word, rebuild_text}
use Rattle.store_reports.proofs.Lines.{line_written, when_ok}
use Rattle.store_reports.proofs.rows.write_result.Goals as goal

pub returns : goal.returns
returns c =
    let word : c.as_bytes.result.now ≡ outcome_word c.args.row.now = rw c.as_bytes.ensures.value c.outcome_word.ensures in
    let rebuild : c.as_bytes-2.result.now ≡ rebuild_text c.args.row.now = rw c.as_bytes-2.ensures.value c.rebuild_text.ensures in
    when_ok _ _ _ _ _ c.extend_from_slice-4.ensures.items
    (line_written c.args.row.now c.args.out.now.items c.write_target.new.out.items c.extend_from_slice.new.self.items c.extend_from_slice-2.new.self.items c.write_end.new.out.items c.extend_from_slice-3.new.self.items
    c.in_ok-write_target.ensures c.in_ok-extend_from_slice.ensures.items (rw word at c.in_ok-extend_from_slice-2.ensures.items) c.in_ok-write_end.ensures (rw rebuild at c.in_ok-extend_from_slice-3.ensures.items))
