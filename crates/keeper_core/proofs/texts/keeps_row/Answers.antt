use Rattle.std.specs.Prelude.{nat_le, length}
use Rattle.value_core.specs.Texts.{is_text}
use Rattle.value_core.proofs.Basics.{and_both, is_nat_le}
use Rattle.keeper_core.proofs.texts.keeps_row.Goals as goal

pub returns : goal.returns
returns c =
    let r = c.args.row.now in
    let short = c.requires.short in
    record {
      op = c.requires.op;
      key = and_both (nat_le (length r.key) 65536) (is_text r.key) (is_nat_le (length r.key) 65536 short.key) c.keeps_text.ensures;
      value = and_both (nat_le (length r.value) 65536) (is_text r.value) (is_nat_le (length r.value) 65536 short.value) c.keeps_text-2.ensures;
      result = and_both (nat_le (length r.result) 65536) (is_text r.result) (is_nat_le (length r.result) 65536 short.result) c.keeps_text-3.ensures;
    }
