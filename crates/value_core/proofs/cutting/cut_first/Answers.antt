use Rattle.std.proofs.Common.{◌≡◌, ◌+◌, sym, ◌∙◌, arith}
use Rattle.std.specs.List.{position_or_len}
use Rattle.value_core.specs.Cuts.{separates}
use Rattle.value_core.proofs.Cuts.{separator_boundary, behind_separator, split_whole, split_cut}
use Rattle.value_core.proofs.Nuls.{no_nul_take, no_nul_drop}
use Rattle.value_core.proofs.cutting.cut_first.Goals as goal

pub returns-then-len-text-clause-cut : goal.returns-then-len-text-clause-cut
returns-then-len-text-clause-cut c =
    let at : c.piece_len-len.result ≡ position_or_len (separates c.args.separator) c.args.text.now = rw c.as_bytes.ensures.value at c.piece_len-len.ensures.value in
    split_whole (separates c.args.separator) c.args.text.now (sym at ∙ c.if-len-text.true)

pub split_at-requires : goal.split_at-requires
split_at-requires c =
    let at : c.piece_len-len.result ≡ position_or_len (separates c.args.separator) c.args.text.now = rw c.as_bytes.ensures.value at c.piece_len-len.ensures.value in
    separator_boundary c.args.separator c.args.text.now _ c.utf8.text at (omega arith)

pub split_at-requires-2 : goal.split_at-requires-2
split_at-requires-2 c =
    let at : c.piece_len-len.result ≡ position_or_len (separates c.args.separator) c.args.text.now = rw c.as_bytes.ensures.value at c.piece_len-len.ensures.value in
    behind_separator c.args.separator c.args.text.now _ c.utf8.text at (omega arith)

pub returns-clause-cut : goal.returns-clause-cut
returns-clause-cut c =
    let at : c.piece_len-len.result ≡ position_or_len (separates c.args.separator) c.args.text.now = rw c.as_bytes.ensures.value at c.piece_len-len.ensures.value in
    split_cut c.args.separator c.args.text.now _ _ c.piece_len-len.result at (omega arith) c.split_at.ensures.front c.split_at-2.ensures.back

pub returns-clause-no_nul : goal.returns-clause-no_nul
returns-clause-no_nul c = rw c.split_at.ensures.front (no_nul_take c.piece_len-len.result c.args.text.now c.requires)

pub returns-clause-rest_no_nul : goal.returns-clause-rest_no_nul
returns-clause-rest_no_nul c = rw c.split_at-2.ensures.back (no_nul_drop (c.piece_len-len.result + 1) c.args.text.now c.requires)
