use Rattle.std.proofs.Common.{◌≡◌, ◌+◌, ◌∷◌, ◌∙◌, sym, drop, arith}
use Rattle.std.proofs.lemmas.Grind.{common_steps}
use Rattle.term_check.specs.Reports.{is_used_op}
use Rattle.term_check.proofs.Parts.{level_left, level_taken}
use Rattle.term_check.proofs.report.greatest_level.Goals as goal
use Rattle.term_check.proofs.report.greatest_level.Goals.{then-is_named, else-is_named}

pub loop-op-preserved : goal.loop-op-preserved
loop-op-preserved c =
    let cons : drop c.loop-op.op-index c.as_slice-op-items.result.now ≡ c.op-item.result ∷ drop (c.loop-op.op-index + 1) c.as_slice-op-items.result.now = grind (arith, common_steps) in
    elim c.if-is_named.branch [
      | then-is_named w ↦
          rw (w.found-is, w.higher.ensures)
          (level_taken (is_used_op c.args.program.now) c.as_slice-op-items.result.now c.loop-op.op-index c.op-item.result c.loop-op.found cons (sym c.is_named.ensures ∙ w.if-is_named.true) ∙ c.loop-op.invariant)
      | else-is_named w ↦
          rw w.found-is
          (level_left (is_used_op c.args.program.now) c.as_slice-op-items.result.now c.loop-op.op-index c.op-item.result c.loop-op.found cons (sym c.is_named.ensures ∙ w.if-is_named.false) ∙ c.loop-op.invariant)
    ]
