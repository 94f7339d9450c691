use Rattle.std.proofs.Common.{◌≡◌, ◌+◌, ◌∷◌, ◌∙◌, sym, ap, drop, arith}
use Rattle.std.proofs.lemmas.Grind.{common_steps}
use Rattle.term_check.specs.Reports.{in_some_node, is_used, names_here}
use Rattle.term_check.proofs.Parts.{number_left, number_taken}
use Rattle.term_check.proofs.report.used.Goals as goal
use Rattle.term_check.proofs.report.used.Goals.{then-is_named+in_ok-push, else-is_named}

pub loop-i-preserved : goal.loop-i-preserved
loop-i-preserved g c =
    let cons : drop c.loop-i.i c.args.decls.now ≡ c.index-decls-i.result ∷ drop (c.loop-i.i + 1) c.args.decls.now = grind (arith, common_steps) in
    let named = ap (λ n. in_some_node (names_here c.args.role n) c.args.program.now) (sym c.name.ensures) in
    elim c.if-is_named.branch [
      | then-is_named+in_ok-push w ↦
          rw (w.numbers-is, w.in_ok-push.ensures.ok)
          (number_taken (is_used c.args.program.now c.args.role g.D.Named.named) c.args.decls.now c.loop-i.i c.index-decls-i.result c.loop-i.numbers cons (named ∙ sym c.is_named.ensures ∙ w.if-is_named.true) ∙ c.loop-i.invariant)
      | else-is_named w ↦
          rw w.numbers-is
          (number_left (is_used c.args.program.now c.args.role g.D.Named.named) c.args.decls.now c.loop-i.i c.index-decls-i.result c.loop-i.numbers cons (named ∙ sym c.is_named.ensures ∙ w.if-is_named.false) ∙ c.loop-i.invariant)
    ]
