use Rattle.std.proofs.Common.{◌≡◌, ◌++◌, drop}
use Rattle.term_check.specs.Reports.{is_used, numbers_where}
use Rattle.term_check.proofs.report.used.Given as goal

abbrev pub invariant-loop-i : goal.invariant-loop-i
invariant-loop-i g l =
    l.numbers ++ numbers_where (is_used l.program l.role g.D.Named.named) l.i (drop l.i l.decls)
    ≡ numbers_where (is_used l.program l.role g.D.Named.named) 0 l.decls
