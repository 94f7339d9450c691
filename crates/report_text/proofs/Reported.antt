-- The numbers that a report lists are those of declarations.
use Rattle.std.proofs.Common.{◌≡◌, ℕ, ◌+◌, ◌<◌, ◌≤◌, Bool, true, false, List, [], ◌∷◌, length, subst, sym, arith}
use Rattle.std.specs.Prelude.{if◌then◌else◌}
use Rattle.std.specs.List.{All}
use Rattle.std.proofs.lemmas.List.Elements.{All-nil, All-cons}
use Rattle.term_core.specs.declared.program.Program.{Program}
use Rattle.term_check.specs.declared.report.Report.{Report}
use Rattle.term_check.specs.Reports.{is_used_input, is_used_op, numbers_where, report_of}
use Rattle.report_text.specs.Reports.{AreNumbersOf}

-- one number more, or none
one_more : (b : Bool) (m at : ℕ) (ns : List ℕ) → at < m → All (λ n. n < m) ns → All (λ n. n < m) (if b then at ∷ ns else ns)
one_more true m at ns below all = All-cons (λ n. n < m) at ns below all
one_more false m at ns below all = all

numbers_below : {D : Type 0} (test : D → Bool) (m at : ℕ) (ds : List D) → at + length ds ≤ m → All (λ n. n < m) (numbers_where test at ds)
numbers_below test m at [] few = All-nil (λ n. n < m)
numbers_below test m at (d ∷ ds) few = one_more (test d) m at (numbers_where test (at + 1) ds) (omega (arith, few)) (numbers_below test m (at + 1) ds (omega (arith, few)))

pub inputs_reported : (p : Program) (r : Report) → r ≡ report_of p → AreNumbersOf p.inputs r.inputs
unfolding report_of
inputs_reported p r is = subst (λ (s : Report). AreNumbersOf p.inputs s.inputs) (sym is) (numbers_below (is_used_input p) (length p.inputs) 0 p.inputs (omega arith))

pub ops_reported : (p : Program) (r : Report) → r ≡ report_of p → AreNumbersOf p.ops r.ops
unfolding report_of
ops_reported p r is = subst (λ (s : Report). AreNumbersOf p.ops s.ops) (sym is) (numbers_below (is_used_op p) (length p.ops) 0 p.ops (omega arith))
