use Rattle.std.proofs.Common.{◌≡◌, drop}
use Rattle.std.specs.List.{list_any}
use Rattle.term_check.specs.Reports.{names_here, some_term}
use Rattle.term_check.proofs.report.+names.Given as goal

abbrev pub invariant-loop-part : goal.invariant-loop-part
invariant-loop-part l = list_any (some_term (names_here l.role l.name)) (drop l.part-index l.part-items) ≡ some_term (names_here l.role l.name) l.term
