use Rattle.std.proofs.Common.{◌≡◌, drop}
use Rattle.std.specs.List.{list_any}
use Rattle.term_check.specs.Reports.{has_body, some_term}
use Rattle.term_check.proofs.report.+has_bodies.Given as goal

abbrev pub invariant-loop-part : goal.invariant-loop-part
invariant-loop-part l = list_any (some_term has_body) (drop l.part-index l.part-items) ≡ some_term has_body l.term
