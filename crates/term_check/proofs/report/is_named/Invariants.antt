use Rattle.std.proofs.Common.{◌≡◌, drop}
use Rattle.std.specs.List.{list_any}
use Rattle.term_check.specs.Reports.{in_some_node, names_here, some_term}
use Rattle.term_check.proofs.report.is_named.Given as goal

abbrev pub invariant-loop-node : goal.invariant-loop-node
invariant-loop-node l = list_any (λ d. some_term (names_here l.role l.name) d.term) (drop l.node-index l.node-items) ≡ in_some_node (names_here l.role l.name) l.program
