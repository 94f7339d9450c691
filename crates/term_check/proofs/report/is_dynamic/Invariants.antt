use Rattle.std.proofs.Common.{◌≡◌, drop}
use Rattle.std.specs.List.{list_any}
use Rattle.term_check.specs.Reports.{has_body, in_some_node, some_term}
use Rattle.term_check.proofs.report.is_dynamic.Given as goal

abbrev pub invariant-loop-node : goal.invariant-loop-node
invariant-loop-node l = list_any (λ d. some_term has_body d.term) (drop l.node-index l.node-items) ≡ in_some_node has_body l.program
