use Rattle.std.proofs.Common.{◌≡◌, ◌^◌, ◌<◌, drop, map, sum, []}
use Rattle.term_core.specs.Limits.{terms_in}
use Rattle.term_check.specs.Faults.{node_fault}
use Rattle.term_check.proofs.checking.node_fault.Given as goal

abbrev pub invariant-loop-i : goal.invariant-loop-i
invariant-loop-i l = record {
  room : sum (map (λ d. terms_in d.term) (drop l.i l.program.nodes)) < 2 ^ 32;
  left : node_fault l.program l.i l.earlier l.deep (drop l.i l.program.nodes) ≡ node_fault l.program 0 [] 0 l.program.nodes;
}
