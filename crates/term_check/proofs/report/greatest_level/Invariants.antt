use Rattle.std.proofs.Common.{◌≡◌, drop, map, None}
use Rattle.std.specs.List.{filter}
use Rattle.term_check.specs.Reports.{greatest_level, is_used_op}
use Rattle.term_check.proofs.report.greatest_level.Given as goal

abbrev pub invariant-loop-op : goal.invariant-loop-op
invariant-loop-op l = greatest_level l.found (map (λ d. d.level) (filter (is_used_op l.program) (drop l.op-index l.op-items))) ≡ greatest_level None (map (λ d. d.level) (filter (is_used_op l.program) l.program.ops))
