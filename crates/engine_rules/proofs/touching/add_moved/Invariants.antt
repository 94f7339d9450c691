use Rattle.std.proofs.Common.{◌≡◌, ◌++◌, drop, filter}
use Rattle.engine_rules.specs.Conflicts.{triples_of}
use Rattle.engine_rules.specs.Touched.{is_moved}
use Rattle.engine_rules.proofs.touching.add_moved.Given as goal

abbrev pub invariant-loop-want : goal.invariant-loop-want
invariant-loop-want g l = l.out ++ filter (is_moved l.threshold (g.P.Lookups.state l.parts)) (triples_of (drop l.want-index l.wants))
    ≡ l.initial.out ++ filter (is_moved l.threshold (g.P.Lookups.state l.parts)) (triples_of l.wants)
