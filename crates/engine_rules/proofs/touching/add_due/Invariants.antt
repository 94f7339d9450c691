use Rattle.std.proofs.Common.{◌≡◌, ◌++◌, drop}
use Rattle.std.specs.List.{flat_map}
use Rattle.engine_rules.specs.Touched.{triple_at}
use Rattle.engine_rules.proofs.touching.add_due.Given as goal

abbrev pub invariant-loop-one : goal.invariant-loop-one
invariant-loop-one g l = l.out ++ flat_map (λ n. triple_at (g.P.Lookups.state l.parts) n.0 n.1) (drop l.one-index l.due)
    ≡ l.initial.out ++ flat_map (λ n. triple_at (g.P.Lookups.state l.parts) n.0 n.1) l.due
