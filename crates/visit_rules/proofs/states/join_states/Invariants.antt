use Rattle.std.proofs.Common.{◌≡◌}
use Rattle.std.specs.Vec.Iter.{into_iter_items}
use Rattle.term_core.proofs.Gathered.{resumed}
use Rattle.term_core.specs.Gathering.{start}
use Rattle.visit_rules.proofs.states.join_states.Given as goal

abbrev pub invariant-loop-state : goal.invariant-loop-state
invariant-loop-state l = resumed l.all (into_iter_items l.state-iterator) ≡ resumed start (into_iter_items l.initial.state-iterator)
