use Rattle.std.proofs.Common.{◌+◌, ◌*◌, ◌≤◌, max, map, drop}
use Rattle.std.specs.Vec.Iter.{into_iter_items}
use Rattle.term_core.specs.declared.program.Term.{size-Term}
use Rattle.term_core.specs.Evaluation.{bind, eval}
use Rattle.term_core.specs.Evaluators.{within}
use Rattle.term_core.proofs.Resumes.{Resumes}
use Rattle.term_core.proofs.evaluation.Evaluator.+evaluation.Given as goal

abbrev pub decreases-term : goal.decreases-term
decreases-term g l = 4 * size-Term l.term.now

abbrev pub decreases-map : goal.decreases-map
decreases-map g l = 4 * size-Term l.term.now + 1

abbrev pub decreases-outcome : goal.decreases-outcome
decreases-outcome g l = 4 * size-Term l.term.now + 1

abbrev pub decreases-pair : goal.decreases-pair
decreases-pair g l = 4 * max (size-Term l.a.now) (size-Term l.b.now) + 1

abbrev pub decreases-gate : goal.decreases-gate
decreases-gate g l = 4 * max (size-Term l.on.now) (size-Term l.term.now) + 1

abbrev pub decreases-under : goal.decreases-under
decreases-under g l = 4 * size-Term l.body.term.now + 1

abbrev pub decreases-items : goal.decreases-items
decreases-items g l = 4 * size-Term l.body.term.now + 2

abbrev pub decreases-bind : goal.decreases-bind
decreases-bind g l = 4 * max (size-Term l.left.now) (size-Term l.body.term.now) + 3

abbrev pub decreases-list : goal.decreases-list
decreases-list g l = 4 * max (size-Term l.list.now) (size-Term l.body.term.now) + 3

abbrev pub decreases-all : goal.decreases-all
decreases-all g l = 4 * goal.size-all g l + 1

abbrev pub decreases-build : goal.decreases-build
decreases-build g l = 4 * size-Term l.key.now + 1

abbrev pub decreases-output : goal.decreases-output
decreases-output g l = 4 * max (size-Term l.key.now) (size-Term l.value.now) + 1

abbrev pub invariant-all-loop-part : goal.invariant-all-loop-part
invariant-all-loop-part g l = record {
  not_fallen : l.initial.steps ≤ l.steps;
  resumes : Resumes l.all l.self l.steps
      (map (λ t. within g.E.Entries.world l.initial.self (λ c. eval c t)) (drop l.part-index l.terms))
      l.initial.self l.initial.steps
      (map (λ t. within g.E.Entries.world l.initial.self (λ c. eval c t)) l.terms);
}

abbrev pub invariant-items-loop-item : goal.invariant-items-loop-item
invariant-items-loop-item g l = record {
  can_next : (goal.iterator-items-loop-item g).can_next l.item-iterator;
  is_finite : (goal.iterator-items-loop-item g).is_finite l.item-iterator;
  not_fallen : l.initial.steps ≤ l.steps;
  resumes : Resumes l.all l.self l.steps
      (map (λ x. within g.E.Entries.world l.initial.self (λ c bound. eval c l.body.term.now (bind bound l.body.name.now x))) (into_iter_items l.item-iterator))
      l.initial.self l.initial.steps
      (map (λ x. within g.E.Entries.world l.initial.self (λ c bound. eval c l.body.term.now (bind bound l.body.name.now x))) (into_iter_items l.initial.item-iterator));
}
