use Rattle.std.proofs.Common.{◌≡◌, drop}
use Rattle.term_core.specs.Evaluation.{innermost}
use Rattle.visit_rules.proofs.states.value_of.Given as goal

abbrev pub invariant-loop-binding : goal.invariant-loop-binding
invariant-loop-binding l = innermost l.found (drop l.binding-index l.bound) l.name ≡ innermost l.initial.found l.bound l.name
