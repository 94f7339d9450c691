use Rattle.std.proofs.Common.{◌≡◌, ◌+◌, ◌*◌, ◌^◌, ◌<◌, max, map, sum, drop}
use Rattle.term_core.specs.Limits.{terms_in}
use Rattle.term_core.specs.declared.program.Term.{size-Term}
use Rattle.term_check.specs.Typing.{all_from, verdict_of}
use Rattle.term_check.proofs.typing.Checker.+checking.Given as goal

abbrev pub decreases-term : goal.decreases-term
decreases-term l = 4 * size-Term l.term.now + 3

abbrev pub decreases-parts : goal.decreases-parts
decreases-parts l = 4 * size-Term l.term.now + 2

abbrev pub decreases-under : goal.decreases-under
decreases-under l = 4 * size-Term l.body.term.now + 4

abbrev pub decreases-pair : goal.decreases-pair
decreases-pair l = 4 * max (size-Term l.a.now) (size-Term l.b.now) + 5

abbrev pub decreases-bind : goal.decreases-bind
decreases-bind l = 4 * max (size-Term l.left.now) (size-Term l.body.term.now) + 5

abbrev pub decreases-list : goal.decreases-list
decreases-list l = 4 * max (size-Term l.list.now) (size-Term l.body.term.now) + 5

abbrev pub decreases-gate : goal.decreases-gate
decreases-gate l = 4 * max (size-Term l.on.now) (size-Term l.term.now) + 5

abbrev pub decreases-output : goal.decreases-output
decreases-output l = 4 * max (size-Term l.key.now) (size-Term l.value.now) + 5

abbrev pub decreases-all : goal.decreases-all
decreases-all l = 4 * goal.size-all l + 5

abbrev pub invariant-all-loop-part : goal.invariant-all-loop-part
invariant-all-loop-part l =
    record {
      kept : l.self ≡ l.initial.self;
      room : l.position.at + sum (map terms_in (drop l.part-index l.terms)) < 2 ^ 32;
      left : all_from (map (λ t. verdict_of l.initial.self.context.program.now l.initial.self.context.earlier.now t l.initial.self.bound) (drop l.part-index l.terms)) l.position ≡ all_from (map (λ t. verdict_of l.initial.self.context.program.now l.initial.self.context.earlier.now t l.initial.self.bound) l.terms) l.initial.position;
    }
