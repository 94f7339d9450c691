use Rattle.std.proofs.Common.{◌≡◌, ◌+◌, ◌∙◌, ◌∷◌, ℕ, refl, ap, drop, map, arith}
use Rattle.std.proofs.lemmas.Grind.{common_steps}
use Rattle.std.proofs.lemmas.List.Sums.{sum_by-cons}
use Rattle.value_core.specs.declared.value.Kind.TheVariants as kind
use Rattle.term_core.specs.Limits.{terms_in}
use Rattle.term_core.specs.Soundness.{item_kind, wanted_kind}
use Rattle.term_check.specs.declared.verdict.Position.{Position}
use Rattle.term_check.specs.declared.wanted.Wanted.TheVariants as wanted
use Rattle.term_check.proofs.Sounds.{all_step, next_at, next_expected}
use Rattle.term_check.proofs.typing.Checker.+checking.Goals as goal

pub bind-under-requires : goal.bind-under-requires
bind-under-requires t c =
    let next = next_at c.args.self.now.context.program.now c.args.self.now.context.earlier.now c.args.left.now c.args.self.now.bound c.args.position c.in_ok-kind.ensures.verdict c.in-Typed.is in
    let at = ap (λ (s : Position). s.at) c.behind-position.ensures in
    (omega arith, omega (arith, next, at))

pub gate-term-requires-in-Typed : goal.gate-term-requires-in-Typed
gate-term-requires-in-Typed t c =
    let next = next_expected c.args.self.now.context.program.now c.args.self.now.context.earlier.now c.args.on.now c.args.self.now.bound c.args.position (wanted_kind kind.Unit) wanted.Unit c.args.position.at c.in_ok-on.ensures.verdict c.of_kind.ensures c.in-Typed.is in
    let at = ap (λ (s : Position). s.at) c.behind.ensures in
    (omega arith, omega (arith, next, at))

pub list-under-requires : goal.list-under-requires
list-under-requires t c =
    let next = next_expected c.args.self.now.context.program.now c.args.self.now.context.earlier.now c.args.list.now c.args.self.now.bound c.args.position item_kind (wanted.List wanted.Any) c.args.position.at c.in_ok-list.ensures.verdict c.in_ok-kind.ensures c.in-Typed.is in
    let at = ap (λ (s : Position). s.at) c.in_body-position.ensures in
    (omega arith, omega (arith, next, at))

pub output-term-requires-in-Typed : goal.output-term-requires-in-Typed
output-term-requires-in-Typed t c =
    let next = next_expected c.args.self.now.context.program.now c.args.self.now.context.earlier.now c.args.key.now c.args.self.now.bound c.args.position (wanted_kind kind.Text) wanted.Text c.args.position.at c.in_ok-key.ensures.verdict c.of_kind.ensures c.in-Typed.is in
    let at = ap (λ (s : Position). s.at) c.behind.ensures in
    (omega arith, omega (arith, next, at))

pub pair-term-requires-in-Typed : goal.pair-term-requires-in-Typed
pair-term-requires-in-Typed t c =
    let next = next_at c.args.self.now.context.program.now c.args.self.now.context.earlier.now c.args.a.now c.args.self.now.bound c.args.position c.in_ok-kind.ensures.verdict c.in-Typed.is in
    let at = ap (λ (s : Position). s.at) c.behind.ensures in
    (omega arith, omega (arith, next, at))

pub all-loop-part-preserved : goal.all-loop-part-preserved
all-loop-part-preserved t c =
    let cons : drop c.loop-part.part-index c.args.terms.now ≡ c.part-item.result ∷ drop (c.loop-part.part-index + 1) c.args.terms.now = grind (arith, common_steps) in
    let verdict = rw c.loop-part.invariant.kept at c.in_ok-verdict.ensures.verdict in
    let next = next_expected c.args.self.now.context.program.now c.args.self.now.context.earlier.now c.part-item.result c.args.self.now.bound c.loop-part.position (wanted_kind kind.Unit) wanted.Unit c.loop-part.position.at verdict c.of_kind.ensures c.in-Typed.is in
    let at = ap (λ (s : Position). s.at) c.behind-position.ensures in
    let room = rw cons at c.loop-part.invariant.room in
    let count = sum_by-cons (λ (x : ℕ). x) (terms_in c.part-item.result) (map terms_in (drop (c.loop-part.part-index + 1) c.args.terms.now)) in
    record {
      kept = c.in_ok-verdict.ensures.kept ∙ c.loop-part.invariant.kept;
      room = omega (arith, next, at, room, count);
      left =
          all_step c.args.self.now.context.program.now c.args.self.now.context.earlier.now c.args.self.now.bound c.args.self.now.bound c.args.terms.now c.loop-part.part-index c.part-item.result c.loop-part.position c.behind-position.result
          cons refl verdict c.of_kind.ensures c.in-Typed.is c.behind-position.ensures
          ∙ c.loop-part.invariant.left;
    }
