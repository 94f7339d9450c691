use Rattle.std.proofs.Common.{◌≡◌, List, [], ◌∷◌, length, refl, rules, arith}
use Rattle.std.specs.Vec.Iter.{into_iter_items}
use Rattle.term_core.proofs.Gathered.{gathered_from}
use Rattle.term_core.specs.Gathering.{made_by}
use Rattle.visit_rules.proofs.states.join_states.Goals as goal

length-zero : {A : Type 0} (xs : List A) → length xs ≡ 0 → xs ≡ []
length-zero [] e = refl
length-zero (x ∷ xs) e = absurd (omega arith)

pub returns : goal.returns
returns c =
    let none : into_iter_items c.loop-state.state-iterator ≡ [] = length-zero _ (omega (arith, c.in-None.ensures.steps.0, c.loop-state.state-iterator.rest.ok.0)) in
    let all = rw none at c.loop-state.invariant in
    let items : into_iter_items c.into_iter-state-iterator.result ≡ c.args.states = search rules in
    let same = rw items at all in
    let is = gathered_from c.args.states (made_by c.args.collected c.args.node) refl same in
    rw (← is) c.finish.ensures
