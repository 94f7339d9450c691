use Rattle.std.proofs.Common.{◌≡◌, ◌∙◌, ◌++◌, ◌<◌, ap, sym, length, List, Some, slice_get, add-one, arith, ℕ}
use Rattle.std.proofs.lemmas.Grind.{common_steps}
use Rattle.std.proofs.lemmas.Option.{slice_get-get_or}
use Rattle.value_core.specs.declared.state.State.{State}
use Rattle.visit_rules.proofs.NodesLoop.{moved_joined, moved_next}
use Rattle.visit_rules.proofs.differences.changed_nodes.Goals as goal

pub loop-i-preserved : goal.loop-i-preserved
loop-i-preserved c =
    let within : c.loop-i.i < length c.args.states.now = grind (arith, common_steps) in
    let at : slice_get c.args.states.now c.loop-i.i ≡ Some c.index-states-i.result = slice_get-get_or c.args.states.now c.loop-i.i c.index-states-i.result within ∙ ap Some (sym c.index-states-i.is) in
    let next = moved_next c.loop-i.i c.args.moved.now c.args.states.now c.loop-i.i c.index-states-i.result at in
    rw (add-one, c.in_ok-add_moved.ensures, c.is_set.ensures, moved_joined) (sym (ap (λ (ns : List (ℕ × State)). c.loop-i.changed ++ ns) next) ∙ c.loop-i.invariant)
