use Rattle.std.proofs.Common.{◌≡◌, ◌<◌, List, length, get_or, Some, refl, sym, ap, ◌∙◌, subst}
use Rattle.std.proofs.lemmas.Option.{slice_get_read}
use Rattle.std.specs.Prelude.{Option, slice_get, slice_set}
use Rattle.value_core.specs.declared.value.Value.{Value}
use Rattle.term_core.specs.Evaluation.{value_or_unit}
use Rattle.engine_rules.specs.declared.edits.InputChange.TheVariants as input
use Rattle.engine_core.proofs.Exchanged.{set_back}
use Rattle.engine_core.specs.Plans.{HasInput}
use Rattle.engine_core.specs.inside.Planning.{exchanged}
use Rattle.engine_core.proofs.engine.planning.exchange.Goals as goal

pub returns-in-Set-clause-change : goal.returns-in-Set-clause-change
returns-in-Set-clause-change c =
    let xs : List Value = c.args.inputs.now.items in
    let within : c.in-Set.index < length xs = subst (λ change. HasInput change (length xs)) c.in-Set.is c.requires in
    let there : slice_get xs c.in-Set.index ≡ Some c.swap.new.y =
    slice_get_read xs (length xs) c.in-Set.index c.swap.new.y refl within (subst (λ x. x ≡ get_or xs c.in-Set.index x) (sym c.swap.ensures.y_after) c.index_mut.ensures.value) in
    ap (λ (o : Option Value). input.Set c.in-Set.index (value_or_unit o)) (sym there) ∙ sym (ap (exchanged xs) c.in-Set.is)

pub returns-in-Set-clause-back : goal.returns-in-Set-clause-back
returns-in-Set-clause-back c =
    let xs : List Value = c.args.inputs.now.items in
    let within : c.in-Set.index < length xs = subst (λ change. HasInput change (length xs)) c.in-Set.is c.requires in
    let there : slice_get xs c.in-Set.index ≡ Some c.swap.new.y =
    slice_get_read xs (length xs) c.in-Set.index c.swap.new.y refl within (subst (λ x. x ≡ get_or xs c.in-Set.index x) (sym c.swap.ensures.y_after) c.index_mut.ensures.value) in
    sym (ap (λ (o : Option Value). slice_set (slice_set xs c.in-Set.index c.swap.new.x) c.in-Set.index (value_or_unit o)) there)
    ∙ set_back xs c.in-Set.index c.swap.new.x within
