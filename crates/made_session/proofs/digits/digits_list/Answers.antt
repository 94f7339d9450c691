use Rattle.std.proofs.Common.{ℕ, List, ap₂, ◌∙◌, ◌++◌, ◌∷◌, []}
use Rattle.value_core.specs.declared.value.Value.{Value}
use Rattle.value_core.specs.declared.value.Value.TheVariants as value
use Rattle.made_session.proofs.Longer.{digits_more}
use Rattle.made_session.proofs.digits.digits_list.Goals as goal

pub loop-i-preserved : goal.loop-i-preserved
loop-i-preserved c =
    c.in_ok-push.ensures.ok ∙ ap₂ (λ (vs : List Value) (t : List ℕ). vs ++ value.Words t ∷ []) c.loop-i.invariant c.in_ok-digits_of.ensures ∙ digits_more c.args.first c.loop-i.i
