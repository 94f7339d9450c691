use Rattle.std.proofs.Common.{ap, ◌∙◌, sym}
use Rattle.std.proofs.lemmas.Bool.{lt-ltb}
use Rattle.core_rules.specs.Entries.{wants, refs}
use Rattle.core_rules.specs.Settling.{wanted}
use Rattle.core_rules.proofs.Settling.{count_wanted, settle_for_keeps, wanted_same, settled_fresh}
use Rattle.core_rules.proofs.laws.settling_keeps_states.Goals as goal

pub returns : goal.returns
returns c = λ s s' e. (
  λ t h. settle_for_keeps (wanted s) s s' t e (wanted_same (wants s) t ∙ sym (count_wanted (wants s) t) ∙ lt-ltb 0 (refs s t) h),
  ap (λ f. f.states) (settled_fresh s s' e),
  ap (λ f. f.wants) (settled_fresh s s' e),
)
