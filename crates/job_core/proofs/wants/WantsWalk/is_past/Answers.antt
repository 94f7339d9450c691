use Rattle.std.proofs.Common.{ℕ, length, sym, ap, ◌∙◌, is_lt}
use Rattle.std.proofs.lemmas.Bool.{le-ltb}
use Rattle.value_core.specs.declared.state.Triple.{Triple}
use Rattle.job_core.specs.Walks.{is_before, passes}
use Rattle.job_core.proofs.Walks.{first_get, first_past}
use Rattle.job_core.proofs.wants.WantsWalk.is_past.Goals as goal

pub returns-then-self : goal.returns-then-self
returns-then-self c =
    c.is_lt.ensures ∙ ap is_lt c.triple_order.ensures
    ∙ ap (λ (w : Triple × ℕ). is_before c.args.triple.now w.0) (sym c.index-self-self.is)
    ∙ sym (ap (passes (is_before c.args.triple.now)) (first_get c.args.self.now.wants.now c.args.self.now.passed c.index-self-self.result c.if-self.true c.index-self-self.is))

pub returns-else-self : goal.returns-else-self
returns-else-self c =
    le-ltb c.args.self.now.passed (length c.args.self.now.wants.now) c.if-self.false
    ∙ sym (ap (passes (is_before c.args.triple.now)) (first_past c.args.self.now.wants.now c.args.self.now.passed c.if-self.false))
