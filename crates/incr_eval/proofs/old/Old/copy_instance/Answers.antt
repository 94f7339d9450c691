use Rattle.std.proofs.Common.{◌∙◌, ap, sym}
use Rattle.incr_eval.proofs.PooledTrees.{seen_again}
use Rattle.visit_rules.specs.declared.instance.Instance.{Instance}
use Rattle.incr_eval.proofs.old.Old.copy_instance.Goals as goal

pub returns : goal.returns
returns c =
    seen_again c.args.self.now c.in_ok-instance.instance
    (c.instance.ensures.state ∙ sym (ap (λ (i : Instance). i.state) c.in_ok-instance.ensures))
    (c.instance.ensures.read ∙ sym (ap (λ (i : Instance). i.read) c.in_ok-instance.ensures))
    (c.instance.ensures.items ∙ sym (ap (λ (i : Instance). i.items) c.in_ok-instance.ensures))
