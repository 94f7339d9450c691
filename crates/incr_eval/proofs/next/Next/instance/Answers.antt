use Rattle.std.proofs.Common.{◌≡◌, ◌∙◌, ap}
use Rattle.std.proofs.lemmas.Result.{IfOk-weaker}
use Rattle.incr_eval.proofs.Patched.{has_grown, has_stayed}
use Rattle.incr_eval.specs.PatchedTrees.{visit_of}
use Rattle.visit_rules.specs.Visits.{bodies_of, parts_of}
use Rattle.visit_rules.specs.declared.instance.Instance.{Instance}
use Rattle.visit_rules.specs.declared.visit.Visit.{Visit}
use Rattle.incr_eval.proofs.next.Next.instance.Goals as goal

pub returns-in-Some : goal.returns-in-Some
returns-in-Some c =
    let g = has_grown c.in-Some.grown.instance.now c.in-Some.grown.parts.now c.in-Some.grown.from.now c.in-Some.grown.bodies.now c.self.inside.old c.args.self.now (rw c.in-Some.is at c.self.view_is) in
    let v : Visit = c.args.self.now in
    IfOk-weaker c.copy.result (λ (i : Instance). i ≡ c.in-Some.grown.instance.now) (λ (i : Instance). visit_of i (parts_of v) (bodies_of v) ≡ v)
    (λ i is. ap (λ (x : Instance). visit_of x (parts_of v) (bodies_of v)) is ∙ g.whole) c.copy.ensures

pub returns-in-None : goal.returns-in-None
returns-in-None c = IfOk-weaker _ _ _ (has_stayed c.self.inside.old c.args.self.now (rw c.in-None.is at c.self.view_is)).whole c.instance_before.ensures
