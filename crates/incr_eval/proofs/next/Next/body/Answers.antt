use Rattle.std.proofs.Common.{◌∙◌, ap, sym, Option, Some}
use Rattle.incr_eval.proofs.Patched.{body_made, has_grown, has_stayed, kept_at, length-bodies}
use Rattle.incr_eval.proofs.PooledTrees.{body_smaller}
use Rattle.visit_rules.specs.Again.{old_bodies}
use Rattle.incr_eval.specs.PatchedTrees.{visit_or_none}
use Rattle.visit_rules.specs.declared.visit.Visit.{Visit}
use Rattle.incr_eval.proofs.next.Next.body.Goals as goal

pub patch_at-requires : goal.patch_at-requires
patch_at-requires c =
    let g = has_grown c.in-Some.grown.instance.now c.in-Some.grown.parts.now c.in-Some.grown.from.now c.in-Some.grown.bodies.now c.self.inside.old c.args.self.now (rw c.in-Some.is at c.self.view_is) in
    rw (g.bodies_are, length-bodies) at c.requires

pub returns-in-Some-clause-body : goal.returns-in-Some-clause-body
returns-in-Some-clause-body c =
    let g = has_grown c.in-Some.grown.instance.now c.in-Some.grown.parts.now c.in-Some.grown.from.now c.in-Some.grown.bodies.now c.self.inside.old c.args.self.now (rw c.in-Some.is at c.self.view_is) in
    rw (g.bodies_are, c.new.ensures, c.body_before-old.ensures, c.origin_of.ensures) (body_made _ _ (old_bodies c.self.inside.old) c.args.i c.patch_at.result.now c.patch_at.ensures)

pub returns-in-Some-clause-smaller : goal.returns-in-Some-clause-smaller
returns-in-Some-clause-smaller c = body_smaller c.args.self.now c.args.i c.new.result (returns-in-Some-clause-body c)

pub returns-in-None-clause-body : goal.returns-in-None-clause-body
returns-in-None-clause-body c =
    let bodies = (has_stayed c.self.inside.old c.args.self.now (rw c.in-None.is at c.self.view_is)).bodies_are in
    let within = rw bodies at c.requires in
    rw bodies (kept_at (old_bodies c.self.inside.old) c.args.i within ∙ ap (λ (o : Option Visit). Some (visit_or_none o)) (sym c.body_before.ensures) ∙ ap Some (sym c.kept.ensures))

pub returns-in-None-clause-smaller : goal.returns-in-None-clause-smaller
returns-in-None-clause-smaller c = body_smaller c.args.self.now c.args.i c.kept.result (returns-in-None-clause-body c)
