use Rattle.std.proofs.Common.{◌∙◌, ap, sym, Option, Some}
use Rattle.incr_eval.proofs.Patched.{has_grown, has_stayed, kept_at, length-parts, part_made}
use Rattle.incr_eval.proofs.PooledTrees.{part_smaller}
use Rattle.visit_rules.specs.Again.{old_parts}
use Rattle.incr_eval.specs.PatchedTrees.{visit_or_none}
use Rattle.visit_rules.specs.declared.visit.Visit.{Visit}
use Rattle.incr_eval.proofs.next.Next.part.Goals as goal

pub patch_at-requires : goal.patch_at-requires
patch_at-requires c =
    let g = has_grown c.in-Some.grown.instance.now c.in-Some.grown.parts.now c.in-Some.grown.from.now c.in-Some.grown.bodies.now c.self.inside.old c.args.self.now (rw c.in-Some.is at c.self.view_is) in
    rw (g.parts_are, length-parts) at c.requires

pub returns-in-Some-clause-part : goal.returns-in-Some-clause-part
returns-in-Some-clause-part c =
    let g = has_grown c.in-Some.grown.instance.now c.in-Some.grown.parts.now c.in-Some.grown.from.now c.in-Some.grown.bodies.now c.self.inside.old c.args.self.now (rw c.in-Some.is at c.self.view_is) in
    rw (g.parts_are, c.new.ensures, c.part_before-old.ensures) (part_made _ (old_parts c.self.inside.old) c.args.i c.patch_at.result.now c.patch_at.ensures)

pub returns-in-Some-clause-smaller : goal.returns-in-Some-clause-smaller
returns-in-Some-clause-smaller c = part_smaller c.args.self.now c.args.i c.new.result (returns-in-Some-clause-part c)

pub returns-in-None-clause-part : goal.returns-in-None-clause-part
returns-in-None-clause-part c =
    let parts = (has_stayed c.self.inside.old c.args.self.now (rw c.in-None.is at c.self.view_is)).parts_are in
    let within = rw parts at c.requires in
    rw parts (kept_at (old_parts c.self.inside.old) c.args.i within ∙ ap (λ (o : Option Visit). Some (visit_or_none o)) (sym c.part_before-old.ensures) ∙ ap Some (sym c.kept.ensures))

pub returns-in-None-clause-smaller : goal.returns-in-None-clause-smaller
returns-in-None-clause-smaller c = part_smaller c.args.self.now c.args.i c.kept.result (returns-in-None-clause-part c)
