use Rattle.std.proofs.Common.{◌≡◌, ◌∙◌, ◌≤◌, List, length, slice_get, Option, ap, refl, add-one, arith}
use Rattle.std.proofs.lemmas.Grind.{common_steps}
use Rattle.std.proofs.lemmas.List.{take_all}
use Rattle.incr_eval.proofs.Patched.{length-parts, part_made}
use Rattle.visit_rules.proofs.NodesLoop.{take_at}
use Rattle.incr_eval.specs.PatchedTrees.{patched, patched_trees}
use Rattle.incr_eval.specs.declared.patch.Patch.{Patch}
use Rattle.visit_rules.specs.declared.visit.Visit.{Visit}
use Rattle.incr_eval.proofs.nodes.plant_all.Goals as goal

pub loop-i-preserved : goal.loop-i-preserved
loop-i-preserved c =
    let ps : List Patch = c.as_slice-patches.result.now in
    let olds : List Visit = c.args.old.now in
    let made = part_made ps olds c.loop-i.i c.patch_at.result.now c.patch_at.ensures in
    let next : c.new-next.result ≡ patched c.patch_at.result.now (slice_get olds c.loop-i.i) = c.new-next.ensures ∙ ap (λ (o : Option Visit). patched c.patch_at.result.now o) c.tree.ensures in
    rw (add-one, take_at (patched_trees ps olds) c.loop-i.i _ made, c.in_ok-forest.ensures, c.loop-i.invariant, next) refl

pub returns : goal.returns
returns c =
    let ps : List Patch = c.as_slice-patches.result.now in
    let olds : List Visit = c.args.old.now in
    let past : length ps ≤ c.loop-i.i = grind (arith, common_steps) in
    let long : length (patched_trees ps olds) ≤ c.loop-i.i = rw (length-parts ps olds) past in
    c.loop-i.invariant ∙ (take_all c.loop-i.i (patched_trees ps olds) long ∙ ap (λ (xs : List Patch). patched_trees xs olds) c.as_slice-patches.ensures)
