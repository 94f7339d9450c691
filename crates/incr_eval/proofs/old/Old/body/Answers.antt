use Rattle.std.proofs.Common.{◌≡◌, ◌∙◌, ap, sym, Some, slice_get, arith}
use Rattle.std.proofs.lemmas.Grind.{common_steps}
use Rattle.std.proofs.lemmas.Option.{slice_get-get_or}
use Rattle.std.proofs.lemmas.List.{length-map}
use Rattle.incr_eval.proofs.PooledTrees.{all_at, body_smaller, map_at, shown, stands_told}
use Rattle.incr_eval.specs.Pooled.{seen, is_pooled}
use Rattle.incr_eval.proofs.old.Old.body.Goals as goal

pub bounds-as_slice-i : goal.bounds-as_slice-i
bounds-as_slice-i c =
    let s = shown c.self.inside.pool.now c.self.inside.twig.now c.args.self.now c.self.invariant c.self.view_is in
    rw (s.bodies, length-map, ← c.as_slice.ensures) at c.requires

pub offset_bounds-as_slice-i : goal.offset_bounds-as_slice-i
offset_bounds-as_slice-i c =
    let s = shown c.self.inside.pool.now c.self.inside.twig.now c.args.self.now c.self.invariant c.self.view_is in
    let k = rw (s.bodies, length-map, ← c.as_slice.ensures) at c.requires in
    grind (arith, common_steps, k)

pub invariant_of-result : goal.invariant_of-result
invariant_of-result c =
    let s = shown c.self.inside.pool.now c.self.inside.twig.now c.args.self.now c.self.invariant c.self.view_is in
    let k = rw (s.bodies, length-map, ← c.as_slice.ensures) at c.requires in
    let at : slice_get c.as_slice.result.now c.args.i ≡ Some c.index-as_slice-i.result = slice_get-get_or c.as_slice.result.now c.args.i c.index-as_slice-i.result k ∙ ap Some (sym c.index-as_slice-i.is) in
    all_at (is_pooled c.self.inside.pool.now) c.as_slice.result.now c.args.i c.index-as_slice-i.result
    (rw c.as_slice.ensures (stands_told c.self.inside.pool.now c.self.inside.twig.now c.self.invariant).bodies) at

pub returns-clause-body : goal.returns-clause-body
returns-clause-body c =
    let s = shown c.self.inside.pool.now c.self.inside.twig.now c.args.self.now c.self.invariant c.self.view_is in
    let k = rw (s.bodies, length-map, ← c.as_slice.ensures) at c.requires in
    let at : slice_get c.as_slice.result.now c.args.i ≡ Some c.index-as_slice-i.result = slice_get-get_or c.as_slice.result.now c.args.i c.index-as_slice-i.result k ∙ ap Some (sym c.index-as_slice-i.is) in
    rw (s.bodies, ← c.as_slice.ensures) (map_at (seen c.self.inside.pool.now) c.as_slice.result.now c.args.i c.index-as_slice-i.result at)

pub returns-clause-smaller : goal.returns-clause-smaller
returns-clause-smaller c =
    let s = shown c.self.inside.pool.now c.self.inside.twig.now c.args.self.now c.self.invariant c.self.view_is in
    let k = rw (s.bodies, length-map, ← c.as_slice.ensures) at c.requires in
    let at : slice_get c.as_slice.result.now c.args.i ≡ Some c.index-as_slice-i.result = slice_get-get_or c.as_slice.result.now c.args.i c.index-as_slice-i.result k ∙ ap Some (sym c.index-as_slice-i.is) in
    body_smaller c.args.self.now c.args.i (seen c.self.inside.pool.now c.index-as_slice-i.result) (rw (s.bodies, ← c.as_slice.ensures) (map_at (seen c.self.inside.pool.now) c.as_slice.result.now c.args.i c.index-as_slice-i.result at))
