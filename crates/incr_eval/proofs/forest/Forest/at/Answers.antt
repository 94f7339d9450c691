use Rattle.std.proofs.Common.{◌≡◌, ◌∙◌, ◌<◌, length, ap, sym, Some, slice_get}
use Rattle.std.proofs.lemmas.Option.{slice_get-get_or}
use Rattle.std.proofs.lemmas.List.{length-map}
use Rattle.incr_eval.proofs.PooledTrees.{all_at, map_at}
use Rattle.incr_eval.specs.Pooled.{seen, is_pooled}
use Rattle.incr_eval.proofs.forest.Forest.at.Goals as goal

pub new-requires : goal.new-requires
new-requires c =
    let within : c.args.node < length c.as_slice.result.now = rw (← c.self.view_is, length-map, ← c.as_slice.ensures) at c.requires in
    let at : slice_get c.as_slice.result.now c.args.node ≡ Some c.index-as_slice-node.result = slice_get-get_or c.as_slice.result.now c.args.node c.index-as_slice-node.result within ∙ ap Some (sym c.index-as_slice-node.is) in
    all_at (is_pooled c.self.inside.pool) c.as_slice.result.now c.args.node c.index-as_slice-node.result (rw c.as_slice.ensures c.self.invariant.stand) at

pub returns : goal.returns
returns c =
    let within : c.args.node < length c.as_slice.result.now = rw (← c.self.view_is, length-map, ← c.as_slice.ensures) at c.requires in
    let at : slice_get c.as_slice.result.now c.args.node ≡ Some c.index-as_slice-node.result = slice_get-get_or c.as_slice.result.now c.args.node c.index-as_slice-node.result within ∙ ap Some (sym c.index-as_slice-node.is) in
    rw (← c.self.view_is, ← c.as_slice.ensures, c.new.ensures) (map_at (seen c.self.inside.pool) c.as_slice.result.now c.args.node c.index-as_slice-node.result at)
