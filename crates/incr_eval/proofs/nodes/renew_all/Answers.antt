use Rattle.std.proofs.Common.{◌≡◌, ◌∙◌, ◌<◌, ◌++◌, ◌∷◌, [], Bool, List, get_or, length, slice_get, Option, Some, ap, sym, refl, arith}
use Rattle.std.proofs.lemmas.Grind.{common_steps}
use Rattle.std.proofs.lemmas.List.{length_push}
use Rattle.std.proofs.lemmas.Option.{slice_get-get_or}
use Rattle.visit_rules.proofs.NodesLoop.{kept_all, kept_step, moved_more}
use Rattle.incr_eval.proofs.PatchLoops.{length-patches, map_more, parts_more}
use Rattle.visit_rules.specs.KnownChanges.{is_moved, moved_between}
use Rattle.incr_eval.specs.PatchedTrees.{patched}
use Rattle.visit_rules.specs.declared.visit.Visit.{Visit}
use Rattle.term_core.specs.declared.program.NodeDecl.{NodeDecl}
use Rattle.incr_eval.proofs.nodes.renew_all.Goals as goal

pub loop-i-preserved : goal.loop-i-preserved
loop-i-preserved g c =
    let inv = c.loop-i.invariant in
    let p = c.args.pass.now in
    let olds = c.args.forest.now in
    let within : c.loop-i.i < length c.as_slice-nodes.result.now = grind (arith, common_steps) in
    let d : NodeDecl = get_or c.as_slice-nodes.result.now c.loop-i.i c.index-nodes-i.result in
    let found : slice_get c.as_slice-nodes.result.now c.loop-i.i ≡ Some d = slice_get-get_or c.as_slice-nodes.result.now c.loop-i.i c.index-nodes-i.result within in
    let at : slice_get p.program.now.nodes c.loop-i.i ≡ Some d = ap (λ (ds : List NodeDecl). slice_get ds c.loop-i.i) (sym c.as_slice-nodes.ensures) ∙ found in
    let was : c.tree-old.result ≡ slice_get olds c.loop-i.i = c.tree-old.ensures in
    let run = c.in_ok-renewed.ensures.run in
    let made = rw (was, c.as_slice.ensures, c.as_slice-in-loop-i.ensures) at run.made in
    let state = rw (was, c.as_slice.ensures, c.as_slice-in-loop-i.ensures) at run.state in
    let ticks = rw (was, c.as_slice.ensures, c.as_slice-in-loop-i.ensures) at run.ticks in
    let moved : c.has_moved.result ≡ is_moved (slice_get olds c.loop-i.i) c.in_ok-renewed.renewed.state = c.has_moved.ensures ∙ ap (λ (o : Option Visit). is_moved o c.in_ok-renewed.renewed.state) was in
    let next = kept_step p.program.now p.named.now p.looked.now p.inputs.now (g.E.Entries.world p.entries.now) olds inv.kept d at
    (patched c.in_ok-renewed.renewed.patch (slice_get olds c.loop-i.i)) made c.in_ok-renewed.renewed.state state c.has_moved.result moved c.renew.new.steps ticks
    in
    record {
      kept = rw (c.in_ok-push.ensures.ok, c.in_ok-push-2.ensures.ok, c.in_ok-push-3.ensures.ok, map_more, parts_more, length-patches, inv.patches_count) next;
      moved = rw (c.in_ok-push.ensures.ok, c.in_ok-push-3.ensures.ok, moved_more, inv.states_count, inv.moved) (ap (λ (b : Bool). moved_between olds c.loop-i.states ++ b ∷ []) moved);
      patches_count = rw (c.in_ok-push-2.ensures.ok, length_push, inv.patches_count) refl;
      states_count = rw (c.in_ok-push-3.ensures.ok, length_push, inv.states_count) refl;
      not_fallen = omega arith;
    }

pub returns-clause-run : goal.returns-clause-run
returns-clause-run g c =
    let inv = c.loop-i.invariant in
    let p = c.args.pass.now in
    let count = ap (λ (ds : List NodeDecl). length ds) c.as_slice-nodes.ensures in
    let past : c.loop-i.i ≡ length p.program.now.nodes = grind (arith, common_steps, count) in
    let all = kept_all p.program.now p.named.now p.looked.now p.inputs.now (g.E.Entries.world p.entries.now) c.args.forest.now inv.kept past in
    record { made = all.traces_kept; returned = all.states_kept; noted = inv.moved; ticks = all.ticks_kept }
