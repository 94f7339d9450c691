use Rattle.std.proofs.Common.{◌≡◌, ◌∙◌, ◌+◌, ◌∷◌, List, Bool, cond, map, zip, drop, length, min, nat_lt, slice_get, sym, ap, refl, add-one, arith, Option, Some, None}
use Rattle.std.proofs.lemmas.Grind.{common_steps}
use Rattle.std.proofs.lemmas.List.{length_push}
use Rattle.std.proofs.lemmas.Slice.Zip.{length-zip}
use Rattle.value_core.specs.declared.state.State.{State}
use Rattle.value_core.specs.declared.value.Value.{Value}
use Rattle.term_core.specs.Evaluation.{Context, bind}
use Rattle.term_core.specs.Views.{context_in}
use Rattle.term_core.specs.declared.program.Term.{Term, out-Term}
use Rattle.incr_eval.proofs.PatchLoops.{bodies_more, body_at_cond, comes_none, comes_step, length-patches, map_more, parts_cons, parts_more, unused_none}
use Rattle.incr_eval.proofs.Patched.{grown_visit}
use Rattle.visit_rules.proofs.Unused.{taken}
use Rattle.visit_rules.specs.Again.{Again, again_by, first_for, items_over, old_bodies, old_items, old_parts, ticks_in, unused, unused_place, visits, without_first}
use Rattle.visit_rules.specs.KnownChanges.{known_in}
use Rattle.incr_eval.specs.PatchedTrees.{body_at, patched}
use Rattle.incr_eval.specs.Renewals.{RenewsBodies, bodies_in, parts_in}
use Rattle.visit_rules.specs.Tables.{direct_parts, items_for, reading, state_by}
use Rattle.visit_rules.specs.Visits.{Test, state_of, states}
use Rattle.visit_rules.specs.declared.visit.Visit.{Visit}
use Rattle.visit_rules.specs.declared.visit.Visit.TheOpen.{Visit-F}
use Rattle.visit_rules.specs.declared.visit.Visit.TheViews.{out-roll-Visit}
use Rattle.incr_eval.proofs.renew.Renewal.+renewing.Goals as goal

pub parts-loop-i-preserved : goal.parts-loop-i-preserved
parts-loop-i-preserved g t c =
    let given : Context = context_in g.E.Entries.world c.args.self.now.setting.context in
    let test : Test = known_in c.args.self.now.setting in
    let ps : List Term = direct_parts (out-Term c.args.term.now) in
    let olds : List Visit = old_parts c.args.old.now in
    let a : Again = again_by test given c.part_of-part.result.now (slice_get olds c.loop-i.i) c.args.self.now.bound in
    let cons = parts_cons test given ps olds c.args.self.now.bound c.loop-i.i c.part_of-part.result.now c.part_of-part.ensures.part in
    let run = rw (c.part_before-before.ensures, c.loop-i.invariant.same) at c.in_ok-renewed.ensures.run in
    let same = c.in_ok-renewed.ensures.same in
    record {
      same = same ∙ c.loop-i.invariant.same;
      not_fallen = omega arith;
      count = rw (c.in_ok-push.ensures.ok, length_push, c.loop-i.invariant.count) refl;
      comes = rw (c.in_ok-push.ensures.ok, c.in_ok-push-2.ensures.ok, map_more, parts_more, length-patches, c.loop-i.invariant.count, add-one)
          (comes_step c.loop-i.invariant.comes a _ cons (patched c.in_ok-renewed.renewed.patch (slice_get olds c.loop-i.i)) run.made c.in_ok-renewed.renewed.state run.state c.term.new.steps run.ticks);
    }

pub items-loop-item-preserved : goal.items-loop-item-preserved
items-loop-item-preserved g t c =
    let given : Context = context_in g.E.Entries.world c.args.self.now.setting.context in
    let test : Test = known_in c.args.self.now.setting in
    let used : List Bool = c.loop-item.used.items in
    let olds : List Value = old_items c.args.old.now in
    let bodies : List Visit = old_bodies c.args.old.now in
    let item : Value = c.item-item.result in
    let spare = unused used (zip olds bodies) in
    let took = taken item used olds bodies (omega (arith, c.loop-item.invariant.used)) (omega (arith, c.loop-item.invariant.used)) in
    let place : c.find_unused-place.result ≡ unused_place item used olds = rw (c.as_slice.ensures.value, c.items_before-old_items.ensures) at c.find_unused-place.ensures.place in
    let b : Bool = nat_lt (unused_place item used olds) (length used) in
    let origin : c.take_body-origin.result ≡ cond b (Some (unused_place item used olds)) None = rw place at c.take_body-origin.ensures.body in
    let first : body_at bodies c.take_body-origin.result ≡ first_for item spare = ap (body_at bodies) origin ∙ (body_at_cond bodies b (unused_place item used olds) ∙ sym took.0) in
    let rest : unused c.take_body-origin.new.used.items (zip olds bodies) ≡ without_first item spare = ap (λ (us : List Bool). unused us (zip olds bodies)) (rw place at c.take_body-origin.ensures.used) ∙ sym took.1 in
    let cons : drop c.loop-item.item-index c.args.items.now ≡ item ∷ drop (c.loop-item.item-index + 1) c.args.items.now = grind (arith, common_steps) in
    let over : Option Visit → Again = λ was. again_by test given c.args.body.term.now was (bind c.args.self.now.bound c.args.body.name.now item) in
    let left : items_over test given c.args.body.term.now c.args.body.name.now (drop c.loop-item.item-index c.args.items.now) spare c.args.self.now.bound
    ≡ over (first_for item spare) ∷ items_over test given c.args.body.term.now c.args.body.name.now (drop (c.loop-item.item-index + 1) c.args.items.now) (without_first item spare) c.args.self.now.bound =
    rw cons refl
    in
    let run = rw (c.body_before-before.ensures, c.in_ok-value.ensures, c.loop-item.invariant.same) at c.in_ok-renewed.ensures.run in
    let same = c.in_ok-renewed.ensures.same in
    let as_many : length (map patched c.loop-item.patches) ≡ length c.loop-item.from = length-patches c.loop-item.patches ∙ c.loop-item.invariant.count in
    record {
      same = same ∙ c.loop-item.invariant.same;
      not_fallen = omega arith;
      used = c.take_body-origin.ensures.len ∙ c.loop-item.invariant.used;
      count = rw (c.in_ok-push.ensures.ok, c.in_ok-push-2.ensures.ok, length_push, length_push, c.loop-item.invariant.count) refl;
      comes = rw (
        c.in_ok-push.ensures.ok,
        c.in_ok-push-2.ensures.ok,
        c.in_ok-push-3.ensures.ok,
        map_more,
        bodies_more (map patched c.loop-item.patches) (patched c.in_ok-renewed.renewed.patch) c.loop-item.from c.take_body-origin.result bodies as_many,
        rest,
      )
          (comes_step c.loop-item.invariant.comes (over (first_for item spare)) _ left
          (patched c.in_ok-renewed.renewed.patch (body_at bodies c.take_body-origin.result)) (run.made ∙ ap (λ (o : Option Visit). (over o).visit) first)
          c.in_ok-renewed.renewed.state (run.state ∙ ap (λ (o : Option Visit). state_of (over o).visit) first)
          c.under.new.steps (run.ticks ∙ ap (λ (o : Option Visit). c.loop-item.steps + (over o).ticks) first));
    }

pub items-loop-item-init : goal.items-loop-item-init
items-loop-item-init g t c =
    let olds : List Value = old_items c.args.old.now in
    let bodies : List Visit = old_bodies c.args.old.now in
    let items : length c.items_before-old_items.result.now ≡ length olds = ap (λ (xs : List Value). length xs) c.items_before-old_items.ensures in
    let count : c.min.result ≡ min (length olds) (length bodies) = grind (arith, common_steps, items) in
    let all : unused c.in_ok-used.used.items (zip olds bodies) ≡ zip olds bodies =
    rw c.in_ok-used.ensures (unused_none c.min.result (zip olds bodies) (rw (length-zip olds bodies) (omega (arith, count))))
    in
    record {
      same = refl;
      not_fallen = omega arith;
      used = rw c.in_ok-used.ensures (grind (arith, common_steps, count));
      count = rw (c.new-patches.ensures, c.new-from.ensures) refl;
      comes = rw all (comes_none c.args.steps.now _ (rw c.new-patches.ensures refl) c.new-states.ensures);
    }

pub visit-returns-clause-run : goal.visit-returns-clause-run
visit-returns-clause-run g t c =
    let r = c.args.self.now in
    let given : Context = context_in g.E.Entries.world r.setting.context in
    let all : List Again = parts_in g.E.Entries.world r c.args.term.now c.args.old.now in
    let ss : List State = states (visits all) in
    let items : List Value = items_for (out-Term c.args.term.now) ss in
    let inner : List Again = bodies_in g.E.Entries.world r c.args.term.now items c.args.old.now in
    let parts = c.in_ok-parts.ensures.run in
    let same = c.in_ok-parts.ensures.same in
    let read_is : c.in_ok-read.read ≡ reading given (out-Term c.args.term.now) ss = rw (c.as_slice.ensures, parts.returned, same) at c.in_ok-read.ensures in
    let items_are : c.in_ok-items.items ≡ items = rw (c.as_slice-2.ensures, parts.returned) at c.in_ok-items.ensures in
    let bodies : RenewsBodies inner c.args.old.now c.parts.new.steps c.bodies.new.steps c.in_ok-bodies.bodies = rw (c.as_slice-3.ensures, items_are, same) at c.in_ok-bodies.ensures.run in
    let state_is : c.in_ok-state.state ≡ state_by given.node (out-Term c.args.term.now) r.bound (reading given (out-Term c.args.term.now) ss) ss (states (visits inner)) =
    rw (c.in_ok-bodies.ensures.same, same, read_is, parts.returned, bodies.returned) at c.in_ok-state.ensures.state
    in
    let ticks : c.state.new.steps ≡ c.args.steps.now + (1 + (ticks_in all + ticks_in inner)) = omega (arith, parts.ticks, bodies.ticks, c.in_ok-state.ensures.tick) in
    record {
      made = grown_visit _ c.in_ok-parts.parts.patches c.in_ok-bodies.bodies.from c.in_ok-bodies.bodies.patches c.args.old.now _
          (c.in_ok-copy.ensures ∙ state_is) read_is items_are parts.made bodies.made;
      state = state_is ∙ sym (ap (λ (x : Visit-F Visit). x.state) (out-roll-Visit _));
      ticks = ticks;
    }
