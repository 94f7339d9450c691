use Rattle.std.proofs.Common.{◌∙◌, ◌+◌, ◌++◌, ◌∷◌, [], ℕ, List, map, ap, sym, refl}
use Rattle.incr_eval.proofs.Planted.{planted_more, visits_more}
use Rattle.incr_eval.specs.Pooled.{ArePlanted, seen}
use Rattle.visit_rules.specs.Visits.{visits_of}
use Rattle.visit_rules.specs.declared.visit.Visit.{Visit}
use Rattle.incr_eval.proofs.forest.Forest.with.Goals as goal

pub invariant_of-result : goal.invariant_of-result
invariant_of-result c =
    let r = c.self.inside.pool in
    let ts = c.self.inside.trees in
    let vs : List Visit = map (seen r) ts in
    let before : ArePlanted r ts vs = record { pooled = c.self.invariant.stand; shown = refl } in
    let more = planted_more r c.plant_at_top.new.pool ts c.in_ok-plant_at_top.field-0 vs c.args.tree.now before c.plant_at_top.ensures.grown c.in_ok-plant_at_top.ensures.planted in
    record {
      stand = rw c.in_ok-push.ensures.ok more.pooled;
      counted = rw (c.in_ok-push.ensures.ok, more.shown) (c.in_ok-plant_at_top.ensures.count ∙ (ap (λ (n : ℕ). n + visits_of c.args.tree.now) c.self.invariant.counted ∙ sym (visits_more vs c.args.tree.now)));
    }

pub returns : goal.returns
returns c =
    let r = c.self.inside.pool in
    let ts = c.self.inside.trees in
    let vs : List Visit = map (seen r) ts in
    let before : ArePlanted r ts vs = record { pooled = c.self.invariant.stand; shown = refl } in
    let more = planted_more r c.plant_at_top.new.pool ts c.in_ok-plant_at_top.field-0 vs c.args.tree.now before c.plant_at_top.ensures.grown c.in_ok-plant_at_top.ensures.planted in
    rw c.in_ok-push.ensures.ok (more.shown ∙ ap (λ (ws : List Visit). ws ++ c.args.tree.now ∷ []) c.self.view_is)
