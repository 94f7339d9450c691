use Rattle.std.proofs.Common.{◌≡◌, ℕ, ap, arith}
use Rattle.std.specs.FinMap.{len}
use Rattle.scope_pool.specs.Region.{Items}
use Rattle.incr_eval.proofs.PoolGrowth.{grown_trans}
use Rattle.incr_eval.proofs.Planted.{planted, planted_next, visits_next}
use Rattle.visit_rules.specs.Visits.{bodies_of, parts_of, visits_step}
use Rattle.visit_rules.specs.declared.instance.Instance.{Instance}
use Rattle.visit_rules.specs.declared.visit.Visit.TheFolds.{fold_out-Visit}
use Rattle.incr_eval.proofs.plant.+planting.Goals as goal

pub plant-returns-clause-planted : goal.plant-returns-clause-planted
plant-returns-clause-planted t c =
    planted c.plant_parts.new.pool c.plant_bodies.new.pool c.put.new.pool c.args.tree.now c.in_ok-instance.field-0 _
    c.in_ok-parts.ensures.planted c.plant_bodies.ensures.grown c.in_ok-bodies.ensures.planted c.put.ensures.grown c.in_ok-place.ensures.put c.in_ok-instance.ensures

pub plant-returns-clause-count : goal.plant-returns-clause-count
plant-returns-clause-count t c =
    let all = fold_out-Visit ℕ visits_step c.args.tree.now in
    omega (arith, all, c.in_ok-parts.ensures.count, c.in_ok-bodies.ensures.count, c.in_ok-place.ensures.count)

pub plant_parts-loop-i-preserved : goal.plant_parts-loop-i-preserved
plant_parts-loop-i-preserved t c =
    let next = visits_next (parts_of c.args.tree.now) c.loop-i.i c.part-part.result c.part-part.ensures.part in
    rw c.in_ok-push.ensures.ok record {
      planted = planted_next c.loop-i.pool c.plant.new.pool c.loop-i.twigs c.in_ok-plant.field-0 (parts_of c.args.tree.now) c.loop-i.i c.part-part.result c.loop-i.invariant.planted c.plant.ensures.grown c.in_ok-plant.ensures.planted c.part-part.ensures.part;
      count = omega (arith, next, c.loop-i.invariant.count, c.in_ok-plant.ensures.count);
      grown = grown_trans c.args.pool.now c.loop-i.pool c.plant.new.pool c.loop-i.invariant.grown c.plant.ensures.grown;
    }

pub plant_bodies-loop-i-preserved : goal.plant_bodies-loop-i-preserved
plant_bodies-loop-i-preserved t c =
    let next = visits_next (bodies_of c.args.tree.now) c.loop-i.i c.body-body.result c.body-body.ensures.body in
    let opened : len c.open_within.new.pool.items ≡ len c.loop-i.pool.items = ap (λ (m : Items Instance). len m) c.in_ok-within.ensures.items in
    let grown = grown_trans c.loop-i.pool c.open_within.new.pool c.plant.new.pool c.open_within.ensures.grown c.plant.ensures.grown in
    rw c.in_ok-push.ensures.ok record {
      planted = planted_next c.loop-i.pool c.plant.new.pool c.loop-i.twigs c.in_ok-plant.field-0 (bodies_of c.args.tree.now) c.loop-i.i c.body-body.result c.loop-i.invariant.planted grown c.in_ok-plant.ensures.planted c.body-body.ensures.body;
      count = omega (arith, next, opened, c.loop-i.invariant.count, c.in_ok-plant.ensures.count);
      grown = grown_trans c.args.pool.now c.loop-i.pool c.plant.new.pool c.loop-i.invariant.grown grown;
    }
