use Rattle.std.proofs.Common.{◌≡◌, ◌+◌, ◌*◌, take}
use Rattle.std.specs.FinMap.{len}
use Rattle.incr_eval.specs.Pooled.{ArePlanted, IsGrown}
use Rattle.visit_rules.specs.Visits.{all_visits, bodies_of, parts_of, visits_of}
use Rattle.incr_eval.proofs.plant.+planting.Given as goal

abbrev pub decreases-plant : goal.decreases-plant
decreases-plant l = 2 * visits_of l.tree.now + 1

abbrev pub decreases-plant_parts : goal.decreases-plant_parts
decreases-plant_parts l = 2 * visits_of l.tree.now

abbrev pub decreases-plant_bodies : goal.decreases-plant_bodies
decreases-plant_bodies l = 2 * visits_of l.tree.now

abbrev pub invariant-plant_parts-loop-i : goal.invariant-plant_parts-loop-i
invariant-plant_parts-loop-i l = record {
  planted : ArePlanted l.pool l.twigs (take l.i (parts_of l.tree));
  count : len l.pool.items ≡ len l.initial.pool.items + all_visits (take l.i (parts_of l.tree));
  grown : IsGrown l.initial.pool l.pool;
}

abbrev pub invariant-plant_bodies-loop-i : goal.invariant-plant_bodies-loop-i
invariant-plant_bodies-loop-i l = record {
  planted : ArePlanted l.pool l.twigs (take l.i (bodies_of l.tree));
  count : len l.pool.items ≡ len l.initial.pool.items + all_visits (take l.i (bodies_of l.tree));
  grown : IsGrown l.initial.pool l.pool;
}
