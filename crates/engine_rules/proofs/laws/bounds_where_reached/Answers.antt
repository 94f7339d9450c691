use Rattle.engine_rules.proofs.BoundedStates.{bounds_at_opening, bounds_through_steps, bounds_where_reached}
use Rattle.engine_rules.proofs.laws.bounds_where_reached.Goals as goal

pub returns : goal.returns
returns c = record { opening = bounds_at_opening; steps = bounds_through_steps; reached = bounds_where_reached }
