use Rattle.std.proofs.Common.{arith, map}
use Rattle.std.proofs.lemmas.Grind.{common_steps}
use Rattle.scope_pool.specs.Layout.{held_in}
use Rattle.scope_pool.proofs.SlotLaws.{count_held}
use Rattle.scope_pool.proofs.StandingLaws.{len_standing}
use Rattle.scope_pool.proofs.pool.Pool.live.Goals as goal

pub returns : goal.returns
returns g c =
    let items = len_standing (map held_in c.self.inside.slots.items) in
    let held = count_held c.self.inside.slots.items in
    rw (← c.self.view_is) (grind (arith, common_steps, c.self.invariant.laid_out.counted, items, held))
