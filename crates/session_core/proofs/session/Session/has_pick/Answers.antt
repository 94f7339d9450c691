use Rattle.std.proofs.Common.{ap, ◌∙◌}
use Rattle.std.specs.Prelude.{is_some}
use Rattle.session_core.proofs.Picking.{pick_is}
use Rattle.session_core.proofs.session.Session.has_pick.Goals as goal

pub returns : goal.returns
returns g c = c.is_some.ensures ∙ ap is_some (c.pick-pick.ensures ∙ pick_is c.args.self.now.desk.engine c.engine-engine.result.now c.args.self.now.last c.args.worker c.moment.result c.jobs.result.now c.pools.result.now
    c.engine-engine.ensures c.engine_law.ensures c.jobs.ensures c.pools.ensures c.moment.ensures)
