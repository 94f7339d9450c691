use Rattle.std.proofs.Common.{◌∙◌, ◌+◌, ap}
use Rattle.std.specs.FinMap.{len}
use Rattle.scope_pool.specs.Region.{Region}
use Rattle.incr_eval.proofs.PoolGrowth.{grown_put, grown_same, grown_trans, item_put, len_put}
use Rattle.visit_rules.specs.declared.instance.Instance.{Instance}
use Rattle.incr_eval.proofs.plant.put.Goals as goal

pub returns-clause-put : goal.returns-clause-put
returns-clause-put c = rw c.put.ensures.put (item_put c.reserve.new.self c.put.result.number c.args.scope.name c.args.instance c.put.ensures.fresh)

pub returns-clause-grown : goal.returns-clause-grown
returns-clause-grown c =
    let room = grown_same c.args.pool.now c.reserve.new.self (ap (λ (r : Region Instance). r.items) c.in_ok-reserve.ensures.ok) (ap (λ (r : Region Instance). r.scopes) c.in_ok-reserve.ensures.ok) in
    rw c.put.ensures.put (grown_trans c.args.pool.now c.reserve.new.self _ room (grown_put c.reserve.new.self c.put.result.number c.args.scope.name c.args.instance c.put.ensures.fresh))

pub returns-clause-count : goal.returns-clause-count
returns-clause-count c =
    let room = ap (λ (r : Region Instance). len r.items) c.in_ok-reserve.ensures.ok in
    rw c.put.ensures.put (len_put c.reserve.new.self c.put.result.number c.args.scope.name c.args.instance c.put.ensures.fresh ∙ ap (λ n. n + 1) room)
