use Rattle.incr_eval.proofs.PooledTrees.{shown}
use Rattle.incr_eval.proofs.old.Old.instance.Goals as goal

pub returns-clause-state : goal.returns-clause-state
returns-clause-state c = (shown c.self.inside.pool.now c.self.inside.twig.now c.args.self.now c.self.invariant c.self.view_is).state c.get.result.now c.get.ensures

pub returns-clause-read : goal.returns-clause-read
returns-clause-read c = (shown c.self.inside.pool.now c.self.inside.twig.now c.args.self.now c.self.invariant c.self.view_is).read c.get.result.now c.get.ensures

pub returns-clause-items : goal.returns-clause-items
returns-clause-items c = (shown c.self.inside.pool.now c.self.inside.twig.now c.args.self.now c.self.invariant c.self.view_is).items c.get.result.now c.get.ensures
