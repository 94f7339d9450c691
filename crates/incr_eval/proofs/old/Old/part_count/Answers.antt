use Rattle.std.proofs.lemmas.List.{length-map}
use Rattle.incr_eval.proofs.PooledTrees.{shown}
use Rattle.incr_eval.proofs.old.Old.part_count.Goals as goal

pub returns : goal.returns
returns c = rw ((shown c.self.inside.pool.now c.self.inside.twig.now c.args.self.now c.self.invariant c.self.view_is).parts, length-map) c.len.ensures
