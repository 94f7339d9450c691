use Rattle.std.proofs.Common.{refl}
use Rattle.std.specs.FinMap.{len-empty}
use Rattle.std.specs.Ordering.{nat_cmp}
use Rattle.scope_pool.specs.Region.{ScopedItem}
use Rattle.visit_rules.specs.declared.instance.Instance.{Instance}
use Rattle.incr_eval.proofs.forest.Forest.new.Goals as goal

pub invariant_of-result : goal.invariant_of-result
invariant_of-result c = record { stand = rw c.new-trees.ensures refl; counted = rw (c.new-trees.ensures, c.new-pool.ensures) (len-empty nat_cmp (ScopedItem Instance)) }
