use Rattle.std.proofs.Common.{arith, refl}
use Rattle.std.proofs.lemmas.Grind.{common_steps}
use Rattle.scope_pool.proofs.NameLaws.{found_newer}
use Rattle.scope_pool.proofs.scopes.find_within.Goals as goal

pub loop-scope-init : goal.loop-scope-init
loop-scope-init c = record {
  found = rw c.requires.none (found_newer c.args.outer c.args.scopes.now c.index_of.result c.requires.ascending c.index_of.ensures.within c.index_of.ensures.named);
  few = grind (arith, common_steps, c.requires.none);
  capacity = refl;
}
