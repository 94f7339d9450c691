use Rattle.std.proofs.Common.{◌≡◌, drop}
use Rattle.term_check.specs.Faults.{first_fault, pool_fault}
use Rattle.term_check.proofs.checking.pool_fault.Given as goal

abbrev pub invariant-loop-i : goal.invariant-loop-i
invariant-loop-i g l =
    first_fault (pool_fault l.program g.D.InPool.site g.D.InPool.pool_of) l.i (drop l.i l.decls)
    ≡ first_fault (pool_fault l.program g.D.InPool.site g.D.InPool.pool_of) 0 l.decls
