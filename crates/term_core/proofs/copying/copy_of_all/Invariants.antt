use Rattle.std.proofs.Common.{◌≡◌, take}
use Rattle.term_core.proofs.copying.copy_of_all.Given as goal

abbrev pub invariant-loop-decl : goal.invariant-loop-decl
invariant-loop-decl g l = l.copies ≡ take l.decl-index l.decls
