use Rattle.std.proofs.Common.{◌≡◌, drop, map}
use Rattle.op_keys.specs.Names.{index_named}
use Rattle.op_keys.proofs.names.index_of.Given as goal

abbrev pub invariant-loop-i : goal.invariant-loop-i
invariant-loop-i g l = index_named l.i (map g.D.Named.named (drop l.i l.decls)) l.name ≡ index_named 0 (map g.D.Named.named l.decls) l.name
