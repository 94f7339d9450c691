use Rattle.std.proofs.Common.{◌≡◌, drop, map}
use Rattle.pipe_text.specs.Printing.{after_lines}
use Rattle.pipe_text.proofs.printing.put_lines.Given as goal

abbrev pub invariant-loop-decl : goal.invariant-loop-decl
invariant-loop-decl g l = after_lines l.printer (map g.D.Declared.tokens (drop l.decl-index l.decls)) ≡ after_lines l.initial.printer (map g.D.Declared.tokens l.decls)
