use Rattle.std.proofs.Common.{◌≡◌, map, take}
use Rattle.term_core.specs.declared.program.InputDecl.{InputDecl}
use Rattle.core_rules.specs.Openings.{or_declared, stored_at}
use Rattle.engine_core.proofs.stored.input_values.Given as goal

abbrev pub invariant-loop-decl : goal.invariant-loop-decl
invariant-loop-decl l = l.values.items ≡ map (λ (d : InputDecl). or_declared d (stored_at l.stored d.name)) (take l.decl-index l.decls)
