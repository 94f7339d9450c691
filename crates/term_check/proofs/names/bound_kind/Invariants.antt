use Rattle.std.proofs.Common.{◌≡◌, drop, None}
use Rattle.std.specs.Option.{option_copied}
use Rattle.term_core.specs.Soundness.{innermost_kind}
use Rattle.term_check.proofs.names.bound_kind.Given as goal

abbrev pub invariant-loop-binding : goal.invariant-loop-binding
invariant-loop-binding l = innermost_kind (option_copied l.found) (drop l.binding-index l.bound) l.name ≡ innermost_kind None l.bound l.name
