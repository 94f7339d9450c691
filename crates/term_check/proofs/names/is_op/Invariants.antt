use Rattle.std.proofs.Common.{◌≡◌, drop}
use Rattle.std.specs.Prelude.{◌&&◌, if◌then◌else◌, not}
use Rattle.std.specs.List.{list_any}
use Rattle.std.specs.Str.{bytes_eq}
use Rattle.term_core.specs.Soundness.{is_op}
use Rattle.term_check.proofs.names.is_op.Given as goal

abbrev pub invariant-loop-op : goal.invariant-loop-op
invariant-loop-op l = list_any (λ d. bytes_eq d.name l.name && (if l.output then d.output else not d.output)) (drop l.op-index l.op-items) ≡ is_op l.program l.name l.output
