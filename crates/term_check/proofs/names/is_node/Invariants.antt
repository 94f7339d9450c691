use Rattle.std.proofs.Common.{◌≡◌, drop}
use Rattle.std.specs.List.{list_any}
use Rattle.std.specs.Str.{bytes_eq}
use Rattle.term_check.specs.Typing.{is_node}
use Rattle.term_check.proofs.names.is_node.Given as goal

abbrev pub invariant-loop-node : goal.invariant-loop-node
invariant-loop-node l = list_any (λ d. bytes_eq d.name l.name) (drop l.node-index l.node-items) ≡ is_node l.program l.name
