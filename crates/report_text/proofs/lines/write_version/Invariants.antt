use Rattle.std.proofs.Common.{◌≡◌, ◌++◌, drop}
use Rattle.std.specs.List.{flat_map}
use Rattle.std.specs.String.{string_bytes}
use Rattle.report_text.specs.Lines.{node_line}
use Rattle.report_text.proofs.lines.write_version.Given as goal

abbrev pub invariant-loop-node : goal.invariant-loop-node
invariant-loop-node l =
    string_bytes l.out ++ flat_map (node_line l.program) (drop l.node-index l.changed)
    ≡ string_bytes l.initial.out ++ flat_map (node_line l.program) l.changed
