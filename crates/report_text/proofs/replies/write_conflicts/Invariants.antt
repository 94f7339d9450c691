use Rattle.std.proofs.Common.{◌≡◌, ◌++◌, drop}
use Rattle.std.specs.List.{flat_map}
use Rattle.std.specs.String.{string_bytes}
use Rattle.report_text.specs.Lines.{conflict_line}
use Rattle.report_text.proofs.replies.write_conflicts.Given as goal

abbrev pub invariant-loop-conflict : goal.invariant-loop-conflict
invariant-loop-conflict l =
    string_bytes l.out ++ flat_map (conflict_line l.program) (drop l.conflict-index l.conflicts)
    ≡ string_bytes l.initial.out ++ flat_map (conflict_line l.program) l.conflicts
