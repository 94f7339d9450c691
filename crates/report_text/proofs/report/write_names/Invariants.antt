use Rattle.std.proofs.Common.{◌≡◌, ◌++◌, drop}
use Rattle.std.specs.String.{string_bytes}
use Rattle.report_text.specs.Reports.{names_at, spaced}
use Rattle.report_text.proofs.report.write_names.Given as goal

abbrev pub invariant-loop-number : goal.invariant-loop-number
invariant-loop-number g l =
    string_bytes l.out ++ spaced (names_at g.D.Named.named l.decls (drop l.number-index l.numbers))
    ≡ string_bytes l.initial.out ++ spaced (names_at g.D.Named.named l.decls l.numbers)
