use Rattle.std.proofs.Common.{◌≡◌, ◌++◌, drop}
use Rattle.value_core.specs.Printed.{escaped}
use Rattle.store_reports.proofs.writing.write_all_escaped.Given as goal

abbrev pub invariant-loop-byte : goal.invariant-loop-byte
invariant-loop-byte l = l.out.items ++ escaped (drop l.byte-index l.text) ≡ l.initial.out.items ++ escaped l.text
