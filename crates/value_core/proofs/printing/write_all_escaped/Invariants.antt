use Rattle.std.proofs.Common.{◌≡◌, ◌++◌}
use Rattle.std.specs.String.{string_bytes}
use Rattle.value_core.specs.Printed.{escaped}
use Rattle.value_core.proofs.printing.write_all_escaped.Given as goal

abbrev pub invariant-loop-c : goal.invariant-loop-c
invariant-loop-c l = string_bytes l.out ++ escaped l.c-iterator.rest.now ≡ string_bytes l.initial.out ++ escaped l.text
