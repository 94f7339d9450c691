use Rattle.std.proofs.Common.{◌≡◌, ◌+◌, ◌*◌, ◌++◌, max, if◌then◌else◌, drop, map}
use Rattle.std.specs.String.{string_bytes}
use Rattle.value_core.specs.Printed.{printed, separated, following}
use Rattle.value_core.specs.Texts.{HasNoNul}
use Rattle.value_core.specs.declared.value.Value.{size-Value}
use Rattle.value_core.specs.declared.value.Outcome.{size-Outcome}
use Rattle.value_core.proofs.printing.+printing.Given as goal

abbrev pub decreases-write_value : goal.decreases-write_value
decreases-write_value l = 2 * size-Value l.v.now

abbrev pub decreases-write_pair : goal.decreases-write_pair
decreases-write_pair l = 2 * max (size-Value l.a.now) (size-Value l.b.now) + 1

abbrev pub decreases-write_list : goal.decreases-write_list
decreases-write_list l = 2 * goal.size-write_list l + 1

abbrev pub decreases-write_outcome : goal.decreases-write_outcome
decreases-write_outcome l = 2 * size-Outcome l.o.now

abbrev pub invariant-write_list-loop-item : goal.invariant-write_list-loop-item
invariant-write_list-loop-item l = record {
  bytes : string_bytes l.out ++ (if l.is_first then separated (map printed (drop l.item-index l.items)) else following (map printed (drop l.item-index l.items)))
      ≡ string_bytes l.initial.out ++ separated (map printed l.items);
  no_nul : HasNoNul (string_bytes l.initial.out) → HasNoNul (string_bytes l.out);
}
