use Rattle.std.proofs.Common.{◌≡◌, drop}
use Rattle.std.specs.List.{list_all}
use Rattle.value_core.specs.Values.{fits_kind}
use Rattle.value_core.proofs.kinds.+is_kind.Given as goal

abbrev pub invariant-loop-item : goal.invariant-loop-item
invariant-loop-item l = list_all (fits_kind l.f) (drop l.item-index l.item-items) ≡ fits_kind l.k l.v
