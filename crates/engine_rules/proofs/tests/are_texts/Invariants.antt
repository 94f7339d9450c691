use Rattle.std.proofs.Common.{◌≡◌, drop}
use Rattle.std.specs.List.{list_all}
use Rattle.value_core.specs.Values.{fits_kind}
use Rattle.value_core.specs.declared.value.Kind.TheVariants as kind
use Rattle.engine_rules.proofs.tests.are_texts.Given as goal

abbrev pub invariant-loop-item : goal.invariant-loop-item
invariant-loop-item l = list_all (fits_kind kind.Text) (drop l.item-index l.item-items) ≡ fits_kind (kind.List kind.Text) l.value
