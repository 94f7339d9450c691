use Rattle.std.proofs.Common.{◌≡◌, true, take}
use Rattle.std.specs.List.{list_all}
use Rattle.value_core.specs.declared.value.Value.{out-Value}
use Rattle.keeper_core.specs.Printables.{is_text_item}
use Rattle.keeper_core.proofs.texts.keeps_texts.Given as goal

-- the items so far
abbrev pub invariant-loop-item : goal.invariant-loop-item
invariant-loop-item l = list_all (λ x. is_text_item (out-Value x)) (take l.item-index l.item-items) ≡ true
