use Rattle.std.proofs.Common.{◌≡◌, ◌≤◌, ◌∷◌, ◌++◌, length, drop, map, if◌then◌else◌}
use Rattle.std.specs.List.{flat_map}
use Rattle.std.specs.String.{string_bytes}
use Rattle.value_core.specs.Functions.{joined}
use Rattle.value_core.specs.Parts.{text_in}
use Rattle.value_core.specs.Texts.{HasNoNul}
use Rattle.value_core.proofs.applying.join.Given as goal

abbrev pub invariant-loop-item : goal.invariant-loop-item
invariant-loop-item l = record {
  bytes : string_bytes l.text ++ (if l.is_first then joined (map text_in (drop l.item-index l.items)) else flat_map (λ u. 10 ∷ u) (map text_in (drop l.item-index l.items)))
      ≡ joined (map text_in l.items);
  no_nul : HasNoNul (string_bytes l.text);
  fits : length (string_bytes l.text) ≤ 65536;
}
