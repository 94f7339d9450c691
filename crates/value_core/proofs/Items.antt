-- What the loop over a list's items keeps.
use Rattle.std.proofs.Common.{List, ℕ, ◌++◌}
use Rattle.std.specs.Prelude.{Option, Some, None}
use Rattle.value_core.specs.declared.value.Value.{Value}
use Rattle.value_core.specs.Parts.{text_values}

-- the items so far, in front of those that are read from here on
abbrev pub with_items : List Value → Option (List (List ℕ)) → Option (List Value)
with_items vs None = None
with_items vs (Some ts) = Some (vs ++ text_values ts)
