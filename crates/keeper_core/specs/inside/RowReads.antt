-- Rows that are read one after another.
use Rattle.std.specs.Prelude.{◌≡◌, ℕ, Bool, true, false, List, ◌∷◌, Option, Some, None, Result, Ok, Err}
use Rattle.value_core.specs.declared.value.Value.{Value}
use Rattle.keeper_core.specs.declared.reading.RowFault.{RowFault}
use Rattle.keeper_core.specs.declared.reading.RowFault.TheVariants.{Refused, NoMemory}
use Rattle.keeper_core.specs.declared.tables.InputRow.{InputRow}
use Rattle.keeper_core.specs.Durables.{values_of}
use Rattle.keeper_core.specs.WellFormed.{first_refused, is_input}

-- all rows pass a test and make these items, or the first that doesn't is named by its number
abbrev pub ReadsRows : {Row X : Type 0} → (Option Row → Row → Bool) → (List Row → List X) → List Row → Result (List X) RowFault → Type 0
ReadsRows is items rs (Ok xs) = (first_refused is None 1 rs ≡ None) × (xs ≡ items rs)
ReadsRows is items rs (Err (Refused n)) = first_refused is None 1 rs ≡ Some n
ReadsRows is items rs (Err NoMemory) = Unit {0}

-- an input is that of a row that is well formed after the one before it, and is the first of the values of the row and those after it
abbrev pub IsNextInput : Option InputRow → InputRow → Option (List ℕ × Value) → Type 0
IsNextInput before row None = is_input before row ≡ false
IsNextInput before row (Some input) = (is_input before row ≡ true) × ((rows : List InputRow) → values_of (row ∷ rows) ≡ input ∷ values_of rows)
