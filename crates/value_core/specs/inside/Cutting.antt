-- What cutting a text answers.
use Rattle.std.specs.Prelude.{◌≡◌, ℕ, ◌<◌, ◌≤◌, List, length, Option, MatchOption}
use Rattle.value_core.specs.declared.value.Value.{Value}
use Rattle.value_core.specs.Parts.{text_values}

-- the pieces as a list, unless they are more than a list may have
abbrev pub IsListOf : List (List ℕ) → Option (List Value) → Type 0
IsListOf pieces o = MatchOption o (256 < length pieces) (λ vs. (vs ≡ text_values pieces) × (length pieces ≤ 256))
