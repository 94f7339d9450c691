-- Which numbers of evaluations a session shows.
use Rattle.std.specs.Prelude.{◌≡◌, ◌-◌, ◌^◌, ◌≤◌, ℕ, min, Bool, true, false, Option, Some, None}
use Rattle.engine_core.specs.Evaluated.{evaluated}
use Rattle.session_rules.specs.Steps.{Counting}

-- the number of an event's evaluations, if it is shown
abbrev pub number : Bool → ℕ → Option ℕ
number true n = Some n
number false n = None

-- how many terms an event evaluates, if that is shown
abbrev pub counting : Bool → Counting
counting true = Some evaluated
counting false = None

-- a number is what was counted since a counter showed another number
abbrev pub CountsSince : ℕ → ℕ → ℕ → Type 0
CountsSince before now n = (old : ℕ) → before ≡ min old (2 ^ 64 - 1) → old ≤ now → n ≡ now - old
