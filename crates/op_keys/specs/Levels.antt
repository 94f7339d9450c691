-- Levels of operations.
use Rattle.std.specs.Prelude.{ℕ, nat_lt, Bool, true, Option, Some, None}
use Rattle.op_keys.specs.declared.level.Level.{Level}
use Rattle.op_keys.specs.declared.level.Level.TheVariants.{Harmless, MostlyHarmless, Average, AboveAverage, Dangerous}

-- the rank of a level, from the least harmful on
abbrev pub rank : Level → ℕ
rank Harmless = 0
rank MostlyHarmless = 1
rank Average = 2
rank AboveAverage = 3
rank Dangerous = 4

-- without a threshold each level may start, else the levels below it
abbrev pub permitted : Option Level → Level → Bool
permitted None level = true
permitted (Some threshold) level = nat_lt (rank level) (rank threshold)
