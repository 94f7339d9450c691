-- What is known of orders that were run, and of jobs that were told to stop.
use Rattle.std.specs.Prelude.{◌≡◌, ℕ, ◌≤◌, List, [], ◌∷◌, ◌++◌, length, ⊤}
use Rattle.std.specs.declared.option.Option.{Option}
use Rattle.std.specs.declared.option.Option.TheVariants.{None, Some}
use Rattle.std.specs.declared.result.Result.{Result}
use Rattle.std.specs.declared.result.Result.TheVariants.{Ok, Err}
use Rattle.io_ends.specs.Causes.{raised}
use Rattle.op_keys.specs.declared.order.Exit.{Exit}
use Rattle.op_keys.specs.declared.order.Exit.TheVariants as exit
use Rattle.op_keys.specs.declared.order.Order.{Order}

-- orders that were run, each with its exit, in order
abbrev pub Runs : Type 0
Runs = List (Order × Exit)

-- an order that can be run has from one word to 64
abbrev pub HasWords : Order → Type 0
HasWords order = (1 ≤ length order.words) × (length order.words ≤ 64)

-- known runs grow by this order with its exit, and stay as they are when out of memory
abbrev pub AddsRun : {E : Type 0} → Option Runs → Order → Result Exit E → Option Runs → Type 0
AddsRun old order (Err e) new = new ≡ old
AddsRun None order (Ok exit) new = ⊤
AddsRun (Some old) order (Ok exit) None = ⊥
AddsRun (Some old) order (Ok exit) (Some new) = new ≡ old ++ (order, exit) ∷ []

-- the jobs that are still known are those of before and then this one
abbrev pub AddsJob : Option (List ℕ) → ℕ → Option (List ℕ) → Type 0
AddsJob old job None = ⊤
AddsJob None job (Some new) = ⊥
AddsJob (Some old) job (Some new) = new ≡ old ++ job ∷ []

-- the count rises by one at an order that could not be run, and stays at every other answer
abbrev pub CountsFault : {E : Type 0} → ℕ → ℕ → Result Exit E → Type 0
CountsFault before now (Ok exit.Fault) = now ≡ raised before
CountsFault before now (Ok (exit.Ended code output)) = now ≡ before
CountsFault before now (Err e) = now ≡ before

-- the most bytes of a child's output that are read
abbrev pub output_read : ℕ
output_read = 65537

-- a run that ended has at most so many bytes of output
abbrev pub HasAtMost : ℕ → Exit → Type 0
HasAtMost most exit.Fault = ⊤
HasAtMost most (exit.Ended code output) = length output ≤ most
