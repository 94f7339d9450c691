-- What launchers and signallers in memory do and hold.
use Rattle.std.specs.Prelude.{ℕ, List, [], ◌∷◌, ◌++◌, ◌-◌, length, slice_index_or, nat_le, if◌then◌else◌, option_and_then}
use Rattle.std.specs.declared.option.Option.{Option}
use Rattle.std.specs.declared.option.Option.TheVariants.{None, Some}
use Rattle.op_keys.specs.declared.order.Exit.{Exit}
use Rattle.op_keys.specs.declared.order.Exit.TheVariants as exit
use Rattle.op_keys.specs.declared.order.Order.{Order}
use Rattle.launch_core.specs.Launching.{Runs}

-- the last word of an order
abbrev pub last_word : Order → List ℕ
last_word order = slice_index_or order.words (length order.words - 1) []

-- the exit that echoes an order: its last word as output, with code 0
abbrev pub echo : Order → Exit
echo order = exit.Ended (Some 0) (last_word order)

-- a launcher in memory: the exits to come, what was run, and the count of those that failed
pub record Planned : Type 0 where
  pub exits : List Exit
  pub runs : Runs
  pub faults : ℕ

-- of the exits that are to come, the next one; once there is none, an order can't be run
abbrev pub next_exit : List Exit → Exit
next_exit [] = exit.Fault
next_exit (e ∷ later) = e

-- the exits after that
abbrev pub exits_later : List Exit → List Exit
exits_later [] = []
exits_later (e ∷ later) = later

-- the jobs that a signaller keeps, and how many it has room for
pub record Kept : Type 0 where
  pub jobs : Option (List ℕ)
  pub room : ℕ

-- jobs that fit into the room, and none if they don't
abbrev pub fitting : ℕ → List ℕ → Option (List ℕ)
fitting room jobs = if nat_le (length jobs) room then Some jobs else None

-- what it keeps once a job more is signalled: all of them while its room lasts, and from then on none
abbrev pub kept_with : Kept → ℕ → Option (List ℕ)
kept_with kept job = option_and_then (λ jobs. fitting kept.room (jobs ++ job ∷ [])) kept.jobs
