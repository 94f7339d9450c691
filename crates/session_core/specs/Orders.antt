-- The orders that workers take.
use Rattle.std.specs.Prelude.{ℕ, length, find, is_some, Option, Some, None}
use Rattle.std.specs.List.{range_with_len}
use Rattle.core_rules.specs.declared.notes.Note.{Note}
use Rattle.core_rules.specs.declared.notes.Note.TheVariants as note
use Rattle.core_rules.specs.Core.{CoreState}
use Rattle.core_rules.specs.Orders.{picked}
use Rattle.core_rules.specs.Steps.{at_time}
use Rattle.launch_core.specs.Launching.{HasWords}
use Rattle.session_rules.specs.Parts.{Part, nothing}
use Rattle.session_rules.specs.Steps.{Counting, run_of}

-- the first of some workers, from one of them on, that has a pick at a reading
abbrev pub free_among : CoreState → ℕ → ℕ → ℕ → Option ℕ
free_among core last from count =
    find (λ w. is_some (picked (at_time core last) w)) (range_with_len from count)

-- the first worker that has one
abbrev pub free_worker_of : CoreState → ℕ → Option ℕ
free_worker_of core last = free_among core last 0 (length core.program.workers)

-- what a worker took is run to its end, if its note says that it took an order
abbrev pub run_noted : Counting → Option Note → Part
run_noted counting None = nothing
run_noted counting (Some n) = run_of counting n

-- an order of a note has words that can be run
abbrev pub HasNoteWords : Note → Type 0
HasNoteWords note.Plain = Unit {0}
HasNoteWords (note.Started o) = HasWords o
HasNoteWords (note.Ended job e) = Unit {0}
HasNoteWords note.Nothing = Unit {0}
HasNoteWords note.Ignored = Unit {0}
