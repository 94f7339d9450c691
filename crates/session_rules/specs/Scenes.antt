-- What a session goes on from: the core, and what the ends still give.
use Rattle.std.specs.Prelude.{ℕ, if◌then◌else◌, List, [], ◌∷◌}
use Rattle.std.specs.Str.{bytes_eq}
use Rattle.io_ends.specs.Known.{Contents, contents_later}
use Rattle.op_keys.specs.declared.order.Exit.{Exit}
use Rattle.op_keys.specs.declared.order.Exit.TheVariants as exit
use Rattle.core_rules.specs.Core.{CoreState}

-- what the ends give: the bytes of the input, the readings of the clock, the contents that reads of files find, and the exits of orders
pub record Ends : Type 0 where
  pub bytes : List ℕ
  pub readings : List ℕ
  pub contents : Contents
  pub exits : List Exit

-- a session between two of its steps: the core, the last reading, and what the ends give from here on
pub record Scene : Type 0 where
  pub core : CoreState
  pub last : ℕ
  pub readings : List ℕ
  pub contents : Contents
  pub exits : List Exit

-- ---- the clock

-- the next reading; a clock without readings reads 0
abbrev pub reading_now : List ℕ → ℕ
reading_now [] = 0
reading_now (t ∷ ts) = t

-- the readings after it; the last one stays
abbrev pub readings_later : List ℕ → List ℕ
readings_later [] = []
readings_later (t ∷ []) = t ∷ []
readings_later (t ∷ u ∷ ts) = u ∷ ts

-- a reading is taken
abbrev pub at_reading : Scene → Scene
at_reading s = record s { last = reading_now s.readings; readings = readings_later s.readings }

-- ---- orders

-- the next exit; an order without one can't be run
abbrev pub exit_now : List Exit → Exit
exit_now [] = exit.Fault
exit_now (x ∷ xs) = x

-- the exits after it
abbrev pub exits_later : List Exit → List Exit
exits_later [] = []
exits_later (x ∷ xs) = xs

-- the same scene with these exits to come
abbrev pub expecting : List Exit → Scene → Scene
expecting exits s = record s { exits = exits }

-- ---- files

-- the contents after a read of a file; those of other files stay
abbrev pub contents_after : List ℕ → Contents → Contents
contents_after path contents p = if bytes_eq p path then contents_later (contents p) else contents p

-- a file is read
abbrev pub at_content : List ℕ → Scene → Scene
at_content path s = record s { contents = contents_after path s.contents }
