-- What the fields of kept rows stand for, and what they keep.
use Rattle.std.specs.Prelude.{◌+◌, ◌≤◌}
use Rattle.std.specs.Vec.{vec_len, vec_capacity}
use Rattle.sched_rows.specs.declared.rows.Rows.TheInside.{Inside}
use Rattle.sched_rows.specs.Holding.{IsOrderly, expiries_of, rows_of}
use Rattle.sched_rows.specs.Rows.{Kept}

-- the rows and expiries of the list that is held
abbrev pub kept_of : Inside → Kept
kept_of i = record { rows = rows_of i.held.items; expiries = expiries_of i.held.items; spare = i.spare }

-- the list is in order and in range, the index is its own, and both have the room that is spare
pub record IsKept (i : Inside) : Type 0 where
  pub orderly : IsOrderly i.held.items i.index.set
  pub room : vec_len i.held + i.spare ≤ vec_capacity i.held
  pub index_room : i.spare ≤ i.index.room
