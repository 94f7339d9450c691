-- Rows as they are held: a list in the order of their keys, and their ends.
use Rattle.std.specs.Prelude.{◌≡◌, ℕ, T, nat_eq, List, map, Option, Some, slice_index_or, slice_set}
use Rattle.std.specs.FinMap.{FinMap, contains_key, is_sorted, from_sorted}
use Rattle.std.specs.List.{All, slice_get}
use Rattle.std.specs.Option.{option_and_then, option_eq}
use Rattle.op_keys.specs.declared.declarations.Expiry.{Expiry}
use Rattle.sched_rows.specs.declared.holding.Held.{Held}
use Rattle.sched_rows.specs.declared.row.Row.{Row}
use Rattle.sched_rows.specs.Ends.{end_cmp}
use Rattle.sched_rows.specs.RowKeys.{RowKey, key_of, row_key_cmp}
use Rattle.sched_rows.specs.Rows.{Expiries, Rows, end_under, marked}
use Rattle.sched_rows.specs.Validity.{IsInRange, IsTime}

-- what a held row stands under
abbrev pub held_key : Held → RowKey
held_key h = key_of h.row

-- a held row under its key
abbrev pub row_entry : Held → RowKey × Row
row_entry h = (held_key h, h.row)

-- its expiry under its key
abbrev pub expiry_entry : Held → RowKey × Expiry
expiry_entry h = (held_key h, h.expiry)

-- the keys strictly rise
abbrev pub IsOrdered : List Held → Type 0
IsOrdered hs = T (is_sorted row_key_cmp (map row_entry hs))

-- its numbers are within their limits
abbrev pub IsHeldInRange : Held → Type 0
IsHeldInRange h = IsTime h.row.finished × IsInRange h.expiry

-- when a held row without mark runs out, where it does
abbrev pub end_of : Held → Option ℕ
end_of h = end_under h.row h.expiry

-- the same of the row at a place, where one stands there
abbrev pub end_at : List Held → ℕ → Option ℕ
end_at hs place = option_and_then end_of (slice_get hs place)

-- the ends are those of the rows at their places
abbrev pub IsIndexOf : List Held → FinMap end_cmp (Unit {0}) → Type 0
IsIndexOf hs ends = (time place : ℕ) → contains_key ends (record { time = time; place = place }) ≡ option_eq nat_eq (end_at hs place) (Some time)

-- the rows are in order and in range, and the ends are theirs
pub record IsOrderly (hs : List Held) (ends : FinMap end_cmp (Unit {0})) : Type 0 where
  pub ordered : IsOrdered hs
  pub in_range : All IsHeldInRange hs
  pub indexed : IsIndexOf hs ends

-- the map of held rows
abbrev pub rows_of : List Held → Rows
rows_of hs = from_sorted (map row_entry hs)

-- the map of their expiries
abbrev pub expiries_of : List Held → Expiries
expiries_of hs = from_sorted (map expiry_entry hs)

-- a held row that is to be made anew
abbrev pub marked_held : Held → Held
marked_held h = record h { row = marked h.row }

-- the row at a place is marked, and the others are as they were
abbrev pub IsMarkedAt : ℕ → List Held → List Held → Type 0
IsMarkedAt place old new = (d : Held) → new ≡ slice_set old place (marked_held (slice_index_or old place d))
