-- When a row runs out, and until when it is valid.
use Rattle.std.specs.Prelude.{ℕ, ◌+◌, ◌^◌, ◌≤◌, neg_ℤ, pos, ◌≤ℤ◌, min, Bool, true, not, ◌&&◌, nat_lt, nat_le, List, [], ◌∷◌, Option, Some, None}
use Rattle.std.specs.List.{filter, list_any}
use Rattle.std.specs.Option.{option_map_or}
use Rattle.op_keys.specs.declared.declarations.Expiry.{Expiry}
use Rattle.op_keys.specs.declared.declarations.Expiry.TheVariants.{Never, After, Daily, Monthly}
use Rattle.sched_rows.specs.declared.row.Row.{Row}
use Rattle.sched_rows.specs.Instants.{instants, times_of}

-- the least of some numbers
abbrev pub least : List ℕ → Option ℕ
least [] = None
least (t ∷ ts) = Some (option_map_or (min t) (least ts) t)

-- the least instant above a time
unfoldable pub next_instant : Expiry → ℕ → Option ℕ
next_instant expiry time = least (filter (nat_lt time) (times_of (instants expiry)))

-- when a row that finished at a time runs out, where it does
abbrev pub expires : Expiry → ℕ → Option ℕ
expires Never finished = None
expires (After n) finished = Some (finished + n)
expires (Daily minute offset) finished = next_instant (Daily minute offset) finished
expires (Monthly day minute offset) finished = next_instant (Monthly day minute offset) finished

-- whether an instant is above one time and at most another
unfoldable pub has_instant : Expiry → ℕ → ℕ → Bool
has_instant expiry after upto = list_any (λ t. nat_lt after t && nat_le t upto) (times_of (instants expiry))

-- whether a row that finished at a time has not run out at another
abbrev pub in_time : Expiry → ℕ → ℕ → Bool
in_time Never finished now = true
in_time (After n) finished now = nat_lt now (finished + n)
in_time (Daily minute offset) finished now = not (has_instant (Daily minute offset) finished now)
in_time (Monthly day minute offset) finished now = not (has_instant (Monthly day minute offset) finished now)

-- whether a row is valid at a moment: it has no rebuild mark and has not run out
abbrev pub valid : Expiry → ℕ → Row → Bool
valid expiry now row = not row.rebuild && in_time expiry row.finished now

-- a time that rows are kept for, in milliseconds
abbrev pub IsTime : ℕ → Type 0
IsTime t = t ≤ 2 ^ 60

-- the numbers of an expiry are within their limits
abbrev pub IsInRange : Expiry → Type 0
IsInRange Never = Unit {0}
IsInRange (After n) = n ≤ 2 ^ 60
IsInRange (Daily minute offset) = (minute ≤ 1439) × (neg_ℤ (pos 1080) ≤ℤ offset) × (offset ≤ℤ pos 1080)
IsInRange (Monthly day minute offset) =
    (1 ≤ day) × (day ≤ 28) × (minute ≤ 1439) × (neg_ℤ (pos 1080) ≤ℤ offset) × (offset ≤ℤ pos 1080)
