-- The instants of a schedule, by day numbers and civil dates. Day 0 is 1970-01-01, and an instant is a number of milliseconds since that day began.
use Rattle.std.specs.Prelude.{ℕ, zero, suc, Bool, ◌&&◌, nat_le, List, [], ◌∷◌, map, neg_ℤ, ℤ, pos, negsuc, ◌+ℤ◌, ◌-ℤ◌, ◌*ℤ◌, Option, Some, None}
use Rattle.std.specs.List.{filter, filter_map, list_any, range_with_len}
use Rattle.std.specs.Ordering.{int_eq}
use Rattle.jiff_core.specs.Calendar.{days_from_civil, days_in_month}
use Rattle.op_keys.specs.declared.declarations.Expiry.{Expiry}
use Rattle.op_keys.specs.declared.declarations.Expiry.TheVariants.{Never, After, Daily, Monthly}

-- so many whole numbers, from the first on
unfoldable pub run_of : ℤ → ℕ → List ℤ
run_of first zero = []
run_of first (suc n) = first ∷ run_of (first +ℤ pos 1) n

-- the days from 1969-12-31 to 9999-12-31
unfoldable pub calendar_days : List ℤ
calendar_days = run_of (negsuc 0) 2932898

-- the years of the calendar, from -9999 to 9999
unfoldable pub calendar_years : List ℤ
calendar_years = run_of (neg_ℤ (pos 9999)) 19999

-- the months of a year
abbrev pub months : List ℕ
months = range_with_len 1 12

-- whether d is this day of this month of this year
abbrev pub is_date : ℤ → ℕ → ℕ → ℤ → Bool
is_date year month day d =
    nat_le 1 day && (nat_le day (days_in_month year month) && int_eq (days_from_civil year month day) d)

-- whether d has this day of the month, by its civil date
unfoldable pub has_day : ℕ → ℤ → Bool
has_day day d = list_any (λ year. list_any (λ month. is_date year month day d) months) calendar_years

-- the instant of day d, at this minute of a zone so many minutes east
abbrev pub instant_of : ℕ → ℤ → ℤ → ℤ
instant_of minute offset d = (pos 86400000 *ℤ d) +ℤ (pos 60000 *ℤ (pos minute -ℤ offset))

-- the instants of a schedule: a day each, for a monthly one of the days that have its day of the month
unfoldable pub instants : Expiry → List ℤ
instants Never = []
instants (After n) = []
instants (Daily minute offset) = map (instant_of minute offset) calendar_days
instants (Monthly day minute offset) = map (instant_of minute offset) (filter (has_day day) calendar_days)

-- an instant as a time, unless it is before 1970
abbrev pub time_of : ℤ → Option ℕ
time_of (pos t) = Some t
time_of (negsuc t) = None

-- those instants that are times
abbrev pub times_of : List ℤ → List ℕ
times_of = filter_map time_of
