-- When the rows at places run out, in order.
use Rattle.std.specs.Prelude.{ℕ, ◌+◌, ◌-◌, Bool, ◌&&◌, nat_lt, nat_le, if◌then◌else◌, T, List, filter, map, take_while, Option, Some, None, refl}
use Rattle.std.specs.declared.cmp.Ordering.{Ordering}
use Rattle.std.specs.Coded.{Coded, code_by, coded×, coded_ℕ}
use base.Stored.{coded_unit}
use Rattle.std.specs.FinMap.{FinMap, from_sorted, insert, is_sorted, keys, remove}
use Rattle.std.specs.FinMap as map_of
use Rattle.std.specs.Ordering.{nat_cmp, on, then_cmp}
use Rattle.sched_rows.specs.declared.expiry_index.End.{End}
use Rattle.sched_rows.specs.contracts.expiry_index.End as end

-- by the time, then by the place
abbrev pub end_cmp : End → End → Ordering
end_cmp = then_cmp (on (λ e. e.time) nat_cmp) (on (λ e. e.place) nat_cmp)

-- the ends, and for how many more there is room
pub record Ends : Type 0 where
  pub set : FinMap end_cmp (Unit {0})
  pub room : ℕ

-- their code
abbrev pub ends_code : Coded Ends
ends_code =
    code_by (FinMap end_cmp (Unit {0}) × ℕ) (coded× (map_of.code end.the_row.coded coded_unit) coded_ℕ) (λ e. (e.set, e.room)) (λ p. record { set = p.0; room = p.1 }) (λ _. refl)

-- an end, in the set of ends
abbrev pub end_entry : End → End × Unit {0}
end_entry e = (e, tt)

-- the ends strictly rise
abbrev pub IsRising : List End → Type 0
IsRising es = T (is_sorted end_cmp (map end_entry es))

-- the set of ends that rise
abbrev pub ends_of : List End → FinMap end_cmp (Unit {0})
ends_of es = from_sorted (map end_entry es)

-- with the end of the row at a place, where it has one
abbrev pub with_end : Option ℕ → ℕ → FinMap end_cmp (Unit {0}) → FinMap end_cmp (Unit {0})
with_end None place ends = ends
with_end (Some time) place ends = insert ends (record { time = time; place = place }) tt

-- without it
abbrev pub without_end : Option ℕ → ℕ → FinMap end_cmp (Unit {0}) → FinMap end_cmp (Unit {0})
without_end None place ends = ends
without_end (Some time) place ends = remove ends (record { time = time; place = place })

-- an end whose place is one more where it is this one or a later one
abbrev pub moved_up : ℕ → End → End
moved_up place e = record e { place = if nat_le place e.place then e.place + 1 else e.place }

-- an end whose place is one less where it is later than this one
abbrev pub moved_down : ℕ → End → End
moved_down place e = record e { place = if nat_lt place e.place then e.place - 1 else e.place }

-- whether an end is after one time and at another at the latest
abbrev pub ends_within : ℕ → ℕ → End → Bool
ends_within after upto e = nat_lt after e.time && nat_le e.time upto

-- the places of the first ends, up to the last one at a time at the latest
abbrev pub first_places : ℕ → List End → List ℕ
first_places upto es = map (λ e. e.place) (take_while (λ e. nat_le e.time upto) es)

-- the places of the ends after one time and at another at the latest
abbrev pub places_within : ℕ → ℕ → FinMap end_cmp (Unit {0}) → List ℕ
places_within after upto ends = map (λ e. e.place) (filter (ends_within after upto) (keys ends))
