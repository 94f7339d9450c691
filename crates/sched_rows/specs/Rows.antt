-- Rows as contracts see them: at most one for an operation's name and a key, each with the expiry that it was kept with.
use Rattle.std.specs.Prelude.{◌≡◌, ℕ, ◌≤◌, Bool, true, false, ◌&&◌, not, nat_lt, nat_le, if◌then◌else◌, List, map, Option, Some, None, is_some, refl}
use Rattle.std.specs.Coded.{Coded, code_by, coded×, coded_ℕ, coded_list}
use Rattle.std.specs.FinMap.{FinMap, entries, get, insert, remove}
use Rattle.std.specs.FinMap as map_of
use Rattle.std.specs.List.{filter}
use Rattle.std.specs.Option.{option_and_then}
use Rattle.op_keys.specs.declared.declarations.Expiry.{Expiry}
use Rattle.op_keys.specs.contracts.declarations.Expiry as expiry
use Rattle.sched_rows.specs.declared.row.Row.{Row}
use Rattle.sched_rows.specs.contracts.row.Row as row
use Rattle.sched_rows.specs.RowKeys.{RowKey, key_of, row_key_cmp}
use Rattle.sched_rows.specs.Validity.{IsInRange, IsTime, expires, valid}

-- rows by what they stand under
abbrev pub Rows : Type 0
Rows = FinMap row_key_cmp Row

-- expiries by what their rows stand under
abbrev pub Expiries : Type 0
Expiries = FinMap row_key_cmp Expiry

-- what is kept, and for how many more rows there is room
pub record Kept : Type 0 where
  pub rows : Rows
  pub expiries : Expiries
  pub spare : ℕ

-- the code of keys
abbrev pub row_key_code : Coded RowKey
row_key_code = code_by (List ℕ × List ℕ) (coded× (coded_list coded_ℕ) (coded_list coded_ℕ)) (λ k. (k.op, k.key)) (λ p. record { op = p.0; key = p.1 }) (λ _. refl)

-- the code of rows
abbrev pub rows_code : Coded Rows
rows_code = map_of.code row_key_code row.the_row.coded

-- the code of expiries
abbrev pub expiries_code : Coded Expiries
expiries_code = map_of.code row_key_code expiry.the_row.coded

-- the code of what is kept
abbrev pub kept_code : Coded Kept
kept_code =
    code_by (Rows × (Expiries × ℕ)) (coded× rows_code (coded× expiries_code coded_ℕ))
    (λ k. (k.rows, (k.expiries, k.spare))) (λ p. record { rows = p.0; expiries = p.1.0; spare = p.1.1 }) (λ _. refl)

-- no row
abbrev pub nothing_kept : Kept
nothing_kept = record { rows = map_of.empty; expiries = map_of.empty; spare = 0 }

-- a row with its expiry, in place of the one that stood under its key
abbrev pub with_row : Row → Expiry → Kept → Kept
with_row row expiry k = record k { rows = insert k.rows (key_of row) row; expiries = insert k.expiries (key_of row) expiry }

-- without the row under a key
abbrev pub without_row : RowKey → Kept → Kept
without_row key k = record k { rows = remove k.rows key; expiries = remove k.expiries key }

-- a row that is to be made anew
abbrev pub marked : Row → Row
marked row = record row { rebuild = true }

-- the same, where a row stands under the key
abbrev pub mark_found : RowKey → Option Row → Rows → Rows
mark_found key None rows = rows
mark_found key (Some row) rows = insert rows key (marked row)

-- with the row under a key marked, where one stands
abbrev pub with_mark : RowKey → Kept → Kept
with_mark key k = record k { rows = mark_found key (get k.rows key) k.rows }

-- when a row without mark runs out under its expiry, where it does
abbrev pub end_under : Row → Expiry → Option ℕ
end_under row expiry = if row.rebuild then None else expires expiry row.finished

-- a time that is above one and at most another
abbrev pub falls_within : ℕ → ℕ → Option ℕ → Bool
falls_within after upto None = false
falls_within after upto (Some t) = nat_lt after t && nat_le t upto

-- a row is valid at a time just if it was at an earlier one and doesn't expire in between
abbrev pub ValidityEnds : Type 0
ValidityEnds = (expiry : Expiry) (row : Row) (earlier later : ℕ) → earlier ≤ later →
    valid expiry later row ≡ (valid expiry earlier row && not (falls_within earlier later (end_under row expiry)))

-- whether a row without mark runs out after one time and at another at the latest
abbrev pub is_due : Kept → ℕ → ℕ → RowKey × Row → Bool
is_due k after upto entry = falls_within after upto (option_and_then (end_under entry.1) (get k.expiries entry.0))

-- the names and keys of the rows that are due, in order
abbrev pub due_keys : Kept → ℕ → ℕ → List (List ℕ × List ℕ)
due_keys k after upto = map (λ entry. (entry.0.op, entry.0.key)) (filter (is_due k after upto) (entries k.rows))

-- each row stands under its own key, beside an expiry, and their numbers are within their limits
pub record IsSound (k : Kept) : Type 0 where
  pub keys : (key : RowKey) → is_some (get k.expiries key) ≡ is_some (get k.rows key)
  pub rows : (key : RowKey) (row : Row) → get k.rows key ≡ Some row → (key_of row ≡ key) × IsTime row.finished
  pub expiries : (key : RowKey) (expiry : Expiry) → get k.expiries key ≡ Some expiry → IsInRange expiry
