-- Which rows are well formed.
use Rattle.std.specs.Prelude.{ℕ, ◌+◌, ◌^◌, ℤ, pos, int_le, int_lt, nat_le, Bool, true, false, ◌&&◌, if◌then◌else◌, List, [], ◌∷◌, length, Option, Some, None, is_some}
use Rattle.std.specs.declared.cmp.Ordering.{Ordering}
use Rattle.std.specs.Option.{option_map, option_or}
use Rattle.std.specs.Ordering.{int_eq, is_lt}
use Rattle.std.specs.Str.{bytes_eq}
use Rattle.sha2.specs.Sha256.{sha256}
use Rattle.value_core.specs.Literals.{literal_read}
use Rattle.value_core.specs.Names.{is_name}
use Rattle.value_core.specs.Texts.{is_text}
use Rattle.value_core.specs.Orders.{bytes_cmp}
use Rattle.sched_rows.specs.RowKeys.{RowKey, row_key, row_key_cmp}
use Rattle.keeper_core.specs.declared.tables.CacheRow.{CacheRow}
use Rattle.keeper_core.specs.declared.tables.CacheValue.{CacheValue}
use Rattle.keeper_core.specs.declared.tables.InputRow.{InputRow}
use Rattle.keeper_core.specs.declared.tables.MetaRow.{MetaRow}
use Rattle.keeper_core.specs.declared.tables.OldCacheRow.{OldCacheRow}
use Rattle.keeper_core.specs.declared.tables.OldTables.{OldTables}
use Rattle.keeper_core.specs.declared.tables.Table.{Table}
use Rattle.keeper_core.specs.declared.tables.Table.TheVariants as table
use Rattle.keeper_core.specs.declared.tables.Tables.{Tables}

-- ---- columns

-- a text of at most so many bytes
abbrev pub is_short_text : ℕ → List ℕ → Bool
is_short_text limit bs = nat_le (length bs) limit && is_text bs

-- a number within these bounds
abbrev pub is_within : ℤ → ℤ → ℤ → Bool
is_within low high z = int_le low z && int_le z high

-- yes or no
abbrev pub is_flag : ℤ → Bool
is_flag z = is_within (pos 0) (pos 1) z

-- a job's number below the next one
abbrev pub is_job : ℤ → ℤ → Bool
is_job next z = int_le (pos 1) z && int_lt z next

-- above the one before it, if there is one
abbrev pub rises_over : {K : Type 0} → (K → K → Ordering) → Option K → K → Bool
rises_over R None k = true
rises_over R (Some j) k = is_lt (R j k)

-- ---- rows

-- the row of meta, under a format
abbrev pub is_meta_row : ℤ → MetaRow → Bool
is_meta_row format m = int_eq m.format format && is_within (pos 1) (pos (2 ^ 62)) m.next_job

-- there is just one, and it is well formed
abbrev pub is_meta : ℤ → List MetaRow → Bool
is_meta format [] = false
is_meta format (m ∷ []) = is_meta_row format m
is_meta format (m ∷ n ∷ ms) = false

-- the next number
abbrev pub next_of : List MetaRow → ℤ
next_of [] = pos 1
next_of (m ∷ ms) = m.next_job

-- the name of an input
abbrev pub name_of : InputRow → List ℕ
name_of r = r.name

-- its name after the one before it
abbrev pub is_input_name : Option InputRow → InputRow → Bool
is_input_name before r = is_name r.name && rises_over bytes_cmp (option_map name_of before) r.name

-- an input after the one before it
abbrev pub is_input : Option InputRow → InputRow → Bool
is_input before r = is_input_name before r && is_some (literal_read r.literal)

-- the columns of a result that aren't in its key
abbrev pub value_in : CacheRow → CacheValue
value_in r = record { cvalue = r.cvalue; fine = r.fine; result = r.result; finished = r.finished; job = r.job; rebuild = r.rebuild }

-- the same of a row of the first schema
abbrev pub old_value_in : OldCacheRow → CacheValue
old_value_in r = record { cvalue = r.cvalue; fine = r.fine; result = r.result; finished = r.finished; job = r.job; rebuild = r.rebuild }

-- its texts
abbrev pub are_texts : CacheValue → Bool
are_texts v = is_short_text 65536 v.cvalue && is_short_text 65536 v.result

-- what it says by yes or no
abbrev pub are_flags : CacheValue → Bool
are_flags v = is_flag v.fine && is_flag v.rebuild

-- when it finished, and its job, below the next number
abbrev pub are_numbers : ℤ → CacheValue → Bool
are_numbers next v = is_within (pos 0) (pos (2 ^ 60)) v.finished && is_job next v.job

-- all of them
abbrev pub are_columns : ℤ → CacheValue → Bool
are_columns next v = are_texts v && (are_flags v && are_numbers next v)

-- the operation and key of a result
abbrev pub key_in : CacheRow → RowKey
key_in r = row_key r.op r.ckey

-- the key of a row of the first schema
abbrev pub old_key_in : OldCacheRow → RowKey
old_key_in r = row_key r.op r.ckey

-- an operation and a key of at most so many bytes, above those before
abbrev pub is_key : ℕ → Option RowKey → RowKey → Bool
is_key limit before k = is_name k.op && (is_short_text limit k.key && rises_over row_key_cmp before k)

-- a result after the one before it
abbrev pub is_result : ℤ → Option CacheRow → CacheRow → Bool
is_result next before r = is_key 65536 (option_map key_in before) (key_in r) && (bytes_eq r.khash (sha256 r.ckey) && are_columns next (value_in r))

-- a result of the first schema after the one before it
abbrev pub is_old_result : ℤ → Option OldCacheRow → OldCacheRow → Bool
is_old_result next before r = is_key 4096 (option_map old_key_in before) (old_key_in r) && are_columns next (old_value_in r)

-- a log, whatever comes before it
abbrev pub is_log : ℤ → Option ℤ → ℤ → Bool
is_log next before job = is_job next job

-- ---- tables

-- the number of the first row, counted from a number on, that a test refuses after the row before it
abbrev pub first_refused : {Row : Type 0} → (Option Row → Row → Bool) → Option Row → ℕ → List Row → Option ℕ
first_refused is before n [] = None
first_refused is before n (r ∷ rs) = if is before r then first_refused is (Some r) (n + 1) rs else Some n

-- the number of a table's first row that a test refuses, with the table
abbrev pub refused_in : {Row : Type 0} → Table → (Option Row → Row → Bool) → List Row → Option (Table × ℕ)
refused_in t is rs = option_map (λ n. (t, n)) (first_refused is None 1 rs)

-- the first row that isn't well formed, in the order of loading
abbrev pub first_bad : Tables → Option (Table × ℕ)
first_bad t =
    if is_meta (pos 2) t.meta then
    option_or (refused_in table.Inputs is_input t.inputs)
    (option_or (refused_in table.Cache (is_result (next_of t.meta)) t.cache) (refused_in table.Logs (is_log (next_of t.meta)) t.logs))
    else Some (table.Meta, 1)

-- the same under the first schema
abbrev pub old_first_bad : OldTables → Option (Table × ℕ)
old_first_bad t =
    if is_meta (pos 1) t.meta then
    option_or (refused_in table.Inputs is_input t.inputs)
    (option_or (refused_in table.Cache (is_old_result (next_of t.meta)) t.cache) (refused_in table.Logs (is_log (next_of t.meta)) t.logs))
    else Some (table.Meta, 1)
