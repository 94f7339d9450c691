-- Borrowed columns of a row, and the row of meta that is found.
use Rattle.std.specs.Prelude.{◌≡◌, ℤ, true, false, List, Option, Some, None}
use Rattle.std.specs.Option.{option_map}
use Rattle.sched_rows.specs.RowKeys.{RowKey, row_key}
use Rattle.keeper_core.specs.declared.checking.KeyColumns.{KeyColumns}
use Rattle.keeper_core.specs.declared.checking.ValueColumns.{ValueColumns}
use Rattle.keeper_core.specs.declared.tables.CacheValue.{CacheValue}
use Rattle.keeper_core.specs.declared.tables.MetaRow.{MetaRow}
use Rattle.keeper_core.specs.WellFormed.{is_meta, next_of}

-- the operation and the key
abbrev pub row_key_of : KeyColumns → RowKey
row_key_of k = row_key k.op.now k.ckey.now

-- those before, if there are any
abbrev pub key_before : Option KeyColumns → Option RowKey
key_before = option_map row_key_of

-- the columns that aren't in the key
abbrev pub value_of : ValueColumns → CacheValue
value_of c = record { cvalue = c.cvalue.now; fine = c.fine; result = c.result.now; finished = c.finished; job = c.job; rebuild = c.rebuild }

-- the one row of meta that is well formed, or that there isn't just one that is
abbrev pub FindsMeta : ℤ → List MetaRow → Option MetaRow → Type 0
FindsMeta format meta None = is_meta format meta ≡ false
FindsMeta format meta (Some m) = (is_meta format meta ≡ true) × (next_of meta ≡ m.next_job)
