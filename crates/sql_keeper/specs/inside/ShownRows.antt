-- Rows that a query shows, as what they say.
use Rattle.std.specs.Prelude.{ℤ, List, [], ◌∷◌, Option, Some, None}
use Rattle.sqlite.specs.Order.{Row, bytes, column}
use Rattle.sqlite.specs.Edit.{id_in}
use Rattle.keeper_core.specs.declared.tables.CacheRow.{CacheRow}
use Rattle.keeper_core.specs.declared.tables.InputRow.{InputRow}
use Rattle.keeper_core.specs.declared.tables.MetaRow.{MetaRow}
use Rattle.keeper_core.specs.declared.tables.OldCacheRow.{OldCacheRow}
use Rattle.keeper_core.specs.Contents.{Bytes}
use Rattle.sql_keeper.specs.declared.columns.LogRow.{LogRow}

-- the first column of the first row, if there is one
abbrev pub output_of : List Row → Option Bytes
output_of [] = None
output_of (x ∷ xs) = Some (bytes (column x 0))

-- a row of meta
abbrev pub meta_shown : Row → MetaRow
meta_shown r = record { id = id_in (column r 0); format = id_in (column r 1); next_job = id_in (column r 2) }

-- an input
abbrev pub input_shown : Row → InputRow
input_shown r = record { name = bytes (column r 0); literal = bytes (column r 1) }

-- a result
abbrev pub result_shown : Row → CacheRow
result_shown r = record {
  op = bytes (column r 0);
  khash = bytes (column r 1);
  ckey = bytes (column r 2);
  cvalue = bytes (column r 3);
  fine = id_in (column r 4);
  result = bytes (column r 5);
  finished = id_in (column r 6);
  job = id_in (column r 7);
  rebuild = id_in (column r 8);
}

-- a result of the first schema
abbrev pub old_result_shown : Row → OldCacheRow
old_result_shown r = record {
  op = bytes (column r 0);
  ckey = bytes (column r 1);
  cvalue = bytes (column r 2);
  fine = id_in (column r 3);
  result = bytes (column r 4);
  finished = id_in (column r 5);
  job = id_in (column r 6);
  rebuild = id_in (column r 7);
}

-- the number of a job
abbrev pub job_shown : Row → ℤ
job_shown r = id_in (column r 0)

-- an output with its job
abbrev pub log_row_shown : Row → LogRow
log_row_shown r = record { job = id_in (column r 0); output = bytes (column r 1) }

-- an entry of logs as a row
abbrev pub log_row : ℤ × Bytes → LogRow
log_row e = record { job = e.0; output = e.1 }
