-- The contents of a store as maps: the entries of a map are the rows of a table in the order of loading.
use Rattle.std.specs.Prelude.{ℕ, ℤ, pos, nat_lt, Bool, false, if◌then◌else◌, List, [], ◌∷◌, map, Option, None, refl}
use Rattle.std.specs.Coded.{Coded, code_by, coded×, coded_ℕ, coded_ℤ, coded_list}
use Rattle.std.specs.declared.cmp.Ordering.{Ordering}
use Rattle.std.specs.Cmp.{IsTotalOrder, on_total, then_total}
use Rattle.std.specs.Cmp.Lexicographic.{nat_list_cmp_total}
use Rattle.std.specs.FinMap.{FinMap, empty, entries, get, insert, keys}
use Rattle.std.specs.FinMap as finite
use Rattle.std.specs.Ordering.{int_cmp, int_eq, on, then_cmp}
use Rattle.value_core.specs.Orders.{bytes_cmp}
use Rattle.keeper_core.specs.declared.tables.CacheKey.{CacheKey}
use Rattle.keeper_core.specs.declared.tables.CacheRow.{CacheRow}
use Rattle.keeper_core.specs.declared.tables.CacheValue.{CacheValue}
use Rattle.keeper_core.specs.declared.tables.InputRow.{InputRow}
use Rattle.keeper_core.specs.declared.tables.MetaRow.{MetaRow}
use Rattle.keeper_core.specs.declared.tables.OldCacheKey.{OldCacheKey}
use Rattle.keeper_core.specs.declared.tables.OldCacheRow.{OldCacheRow}
use Rattle.keeper_core.specs.declared.tables.OldTables.{OldTables}
use Rattle.keeper_core.specs.declared.tables.Tables.{Tables}
use Rattle.keeper_core.specs.contracts.tables.CacheKey as key
use Rattle.keeper_core.specs.contracts.tables.CacheValue as value
use Rattle.keeper_core.specs.contracts.tables.MetaRow as meta
use Rattle.keeper_core.specs.contracts.tables.OldCacheKey as old_key

-- the bytes of a column
abbrev pub Bytes : Type 0
Bytes = List ℕ

-- ---- keys

-- by operation, then by key, then by hash
abbrev pub key_cmp : CacheKey → CacheKey → Ordering
key_cmp = then_cmp (on (λ k. k.op) bytes_cmp) (then_cmp (on (λ k. k.ckey) bytes_cmp) (on (λ k. k.khash) bytes_cmp))

-- it is a total order
pub key_cmp_total : IsTotalOrder key_cmp
key_cmp_total = then_total (on_total (λ k. k.op) nat_list_cmp_total) (then_total (on_total (λ k. k.ckey) nat_list_cmp_total) (on_total (λ k. k.khash) nat_list_cmp_total))

-- by operation, then by key
abbrev pub old_key_cmp : OldCacheKey → OldCacheKey → Ordering
old_key_cmp = then_cmp (on (λ k. k.op) bytes_cmp) (on (λ k. k.ckey) bytes_cmp)

-- so is this
pub old_key_cmp_total : IsTotalOrder old_key_cmp
old_key_cmp_total = then_total (on_total (λ k. k.op) nat_list_cmp_total) (on_total (λ k. k.ckey) nat_list_cmp_total)

-- ---- tables

-- literals by the names of inputs
abbrev pub Inputs : Type 0
Inputs = FinMap bytes_cmp Bytes

-- results by operation, hash and key
abbrev pub Cache : Type 0
Cache = FinMap key_cmp CacheValue

-- results of the first schema by operation and key
abbrev pub OldCache : Type 0
OldCache = FinMap old_key_cmp CacheValue

-- outputs by the numbers of jobs
abbrev pub Logs : Type 0
Logs = FinMap int_cmp Bytes

-- the tables of the second schema
pub record Contents : Type 0 where
  pub meta : List MetaRow
  pub inputs : Inputs
  pub cache : Cache
  pub logs : Logs

-- the tables of the first schema
pub record OldContents : Type 0 where
  pub meta : List MetaRow
  pub inputs : Inputs
  pub cache : OldCache
  pub logs : Logs

-- ---- their codes

-- the code of the bytes of a column
abbrev pub bytes_code : Coded Bytes
bytes_code = coded_list coded_ℕ

-- of inputs
abbrev pub inputs_code : Coded Inputs
inputs_code = finite.code bytes_code bytes_code

-- of results
abbrev pub cache_code : Coded Cache
cache_code = finite.code key.the_row.coded value.the_row.coded

-- of results of the first schema
abbrev pub old_cache_code : Coded OldCache
old_cache_code = finite.code old_key.the_row.coded value.the_row.coded

-- of outputs
abbrev pub logs_code : Coded Logs
logs_code = finite.code coded_ℤ bytes_code

-- of the tables
abbrev pub contents_code : Coded Contents
contents_code =
    code_by (List MetaRow × (Inputs × (Cache × Logs))) (coded× (coded_list meta.the_row.coded) (coded× inputs_code (coded× cache_code logs_code)))
    (λ t. (t.meta, (t.inputs, (t.cache, t.logs)))) (λ p. record { meta = p.0; inputs = p.1.0; cache = p.1.1.0; logs = p.1.1.1 }) (λ _. refl)

-- of the tables of the first schema
abbrev pub old_contents_code : Coded OldContents
old_contents_code =
    code_by (List MetaRow × (Inputs × (OldCache × Logs))) (coded× (coded_list meta.the_row.coded) (coded× inputs_code (coded× old_cache_code logs_code)))
    (λ t. (t.meta, (t.inputs, (t.cache, t.logs)))) (λ p. record { meta = p.0; inputs = p.1.0; cache = p.1.1.0; logs = p.1.1.1 }) (λ _. refl)

-- ---- fresh tables

-- no input, no result, no log, and the first number
abbrev pub fresh : Contents
fresh = record { meta = record { id = pos 1; format = pos 2; next_job = pos 1 } ∷ []; inputs = empty; cache = empty; logs = empty }

-- no row but these
abbrev pub with_meta_alone : List MetaRow → Contents
with_meta_alone rows = record { meta = rows; inputs = empty; cache = empty; logs = empty }

-- no row but these, under the first schema
abbrev pub old_with_meta_alone : List MetaRow → OldContents
old_with_meta_alone rows = record { meta = rows; inputs = empty; cache = empty; logs = empty }

-- ---- tables with one entry more, or another in its place

-- with an input's literal
abbrev pub with_literal : Bytes → Bytes → Contents → Contents
with_literal name literal t = record t { inputs = insert t.inputs name literal }

-- with a result
abbrev pub with_result : CacheKey → CacheValue → Contents → Contents
with_result key value t = record t { cache = insert t.cache key value }

-- with the output of a job
abbrev pub with_output : ℤ → Bytes → Contents → Contents
with_output job output t = record t { logs = insert t.logs job output }

-- the same under the first schema
abbrev pub old_with_literal : Bytes → Bytes → OldContents → OldContents
old_with_literal name literal t = record t { inputs = insert t.inputs name literal }

-- with a result, under the first schema
abbrev pub old_with_result : OldCacheKey → CacheValue → OldContents → OldContents
old_with_result key value t = record t { cache = insert t.cache key value }

-- with the output of a job, under the first schema
abbrev pub old_with_output : ℤ → Bytes → OldContents → OldContents
old_with_output job output t = record t { logs = insert t.logs job output }

-- ---- loaded tables

-- whether there is just one row of meta, and it has this format
abbrev pub has_format : ℤ → List MetaRow → Bool
has_format format [] = false
has_format format (m ∷ []) = int_eq m.format format
has_format format (m ∷ n ∷ ms) = false

-- an input as a row
abbrev pub input_row : Bytes × Bytes → InputRow
input_row e = record { name = e.0; literal = e.1 }

-- a result as a row
abbrev pub cache_row : CacheKey × CacheValue → CacheRow
cache_row e = record {
  op = e.0.op;
  khash = e.0.khash;
  ckey = e.0.ckey;
  cvalue = e.1.cvalue;
  fine = e.1.fine;
  result = e.1.result;
  finished = e.1.finished;
  job = e.1.job;
  rebuild = e.1.rebuild;
}

-- a result of the first schema as a row
abbrev pub old_cache_row : OldCacheKey × CacheValue → OldCacheRow
old_cache_row e = record {
  op = e.0.op;
  ckey = e.0.ckey;
  cvalue = e.1.cvalue;
  fine = e.1.fine;
  result = e.1.result;
  finished = e.1.finished;
  job = e.1.job;
  rebuild = e.1.rebuild;
}

-- the rows of meta and no others
abbrev pub meta_rows : List MetaRow → Tables
meta_rows rows = record { meta = rows; inputs = []; cache = []; logs = [] }

-- all rows, in the order of loading
abbrev pub all_rows : Contents → Tables
all_rows t = record { meta = t.meta; inputs = map input_row (entries t.inputs); cache = map cache_row (entries t.cache); logs = keys t.logs }

-- all rows if the format is 2, else those of meta
abbrev pub loaded : Contents → Tables
loaded t = if has_format (pos 2) t.meta then all_rows t else meta_rows t.meta

-- all rows of the first schema, in the order of loading
abbrev pub old_rows : OldContents → OldTables
old_rows t = record { meta = t.meta; inputs = map input_row (entries t.inputs); cache = map old_cache_row (entries t.cache); logs = keys t.logs }

-- the log of a job; no table has a number of 2^63 or more
abbrev pub log_in : Logs → ℕ → Option Bytes
log_in logs job = if nat_lt job 9223372036854775808 then get logs (pos job) else None
