-- What a commit makes of the tables.
use Rattle.std.specs.Prelude.{ℕ, ◌<◌, ℤ, pos, Bool, if◌then◌else◌, map, Option, Some, None, IfSome, IsNone, ◌⊎◌}
use Rattle.std.specs.FinMap.{insert, remove}
use Rattle.sched_rows.specs.declared.row.Row.{Row}
use Rattle.sha2.specs.Sha256.{sha256}
use Rattle.keeper_core.specs.declared.tables.CacheKey.{CacheKey}
use Rattle.keeper_core.specs.declared.tables.CacheValue.{CacheValue}
use Rattle.keeper_core.specs.declared.tables.MetaRow.{MetaRow}
use Rattle.core_rules.specs.declared.done.Delta.{Delta}
use Rattle.keeper_core.specs.Contents.{Bytes, Cache, Inputs, Logs, Contents}

-- a column that says yes or no
abbrev pub flag : Bool → ℤ
flag b = if b then pos 1 else pos 0

-- the key of the results of an operation's name and a key
abbrev pub cache_key : Bytes → Bytes → CacheKey
cache_key op key = record { op = op; khash = sha256 key; ckey = key }

-- the columns of a row that aren't in its key
abbrev pub cache_value : Row → CacheValue
cache_value r = record { cvalue = r.value; fine = flag r.fine; result = r.result; finished = pos r.finished; job = pos r.job; rebuild = flag r.rebuild }

-- with an input's literal, if the delta has one
abbrev pub with_input : Option (Bytes × Bytes) → Inputs → Inputs
with_input None m = m
with_input (Some e) m = insert m e.0 e.1

-- without the row of an operation's name and a key
abbrev pub with_void : Option (Bytes × Bytes) → Cache → Cache
with_void None m = m
with_void (Some e) m = remove m (cache_key e.0 e.1)

-- with a row
abbrev pub with_put : Option Row → Cache → Cache
with_put None m = m
with_put (Some r) m = insert m (cache_key r.op r.key) (cache_value r)

-- with a job's log
abbrev pub with_log : Option (ℕ × Bytes) → Logs → Logs
with_log None m = m
with_log (Some e) m = insert m (pos e.0) e.1

-- with the next number
abbrev pub with_next : ℤ → MetaRow → MetaRow
with_next next m = record m { next_job = next }

-- the tables after one commit
abbrev pub with_delta : Delta → Contents → Contents
with_delta d t = record {
  meta = map (with_next (pos d.next)) t.meta;
  inputs = with_input d.input t.inputs;
  cache = with_put d.put (with_void d.void t.cache);
  logs = with_log d.log t.logs;
}

-- a number that a column holds
abbrev pub Fits : ℕ → Type 0
Fits n = n < 9223372036854775808

-- what a commit asks of a delta: its numbers fit, and it doesn't put and void
pub record IsCommittable (d : Delta) : Type 0 where
  pub next : Fits d.next
  pub log : IfSome d.log (λ e. Fits e.0)
  pub row : IfSome d.put (λ r. Fits r.finished × Fits r.job)
  pub one : IsNone d.put ⊎ IsNone d.void
