-- What a migration makes of tables of the first schema.
use Rattle.std.specs.Prelude.{pos, map}
use Rattle.std.specs.FinMap.{from_entries, entries}
use Rattle.keeper_core.specs.declared.tables.CacheKey.{CacheKey}
use Rattle.keeper_core.specs.declared.tables.CacheValue.{CacheValue}
use Rattle.keeper_core.specs.declared.tables.MetaRow.{MetaRow}
use Rattle.keeper_core.specs.declared.tables.OldCacheKey.{OldCacheKey}
use Rattle.keeper_core.specs.Commits.{cache_key}
use Rattle.keeper_core.specs.Contents.{Contents, OldContents}

-- the key of a result with its hash
abbrev pub with_hash : OldCacheKey → CacheKey
with_hash k = cache_key k.op k.ckey

-- a row of meta under the second schema
abbrev pub with_format : MetaRow → MetaRow
with_format m = record m { format = pos 2 }

-- a result with its hash
abbrev pub hashed : OldCacheKey × CacheValue → CacheKey × CacheValue
hashed e = (with_hash e.0, e.1)

-- the same inputs, logs, next number and results, each with its hash, under the second schema
abbrev pub moved : OldContents → Contents
moved t = record {
  meta = map with_format t.meta;
  inputs = t.inputs;
  cache = from_entries (map hashed (entries t.cache));
  logs = t.logs;
}
