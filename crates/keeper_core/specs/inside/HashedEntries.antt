-- Results of the first schema with the hashes of their keys, entry by entry.
use Rattle.keeper_core.specs.declared.sorted.Entry.{Entry}
use Rattle.keeper_core.specs.declared.tables.CacheKey.{CacheKey}
use Rattle.keeper_core.specs.declared.tables.CacheValue.{CacheValue}
use Rattle.keeper_core.specs.declared.tables.OldCacheKey.{OldCacheKey}
use Rattle.keeper_core.specs.Migrations.{with_hash}

-- an entry under its key with its hash
abbrev pub hashed_entry : Entry OldCacheKey CacheValue → Entry CacheKey CacheValue
hashed_entry e = record { key = with_hash e.key; value = e.value }
