-- Borrowed columns of a result.
use Rattle.std.specs.Prelude.{ℤ}
use Rattle.keeper_core.specs.declared.tables.CacheKey.{CacheKey}
use Rattle.keeper_core.specs.declared.tables.CacheValue.{CacheValue}
use Rattle.keeper_core.specs.Contents.{Bytes, Contents, with_result}
use Rattle.sql_keeper.specs.declared.statements.Texts.{Texts}

-- a key from its columns
abbrev pub key_from : Bytes → Bytes → Bytes → CacheKey
key_from op khash ckey = record { op = op; khash = khash; ckey = ckey }

-- the key of a result
abbrev pub key_of : Texts → CacheKey
key_of t = record { op = t.op.now; khash = t.khash.now; ckey = t.ckey.now }

-- its other columns
abbrev pub columns_of : Texts → ℤ → ℤ → ℤ → ℤ → CacheValue
columns_of t fine finished job rebuild = record { cvalue = t.cvalue.now; fine = fine; result = t.result.now; finished = finished; job = job; rebuild = rebuild }

-- with the result
abbrev pub with_texts : Texts → ℤ → ℤ → ℤ → ℤ → Contents → Contents
with_texts t fine finished job rebuild = with_result (key_of t) (columns_of t fine finished job rebuild)
