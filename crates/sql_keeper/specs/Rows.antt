-- What the trees of a database show of the tables.
use Rattle.std.specs.Prelude.{ℕ, ℤ, Bool, true, false, List, codes, filter, map}
use Rattle.std.specs.declared.cmp.Ordering.{Ordering}
use Rattle.std.specs.Ordering.{int_cmp}
use Rattle.std.specs.FinMap.{FinMap, from_entries}
use Rattle.std.specs.List.{list_any}
use Rattle.std.specs.Str.{bytes_eq}
use Rattle.sqlite.specs.Order.{Row, column, bytes}
use Rattle.sqlite.specs.Tree.{Trees}
use Rattle.sqlite.specs.Edit.{id_in}
use Rattle.sqlite_catalog.specs.Listing.{is_table_row}
use Rattle.sqlite_trees.specs.Objects.{catalog_tree}
use Rattle.value_core.specs.Orders.{bytes_cmp}
use Rattle.keeper_core.specs.declared.stored.Stored.{Stored}
use Rattle.keeper_core.specs.declared.stored.Stored.TheVariants.{Current, Old}
use Rattle.keeper_core.specs.declared.tables.CacheKey.{CacheKey}
use Rattle.keeper_core.specs.declared.tables.CacheValue.{CacheValue}
use Rattle.keeper_core.specs.declared.tables.MetaRow.{MetaRow}
use Rattle.keeper_core.specs.declared.tables.OldCacheKey.{OldCacheKey}
use Rattle.keeper_core.specs.Contents.{Bytes, Contents, OldContents, key_cmp, old_key_cmp}

-- values by their keys
abbrev pub table_of : {K V : Type 0} (R : K → K → Ordering) → (Row → K) → (Row → V) → List Row → FinMap R V
table_of R key val rows = from_entries {R = R} (map (λ r. (key r, val r)) rows)

-- a row of meta
abbrev pub meta_in : Row → MetaRow
meta_in r = record { id = id_in (column r 0); format = id_in (column r 2); next_job = id_in (column r 3) }

-- the name of an input
abbrev pub name_in : Row → Bytes
name_in r = bytes (column r 1)

-- the literal of an input, and the output of a job
abbrev pub literal_in : Row → Bytes
literal_in r = bytes (column r 2)

-- the key of a result
abbrev pub key_in : Row → CacheKey
key_in r = record { op = bytes (column r 1); khash = bytes (column r 2); ckey = bytes (column r 3) }

-- the other columns of a result
abbrev pub value_in : Row → CacheValue
value_in r = record {
  cvalue = bytes (column r 4);
  fine = id_in (column r 5);
  result = bytes (column r 6);
  finished = id_in (column r 7);
  job = id_in (column r 8);
  rebuild = id_in (column r 9);
}

-- the key of a result of the first schema
abbrev pub old_key_in : Row → OldCacheKey
old_key_in r = record { op = bytes (column r 1); ckey = bytes (column r 2) }

-- the other columns of a result of the first schema
abbrev pub old_value_in : Row → CacheValue
old_value_in r = record {
  cvalue = bytes (column r 3);
  fine = id_in (column r 4);
  result = bytes (column r 5);
  finished = id_in (column r 6);
  job = id_in (column r 7);
  rebuild = id_in (column r 8);
}

-- the number of a job
abbrev pub job_in : Row → ℤ
job_in r = id_in (column r 0)

-- the contents that the trees of the four tables show
abbrev pub contents : Trees → Contents
contents db = record {
  meta = map meta_in (db 0);
  inputs = table_of bytes_cmp name_in literal_in (db 1);
  cache = table_of key_cmp key_in value_in (db 3);
  logs = table_of int_cmp job_in literal_in (db 5);
}

-- the contents that they show under the first schema
abbrev pub old_contents : Trees → OldContents
old_contents db = record {
  meta = map meta_in (db 0);
  inputs = table_of bytes_cmp name_in literal_in (db 1);
  cache = table_of old_key_cmp old_key_in old_value_in (db 3);
  logs = table_of int_cmp job_in literal_in (db 5);
}

-- whether a row of the catalog has this name
abbrev pub is_named : List ℕ → Row → Bool
is_named name r = bytes_eq (bytes (column r 2)) name

-- whether the catalog of the trees lists a table of this name
abbrev pub lists_table : List ℕ → Trees → Bool
lists_table name db = list_any (is_named name) (filter is_table_row (db catalog_tree))

-- the tables of the first schema or of the second
abbrev pub stored_as : Bool → Trees → Stored
stored_as true db = Old (old_contents db)
stored_as false db = Current (contents db)

-- the tables that the trees show: those of the first schema if there is a table `cache`
abbrev pub stored : Trees → Stored
stored db = stored_as (lists_table (codes "cache") db) db
