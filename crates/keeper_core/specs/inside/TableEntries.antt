-- The maps that the fields of tables in memory are, and what they keep.
use Rattle.std.specs.Prelude.{◌≡◌}
use Rattle.std.specs.Ordering.{int_cmp}
use Rattle.value_core.specs.Orders.{bytes_cmp}
use Rattle.keeper_core.specs.declared.edits.Edits.{Edits}
use Rattle.keeper_core.specs.declared.mem_tables.MemTables.TheInside.{Inside}
use Rattle.keeper_core.specs.declared.old_tables.OldMemTables.TheInside.{Inside as OldInside}
use Rattle.keeper_core.specs.Commits.{with_input, with_log, with_put, with_void}
use Rattle.core_rules.specs.declared.done.Delta.{Delta}
use Rattle.keeper_core.specs.inside.EntryMaps.{IsInOrder, map_of, with_entry, without_key}
use Rattle.keeper_core.specs.Contents.{Cache, Inputs, Logs, OldContents, Contents, key_cmp, old_key_cmp}

-- the maps of the entries
abbrev pub contents_of : Inside → Contents
contents_of i = record { meta = i.meta.items; inputs = map_of bytes_cmp i.inputs.items; cache = map_of key_cmp i.cache.items; logs = map_of int_cmp i.logs.items }

-- each table is in order
pub record IsOrderly (i : Inside) : Type 0 where
  pub inputs : IsInOrder bytes_cmp i.inputs.items
  pub cache : IsInOrder key_cmp i.cache.items
  pub logs : IsInOrder int_cmp i.logs.items

-- the same of tables of the first schema
abbrev pub old_contents_of : OldInside → OldContents
old_contents_of i = record { meta = i.meta.items; inputs = map_of bytes_cmp i.inputs.items; cache = map_of old_key_cmp i.cache.items; logs = map_of int_cmp i.logs.items }

-- the entries of tables of the first schema are in order
pub record IsOldOrderly (i : OldInside) : Type 0 where
  pub inputs : IsInOrder bytes_cmp i.inputs.items
  pub cache : IsInOrder old_key_cmp i.cache.items
  pub logs : IsInOrder int_cmp i.logs.items

-- edits do to each table what the delta does
pub record IsEditOf (d : Delta) (c : Edits) : Type 0 where
  pub inputs : (m : Inputs) → with_entry c.input m ≡ with_input d.input m
  pub voided : (m : Cache) → without_key c.void m ≡ with_void d.void m
  pub put : (m : Cache) → with_entry c.put m ≡ with_put d.put m
  pub logs : (m : Logs) → with_entry c.log m ≡ with_log d.log m
  pub next : c.next ≡ d.next
