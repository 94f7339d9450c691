use Rattle.std.proofs.Common.{◌∙◌, ap, map, subst, sym}
use Rattle.std.specs.Ordering.{int_cmp}
use Rattle.value_core.specs.Orders.{bytes_cmp}
use Rattle.keeper_core.specs.Migrations.{moved, with_format}
use Rattle.keeper_core.specs.inside.HashedEntries.{hashed_entry}
use Rattle.keeper_core.specs.inside.EntryMaps.{IsInOrder, map_of}
use Rattle.keeper_core.specs.Contents.{key_cmp}
use Rattle.keeper_core.proofs.MoveLaws.{hashed_map, hashed_order}
use Rattle.keeper_core.proofs.old_tables.OldMemTables.moved.Goals as goal

pub of_entries-requires-clause-cache : goal.of_entries-requires-clause-cache
of_entries-requires-clause-cache c =
    subst (IsInOrder key_cmp) (sym (c.in_ok-cache.ensures ∙ ap (map hashed_entry) c.as_slice-3.ensures.value)) (hashed_order c.self.inside.cache.items c.self.invariant.cache)

pub returns : goal.returns
returns c =
    let meta = c.in_ok-meta.ensures ∙ ap (map with_format) c.as_slice.ensures.value in
    let inputs = ap (map_of bytes_cmp) (c.in_ok-inputs.ensures ∙ c.as_slice-2.ensures.value) in
    let cache = ap (map_of key_cmp) (c.in_ok-cache.ensures ∙ ap (map hashed_entry) c.as_slice-3.ensures.value) ∙ hashed_map c.self.inside.cache.items c.self.invariant.cache in
    let logs = ap (map_of int_cmp) (c.in_ok-logs.ensures ∙ c.as_slice-4.ensures.value) in
    c.of_entries.ensures ∙ (λ i. record { meta = meta i; inputs = inputs i; cache = cache i; logs = logs i }) ∙ ap moved c.self.view_is
