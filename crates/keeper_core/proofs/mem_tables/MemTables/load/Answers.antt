use Rattle.std.proofs.Common.{◌≡◌, ◌∙◌, pos, true, ap, map}
use Rattle.std.specs.Ordering.{int_cmp}
use Rattle.value_core.specs.Orders.{bytes_cmp}
use Rattle.keeper_core.specs.inside.TableEntries.{contents_of}
use Rattle.keeper_core.specs.inside.EntryMaps.{pair_of}
use Rattle.keeper_core.specs.Contents.{cache_row, has_format, input_row, key_cmp}
use Rattle.keeper_core.proofs.EntryLaws.{rows-map_of}
use Rattle.keeper_core.proofs.LoadLaws.{loads}
use Rattle.keeper_core.proofs.mem_tables.MemTables.load.Goals as goal

pub returns : goal.returns
returns c =
    let current : has_format (pos 2) c.self.inside.meta.items ≡ true = cc in
    loads (contents_of c.self.inside) c.args.self.now _ c.self.view_is current (c.from_vec-meta.ensures ∙ c.in_ok-copy_all.ensures ∙ c.as_slice.ensures.value)
    (c.in_ok-rows_of.ensures ∙ ap (map (λ e. input_row (pair_of e))) c.as_slice-3.ensures.value ∙ rows-map_of bytes_cmp input_row c.self.inside.inputs.items c.self.invariant.inputs)
    (c.in_ok-rows_of-2.ensures ∙ ap (map (λ e. cache_row (pair_of e))) c.as_slice-4.ensures.value ∙ rows-map_of key_cmp cache_row c.self.inside.cache.items c.self.invariant.cache)
    (c.in_ok-rows_of-3.ensures ∙ ap (map (λ e. e.key)) c.as_slice-5.ensures.value ∙ rows-map_of int_cmp (λ e. e.0) c.self.inside.logs.items c.self.invariant.logs)
