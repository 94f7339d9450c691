use Rattle.std.proofs.Common.{ap, ◌∙◌}
use Rattle.std.specs.Ordering.{int_cmp}
use Rattle.value_core.specs.Orders.{bytes_cmp}
use Rattle.keeper_core.specs.inside.EntryMaps.{map_of}
use Rattle.keeper_core.specs.Contents.{key_cmp}
use Rattle.keeper_core.proofs.EntryLaws.{map_of-nil}
use Rattle.keeper_core.proofs.mem_tables.MemTables.with_meta.Goals as goal

pub returns : goal.returns
returns c =
    let inputs = ap (map_of bytes_cmp) c.new.ensures.items ∙ map_of-nil bytes_cmp in
    let cache = ap (map_of key_cmp) c.new-2.ensures.items ∙ map_of-nil key_cmp in
    let logs = ap (map_of int_cmp) c.new-3.ensures.items ∙ map_of-nil int_cmp in
    λ i. record { meta = c.args.meta.items; inputs = inputs i; cache = cache i; logs = logs i }
