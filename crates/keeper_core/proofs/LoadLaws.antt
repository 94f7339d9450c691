-- Rows that were made one table at a time are those that are loaded.
use Rattle.std.proofs.Common.{◌≡◌, pos, true, map, subst}
use Rattle.std.specs.FinMap.{entries, keys}
use Rattle.keeper_core.specs.declared.tables.OldTables.{OldTables}
use Rattle.keeper_core.specs.declared.tables.Tables.{Tables}
use Rattle.keeper_core.specs.Contents.{OldContents, Contents, cache_row, has_format, input_row, loaded, old_cache_row, old_rows}

pub loads : (t now : Contents) (x : Tables) → t ≡ now → has_format (pos 2) t.meta ≡ true → x.meta ≡ t.meta → x.inputs ≡ map input_row (entries t.inputs) → x.cache ≡ map cache_row (entries t.cache) → x.logs ≡ keys t.logs → x ≡ loaded now
loads t now x is current meta inputs cache logs =
    subst (λ (u : Contents). x ≡ loaded u) is (rw current (λ i. record { meta = meta i; inputs = inputs i; cache = cache i; logs = logs i }))

pub loads_old : (t now : OldContents) (x : OldTables) → t ≡ now → x.meta ≡ t.meta → x.inputs ≡ map input_row (entries t.inputs) → x.cache ≡ map old_cache_row (entries t.cache) → x.logs ≡ keys t.logs → x ≡ old_rows now
loads_old t now x is meta inputs cache logs =
    subst (λ (u : OldContents). x ≡ old_rows u) is (λ i. record { meta = meta i; inputs = inputs i; cache = cache i; logs = logs i })
