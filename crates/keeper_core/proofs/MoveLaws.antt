-- Results with the hashes of their keys are in the same order.
use Rattle.std.proofs.Common.{◌≡◌, T, List, [], ◌∷◌, map, sym, ap, ◌∙◌}
use Rattle.std.proofs.lemmas.Simd.{map-map}
use Rattle.std.specs.declared.cmp.Ordering.{Ordering}
use Rattle.std.specs.declared.cmp.Ordering.TheVariants.{Less, Equal, Greater}
use Rattle.std.specs.Cmp.{IsTotalOrder}
use Rattle.std.specs.FinMap.{IsAntisymmetric, entries, entries-from_sorted, from_entries, from_sorted, get-from_entries, get-from_sorted, is_sorted, same_map}
use Rattle.std.specs.FinMap.Entries.{below_all}
use Rattle.std.specs.Ordering.{is_lt, ordering_then}
use Rattle.value_core.specs.Orders.{bytes_cmp}
use Rattle.sched_rows.proofs.SortedEntries.{both_from, both_true}
use Rattle.keeper_core.specs.declared.sorted.Entry.{Entry}
use Rattle.keeper_core.specs.declared.tables.CacheValue.{CacheValue}
use Rattle.keeper_core.specs.declared.tables.OldCacheKey.{OldCacheKey}
use Rattle.keeper_core.specs.Migrations.{hashed, with_hash}
use Rattle.keeper_core.specs.inside.HashedEntries.{hashed_entry}
use Rattle.keeper_core.specs.inside.EntryMaps.{IsInOrder, map_of, pair_of}
use Rattle.keeper_core.specs.inside.KeyTies.{key_cmp_antisymmetric}
use Rattle.keeper_core.specs.Contents.{key_cmp, key_cmp_total, old_key_cmp}

-- what comes first by two orders comes first by three
then_less : (r s t : Ordering) → T (is_lt (ordering_then r s)) → T (is_lt (ordering_then r (ordering_then s t)))
then_less Less s t h = tt
then_less Equal Less t h = tt
then_less Equal Equal t h = absurd h
then_less Equal Greater t h = absurd h
then_less Greater s t h = absurd h

below_hashed : (k : OldCacheKey) (es : List (Entry OldCacheKey CacheValue)) → T (below_all old_key_cmp k (map pair_of es)) → T (below_all key_cmp (with_hash k) (map pair_of (map hashed_entry es)))
below_hashed k [] h = tt
below_hashed k (e ∷ es) h =
    let b = both_true _ _ h in
    let by_op = bytes_cmp k.op e.key.op in
    let by_key = bytes_cmp k.ckey e.key.ckey in
    both_from _ _ (then_less by_op by_key (bytes_cmp (with_hash k).khash (with_hash e.key).khash) b.0) (below_hashed k es b.1)

pub hashed_order : (es : List (Entry OldCacheKey CacheValue)) → IsInOrder old_key_cmp es → IsInOrder key_cmp (map hashed_entry es)
hashed_order [] h = tt
hashed_order (e ∷ es) h =
    let b = both_true _ _ h in
    both_from _ _ (below_hashed e.key es b.0) (hashed_order es b.1)

-- the map of entries in order
pub sorted_map : {K X : Type 0} {R : K → K → Ordering} → IsTotalOrder R → IsAntisymmetric R → (es : List (K × X)) → T (is_sorted R es) → from_sorted {R = R} es ≡ from_entries es
sorted_map {R = R} o antisymmetric es h = same_map o antisymmetric _ _ (λ q. get-from_sorted R es q h ∙ sym (get-from_entries o es q))

pub hashed_map : (es : List (Entry OldCacheKey CacheValue)) → IsInOrder old_key_cmp es → map_of key_cmp (map hashed_entry es) ≡ from_entries (map hashed (entries (map_of old_key_cmp es)))
hashed_map es h =
    sorted_map key_cmp_total key_cmp_antisymmetric (map pair_of (map hashed_entry es)) (hashed_order es h)
    ∙ ap from_entries (map-map pair_of hashed_entry es ∙ sym (ap (map hashed) (entries-from_sorted old_key_cmp (map pair_of es) h) ∙ map-map hashed pair_of es))
