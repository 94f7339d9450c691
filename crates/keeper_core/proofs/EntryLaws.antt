-- What edits of entries make of their map.
use Rattle.std.proofs.Common.{◌≡◌, ℕ, List, [], map, length, set, get_or, Some, None, ap, subst, sym, ◌∙◌}
use Rattle.std.specs.declared.cmp.Ordering.{Ordering}
use Rattle.std.specs.Cmp.{IsTotalOrder}
use Rattle.std.specs.FinMap.{IsAntisymmetric, empty, empty_of_len, entries, entries-from_sorted, get, len-entries}
use Rattle.std.proofs.lemmas.List.{length-map}
use Rattle.std.proofs.lemmas.Simd.{map-map}
use Rattle.std.specs.FinMap as finite
use Rattle.std.specs.List.{insert, remove}
use Rattle.sched_rows.specs.Ordered.{IsGapFor, IsPlaceOf}
use Rattle.sched_rows.proofs.SortedEntries.{get-gap, get-place, map_insert, map_remove, map_set, remove_none, sorted_insert, sorted_remove, sorted_set}
use Rattle.keeper_core.specs.declared.sorted.Entry.{Entry}
use Rattle.keeper_core.specs.inside.EntryMaps.{IsInOrder, entry_key, entry_value, map_of, pair_of}

module _ {K V : Type 0} (R : K → K → Ordering) (o : IsTotalOrder R) where
  pub get_at : (k : K) (es : List (Entry K V)) (i : ℕ) (d : Entry K V) → IsInOrder R es → IsPlaceOf entry_key k es i → Some (get_or es i d).value ≡ get (map_of R es) k
  get_at k es i d h at = sym (get-place R o entry_key entry_value k es i d h at)

  pub get_none : (k : K) (es : List (Entry K V)) (i : ℕ) → IsInOrder R es → IsGapFor R entry_key k es i → None ≡ get (map_of R es) k
  get_none k es i h gap = sym (get-gap R o entry_key entry_value k es i h gap)

  pub ordered_set : (e : Entry K V) (es : List (Entry K V)) (i : ℕ) → IsInOrder R es → IsPlaceOf entry_key e.key es i → IsInOrder R (set es i e)
  ordered_set e es i h at = sorted_set R o entry_key entry_value e es i h at

  pub map_of-set : (e : Entry K V) (es : List (Entry K V)) (i : ℕ) → IsInOrder R es → IsPlaceOf entry_key e.key es i → map_of R (set es i e) ≡ finite.insert (map_of R es) e.key e.value
  map_of-set e es i h at = map_set R o entry_key entry_value e es i h at

  pub ordered_insert : (e : Entry K V) (es new : List (Entry K V)) (i : ℕ) → IsInOrder R es → IsGapFor R entry_key e.key es i → new ≡ insert es i e → IsInOrder R new
  ordered_insert e es new i h gap is = subst (IsInOrder R) (sym is) (sorted_insert R o entry_key entry_value e es i h gap)

  pub map_of-insert : (e : Entry K V) (es new : List (Entry K V)) (i : ℕ) → IsInOrder R es → IsGapFor R entry_key e.key es i → new ≡ insert es i e
      → map_of R new ≡ finite.insert (map_of R es) e.key e.value
  map_of-insert e es new i h gap is = ap (map_of R) is ∙ map_insert R o entry_key entry_value e es i h gap

  pub ordered_remove : (k : K) (es new : List (Entry K V)) (i : ℕ) (d : Entry K V) → IsInOrder R es → IsPlaceOf entry_key k es i → new ≡ remove es i → IsInOrder R new
  ordered_remove k es new i d h at is = subst (IsInOrder R) (sym is) (sorted_remove R o entry_key entry_value k es i d h at)

  module _ (antisymmetric : IsAntisymmetric R) where
    pub map_of-remove : (k : K) (es new : List (Entry K V)) (i : ℕ) (d : Entry K V) → IsInOrder R es → IsPlaceOf entry_key k es i → new ≡ remove es i
        → map_of R new ≡ finite.remove (map_of R es) k
    map_of-remove k es new i d h at is = ap (map_of R) is ∙ map_remove R o entry_key entry_value antisymmetric k es i d h at

    pub map_of-absent : (k : K) (es : List (Entry K V)) (i : ℕ) → IsInOrder R es → IsGapFor R entry_key k es i → map_of R es ≡ finite.remove (map_of R es) k
    map_of-absent k es i h gap = remove_none R o entry_key entry_value antisymmetric (map_of R es) k (sym (get_none k es i h gap))

-- no entry
pub map_of-nil : {K V : Type 0} (R : K → K → Ordering) → map_of {V = V} R [] ≡ empty
map_of-nil R = empty_of_len (map_of R []) (len-entries (map_of R []) ∙ ap length (entries-from_sorted R [] tt))

-- rows of entries are those of the map's
pub rows-map_of : {K V X : Type 0} (R : K → K → Ordering) (f : K × V → X) (es : List (Entry K V)) → IsInOrder R es → map (λ e. f (pair_of e)) es ≡ map f (entries (map_of R es))
rows-map_of R f es h = sym (ap (map f) (entries-from_sorted R (map pair_of es) h) ∙ map-map f pair_of es)

pub length-map_of : {K V : Type 0} (R : K → K → Ordering) (es : List (Entry K V)) → IsInOrder R es → length es ≡ length (entries (map_of R es))
length-map_of R es h = sym (ap length (entries-from_sorted R (map pair_of es) h) ∙ length-map es pair_of)
