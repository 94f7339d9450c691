-- Entries in the strict order of their keys, and the map that they are.
use Rattle.std.specs.Prelude.{◌<◌, ℕ, T, List, map, Option, Some, None, Result, MatchResult, Vec, vec_len}
use Rattle.std.specs.declared.cmp.Ordering.{Ordering}
use Rattle.std.specs.FinMap.{FinMap, insert, is_sorted, from_sorted, remove}
use Rattle.std.specs.Vec.{vec_capacity}
use Rattle.std.specs.declared.alloc.Global.{Global}
use Rattle.sched_rows.specs.Ordered.{IsGapFor, IsPlaceOf}
use Rattle.keeper_core.specs.declared.sorted.Entry.{Entry}

-- the key of an entry
abbrev pub entry_key : {K V : Type 0} → Entry K V → K
entry_key e = e.key

-- its value
abbrev pub entry_value : {K V : Type 0} → Entry K V → V
entry_value e = e.value

-- an entry as a pair
abbrev pub pair_of : {K V : Type 0} → Entry K V → K × V
pair_of e = (entry_key e, entry_value e)

-- the keys strictly rise
abbrev pub IsInOrder : {K V : Type 0} → (K → K → Ordering) → List (Entry K V) → Type 0
IsInOrder R es = T (is_sorted R (map pair_of es))

-- there is room for one more
abbrev pub HasRoom : {K V : Type 0} → Vec (Entry K V) Global → Type 0
HasRoom es = vec_len es < vec_capacity es

-- the map of the entries
abbrev pub map_of : {K V : Type 0} (R : K → K → Ordering) → List (Entry K V) → FinMap R V
map_of R es = from_sorted (map pair_of es)

-- the map of the entries of a vector
abbrev pub vec_map : {K V : Type 0} (R : K → K → Ordering) → Vec (Entry K V) Global → FinMap R V
vec_map R es = map_of R es.items

-- with an entry, if there is one
abbrev pub with_entry : {K V : Type 0} {R : K → K → Ordering} → Option (Entry K V) → FinMap R V → FinMap R V
with_entry None m = m
with_entry (Some e) m = insert m e.key e.value

-- without a key, if there is one
abbrev pub without_key : {K V : Type 0} {R : K → K → Ordering} → Option K → FinMap R V → FinMap R V
without_key None m = m
without_key (Some k) m = remove m k

-- the index of a key's entry, or the index at which one would keep the order
abbrev pub IsIndexOf : {K V : Type 0} → (K → K → Ordering) → K → List (Entry K V) → Result ℕ ℕ → Type 0
IsIndexOf R k es result = MatchResult result (IsPlaceOf entry_key k es) (IsGapFor R entry_key k es)
