-- Places in lists that are in the strict order of their items' keys.
use Rattle.std.specs.Prelude.{◌≡◌, ℕ, ◌<◌, ◌≤◌, List, length, slice_index_or, MatchResult, Result}
use Rattle.std.specs.declared.cmp.Ordering.{Ordering}
use Rattle.std.specs.declared.cmp.Ordering.TheVariants.{Less, Greater}

-- an item with this key stands at the place
pub record IsPlaceOf {Item K : Type 0} (key : Item → K) (k : K) (ts : List Item) (place : ℕ) : Type 0 where
  pub within : place < length ts
  pub is : (d : Item) → key (slice_index_or ts place d) ≡ k

-- the items before the place have smaller keys, and those from there on have greater ones
pub record IsGapFor {Item K : Type 0} (cmp : K → K → Ordering) (key : Item → K) (k : K) (ts : List Item) (place : ℕ) : Type 0 where
  pub within : place ≤ length ts
  pub before : (i : ℕ) (d : Item) → i < place → cmp (key (slice_index_or ts i d)) k ≡ Less
  pub behind : (i : ℕ) (d : Item) → place ≤ i → i < length ts → cmp (key (slice_index_or ts i d)) k ≡ Greater

-- a search returns the place of an item with the key, or else the place at which one would go in
abbrev pub Finds : {Item K : Type 0} → (K → K → Ordering) → (Item → K) → K → List Item → Result ℕ ℕ → Type 0
Finds cmp key k ts result = MatchResult result (IsPlaceOf key k ts) (IsGapFor cmp key k ts)
