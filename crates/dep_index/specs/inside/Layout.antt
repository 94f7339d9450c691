-- How an index lays out its pairs. No public clause cites this module.
use Rattle.std.specs.Prelude.{◌≡◌, ℕ, ◌+◌, ◌<◌, ◌≤◌, false, true, cond, ◌==◌, List, [], ◌∷◌, length, map, not, Option, None, Some, Result, MatchResult, slice_get, slice_index_or, vec_capacity, vec_len}
use Rattle.std.specs.FinSet.{contains, from_list, remove, retain}
use Rattle.std.specs.List.{AllByRecursion}
use Rattle.std.specs.Option.{MatchOption}
use Rattle.std.specs.Ordering.{nat_cmp, on, then_cmp}
use Rattle.std.specs.declared.cmp.Ordering.{Ordering}
use Rattle.std.specs.declared.cmp.Ordering.TheVariants.{Greater, Less}
use Rattle.value_core.specs.Same.{same}
use Rattle.dep_index.specs.Pairs.{Link, Links, link_cmp, used_cmp, used_code}
use Rattle.dep_index.specs.declared.pair.By.{By}
use Rattle.dep_index.specs.declared.pair.By.TheVariants as by_first
use Rattle.dep_index.specs.declared.pair.Pair.{Pair}
use Rattle.dep_index.specs.declared.pairs.Pairs.{Pairs}
use Rattle.dep_index.specs.declared.used.Used.{Used}
use Rattle.dep_index.specs.declared.used.Used.TheVariants as used

-- a pair as contracts see it
abbrev pub shown : Pair → Link
shown p = record { source = p.source; to = p.to }

-- the pair of a source and an instance
abbrev pub link : Used → ℕ → Link
link source to = record { source = source; to = to }

-- by the instance, then by the source
abbrev pub user_cmp : Link → Link → Ordering
user_cmp = then_cmp (on (λ l. l.to) nat_cmp) (on (λ l. l.source) used_cmp)

-- the order of an index
abbrev pub order_of : By → Link → Link → Ordering
order_of by_first.Source = link_cmp
order_of by_first.User = user_cmp

-- how the pair of a slot, if there is one, compares to a pair
abbrev pub compared : By → Link → Option Pair → Ordering
compared by l (Some p) = order_of by (shown p) l
compared by l None = Greater

-- the pair in a slot, and any pair if there is none
abbrev pub shown_or : Option Pair → Link
shown_or (Some p) = shown p
shown_or None = record { source = used.Input 0; to = 0 }

-- the pair in the slot of a number
abbrev pub link_at : List Pair → ℕ → Link
link_at slots n = shown_or (slice_get slots n)

-- the pairs in slots of these numbers
abbrev pub listed : List Pair → List ℕ → List Link
listed slots ns = map (link_at slots) ns

-- the pairs in slots of these numbers, as a set
abbrev pub links_of : List Pair → List ℕ → Links
links_of slots ns = from_list (listed slots ns)

-- each pair is below those after it
abbrev pub Rises : By → List Link → Type 0
Rises by [] = Unit {0}
Rises by (l ∷ ls) = AllByRecursion (λ m. order_of by l m ≡ Less) ls × Rises by ls

-- the numbers are those of slots whose pairs rise
pub record IsIndex (by : By) (slots : List Pair) (ns : List ℕ) : Type 0 where
  pub within : AllByRecursion (λ n. n < length slots) ns
  pub rising : Rises by (listed slots ns)

-- ---- searches

-- the number at an index is that of a slot with this pair
pub record IsFoundAt (l : Link) (slots : List Pair) (ns : List ℕ) (at : ℕ) : Type 0 where
  pub within : at < length ns
  pub is : (d : ℕ) → link_at slots (slice_index_or ns at d) ≡ l

-- the pairs before an index are less than this one, and those from there on are greater
pub record IsGapFor (by : By) (l : Link) (slots : List Pair) (ns : List ℕ) (at : ℕ) : Type 0 where
  pub within : at ≤ length ns
  pub before : (i : ℕ) (d : ℕ) → i < at → order_of by (link_at slots (slice_index_or ns i d)) l ≡ Less
  pub behind : (i : ℕ) (d : ℕ) → at ≤ i → i < length ns → order_of by (link_at slots (slice_index_or ns i d)) l ≡ Greater

-- a search returns the index of the number of a pair's slot, or the one at which it would go in
abbrev pub Finds : By → Link → List Pair → List ℕ → Result ℕ ℕ → Type 0
Finds by l slots ns result = MatchResult result (IsFoundAt l slots ns) (IsGapFor by l slots ns)

-- just the pairs before an index are less than this one
pub record IsStartOf (by : By) (l : Link) (slots : List Pair) (ns : List ℕ) (at : ℕ) : Type 0 where
  pub within : at ≤ length ns
  pub before : (i : ℕ) (d : ℕ) → i < at → order_of by (link_at slots (slice_index_or ns i d)) l ≡ Less
  pub behind : (i : ℕ) (d : ℕ) → at ≤ i → i < length ns → order_of by (link_at slots (slice_index_or ns i d)) l ≡ Less → ⊥

-- ---- changes

-- the last pair has moved to a slot
pub record IsSwapRemoved (slot : ℕ) (slots after : List Pair) : Type 0 where
  pub len : length after + 1 ≡ length slots
  pub moved : slot < length after → slice_get after slot ≡ slice_get slots (length after)
  pub others : (n : ℕ) → (n ≡ slot → ⊥) → n < length after → slice_get after n ≡ slice_get slots n

-- the numbers show the same pairs once the last pair has moved to a slot
pub record IsMovedLast (slot : ℕ) (slots : List Pair) (old new : List ℕ) : Type 0 where
  pub within : AllByRecursion (λ n. n + 1 < length slots) new
  pub shows : (after : List Pair) → IsSwapRemoved slot slots after → listed after new ≡ listed slots old

-- ---- all pairs

-- the pairs as a set
abbrev pub links_in : Pairs → Links
links_in p = links_of p.slots.items p.by_source.items

-- pairs without those of an instance
abbrev pub without_user : Links → ℕ → Links
without_user links to = retain links (λ l. not (l.to == to))

-- both indexes are of the same pairs
pub record AreKept (p : Pairs) : Type 0 where
  pub by_source : IsIndex by_first.Source p.slots.items p.by_source.items
  pub by_user : IsIndex by_first.User p.slots.items p.by_user.items
  pub same : links_of p.slots.items p.by_user.items ≡ links_in p

-- there is room for so many pairs more
pub record HasRoom (n : ℕ) (p : Pairs) : Type 0 where
  pub slots : vec_len p.slots + n ≤ vec_capacity p.slots
  pub by_source : vec_len p.by_source + n ≤ vec_capacity p.by_source
  pub by_user : vec_len p.by_user + n ≤ vec_capacity p.by_user

-- the pair of a slot has gone
pub record IsOneLess (slot : ℕ) (old new : Pairs) : Type 0 where
  pub links : links_in new ≡ remove (links_in old) (link_at old.slots.items slot)
  pub len : vec_len new.slots + 1 ≡ vec_len old.slots

-- the slot has a pair of the instance
pub record IsSlotOf (to : ℕ) (p : Pairs) (slot : ℕ) : Type 0 where
  pub within : slot < length p.slots.items
  pub is : (link_at p.slots.items slot).to ≡ to

-- no pair is of the instance
abbrev pub HasNoneOf : ℕ → Links → Type 0
HasNoneOf to links = (l : Link) → contains links l ≡ true → (l.to == to) ≡ false

-- a slot with a pair of the instance is found, or there is none
abbrev pub FindsUser : ℕ → Pairs → Option ℕ → Type 0
FindsUser to p result = MatchOption result (HasNoneOf to (links_in p)) (IsSlotOf to p)

-- the instances of the first pairs, as long as these have the source
abbrev pub leading_users : Used → List Link → List ℕ
leading_users source [] = []
leading_users source (l ∷ ls) = cond (same used_code l.source source) (l.to ∷ leading_users source ls) []
