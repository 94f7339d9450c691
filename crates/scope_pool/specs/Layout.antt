-- How a pool lays out its scopes and slots. No public clause cites this module.
use Rattle.std.specs.Prelude.{◌≡◌, ℕ, suc, ◌+◌, ◌<◌, Bool, true, false, ◌==◌, ◌||◌, List, [], ◌∷◌, ◌++◌, length, map, All, Option, Some, None, Result, Ok, Err, count_by, slice_index, slice_index_or, slice_set, if◌then◌else◌}
use Rattle.std.specs.FinMap.{FinMap, empty, insert}
use Rattle.std.specs.List.{list_any}
use Rattle.std.specs.Option.{option_map}
use Rattle.std.specs.Ordering.{nat_cmp}
use Rattle.scope_pool.specs.Region.{OpenScope, ScopedItem, is_open}
use Rattle.scope_pool.specs.declared.scopes.Scope.{Scope}
use Rattle.scope_pool.specs.declared.slots.Slot.{Slot}
use Rattle.scope_pool.specs.declared.slots.Slot.TheVariants.{Vacant, Held}

-- a scope as contracts see it
abbrev pub shown : Scope → OpenScope
shown s = record { name = s.name; parent = s.parent }

-- the scopes with the newest first
abbrev pub newest_first : List Scope → List OpenScope
newest_first [] = []
newest_first (s ∷ ss) = newest_first ss ++ shown s ∷ []

-- whether a number is in the list
abbrev pub among : List ℕ → ℕ → Bool
among ms n = list_any (λ m. m == n) ms

-- whether a number is in the list, if there is one
abbrev pub among_maybe : List ℕ → Option ℕ → Bool
among_maybe ms None = false
among_maybe ms (Some n) = among ms n

-- the names that a pass over the scopes in the order of their opening finds within an outer one
abbrev pub found_from : ℕ → List ℕ → List Scope → List ℕ
found_from outer found [] = found
found_from outer found (s ∷ ss) = found_from outer (if s.name == outer || among_maybe found s.parent then found ++ s.name ∷ [] else found) ss

-- the names rise
abbrev pub IsAscending : List Scope → Type 0
IsAscending [] = Unit {0}
IsAscending (s ∷ ss) = All (λ t. s.name < t.name) ss × IsAscending ss

-- contracts see the same scopes, with the same names
pub record KeepsScopes (old new : List Scope) : Type 0 where
  pub seen : newest_first new ≡ newest_first old
  pub len : length new ≡ length old
  pub ascending : IsAscending old → IsAscending new
  pub used : (next : ℕ) → All (λ s. s.name < next) old → All (λ s. s.name < next) new

-- a search by name finds the scope, or it isn't open
abbrev pub Finds : ℕ → List Scope → Result ℕ ℕ → Type 0
Finds name ss (Ok i) = (i < length ss) × ((d : Scope) → (slice_index_or ss i d).name ≡ name)
Finds name ss (Err _) = is_open (newest_first ss) name ≡ false

-- the scope of an item, with the place of the item that was put into that scope before
pub record Link : Type 0 where
  pub scope : ℕ
  pub before : Option ℕ

-- whether an item is of the scope
abbrev pub is_of : ℕ → Option Link → Bool
is_of scope None = false
is_of scope (Some link) = link.scope == scope

-- each place leads to the one before it
abbrev pub IsChain : (ℕ → Option Link) → ℕ → Option ℕ → List ℕ → Type 0
IsChain at scope last [] = last ≡ None
IsChain at scope last (p ∷ ps) =
    (last ≡ Some p) × ((before : Option ℕ) × ((at p ≡ Some (record { scope = scope; before = before })) × ((among ps p ≡ false) × IsChain at scope before ps)))

-- the places of a scope are found from the last one on
abbrev pub IsChained : (ℕ → Option Link) → ℕ → Option ℕ → Type 0
IsChained at scope last = (ps : List ℕ) × (IsChain at scope last ps × ((p : ℕ) → is_of scope (at p) ≡ true → among ps p ≡ true))

module _ {T : Type 0} where
  -- what a slot holds
  abbrev pub held_in : Slot T → Option (ScopedItem T)
  held_in (Vacant _) = None
  held_in (Held scope _ item) = Some (record { scope = scope; item = item })

  -- what each slot holds
  abbrev pub holdings : List (Slot T) → List (Option (ScopedItem T))
  holdings slots = map held_in slots

  -- what the slot at a place holds
  abbrev pub held_at : List (Slot T) → ℕ → Option (ScopedItem T)
  held_at slots place = slice_index_or (holdings slots) place None

  -- how a slot is chained
  abbrev pub link_in : Slot T → Option Link
  link_in (Vacant _) = None
  link_in (Held scope before _) = Some (record { scope = scope; before = before })

  -- how each slot is chained
  abbrev pub links : List (Slot T) → List (Option Link)
  links slots = map link_in slots

  -- how the slot at a place is chained
  abbrev pub link_at : List (Slot T) → ℕ → Option Link
  link_at slots place = slice_index_or (links slots) place None

  -- the items of each of these scopes are chained
  abbrev pub AreChained : List (Slot T) → List Scope → Type 0
  AreChained slots scopes = All (λ s. IsChained (link_at slots) s.name s.last) scopes

  -- the item that it holds
  abbrev pub item_at : List (Slot T) → ℕ → Option T
  item_at slots place = option_map (λ x. x.item) (held_at slots place)

  -- at each place both hold the same
  abbrev pub HoldSame : List (Slot T) → List (Slot T) → Type 0
  HoldSame old new = (place : ℕ) → held_at new place ≡ held_at old place

  -- each place is chained as before
  abbrev pub ChainSame : List (Slot T) → List (Slot T) → Type 0
  ChainSame old new = (place : ℕ) → link_at new place ≡ link_at old place

  -- whether a slot holds an item
  abbrev pub is_held : Slot T → Bool
  is_held (Vacant _) = false
  is_held (Held _ _ _) = true

  -- the item of a slot
  abbrev pub slot_item : Slot T → Option T
  slot_item (Vacant _) = None
  slot_item (Held _ _ item) = Some item

  -- a slot that holds another item in the same scope
  abbrev pub slot_with : T → Slot T → Slot T
  slot_with x (Vacant k) = Vacant k
  slot_with x (Held scope before _) = Held scope before x

  -- each vacant slot of the stack has its place in the stack, and all others are held
  pub record IsLaidOut (slots : List (Slot T)) (vacant : List ℕ) : Type 0 where
    pub within : (k : ℕ) → k < length vacant → slice_index vacant k < length slots
    pub stacked : (k : ℕ) → k < length vacant → (d : Slot T) → slice_index_or slots (slice_index vacant k) d ≡ Vacant k
    pub counted : count_by is_held slots + length vacant ≡ length slots

module _ {A : Type 0} where
  -- what stands at the places from a number on, as a map
  abbrev pub standing_from : ℕ → List (Option A) → FinMap nat_cmp A
  standing_from n [] = empty
  standing_from n (None ∷ xs) = standing_from (suc n) xs
  standing_from n (Some x ∷ xs) = insert (standing_from (suc n) xs) n x

  -- what stands at the places, as a map
  abbrev pub standing : List (Option A) → FinMap nat_cmp A
  standing xs = standing_from 0 xs

module _ {A : Type 0} where
  -- an item with another one in its place, in the same scope
  abbrev pub with_item : A → ScopedItem A → ScopedItem A
  with_item item x = record x { item = item }

  -- what is left of an item when some scopes are given up
  abbrev pub left_by : (ℕ → Bool) → Option (ScopedItem A) → Option (ScopedItem A)
  left_by gone None = None
  left_by gone (Some x) = if gone x.scope then None else Some x

module _ {T : Type 0} where
  -- a slot is filled, and the others hold what they held
  abbrev pub IsFilled : ℕ → ScopedItem T → List (Slot T) → List (Slot T) → Type 0
  IsFilled place x old new = holdings new ≡ slice_set (holdings old) place (Some x)

  -- a slot holds another item in the same scope, and the others hold what they held
  abbrev pub IsExchanged : ℕ → T → List (Slot T) → List (Slot T) → Type 0
  IsExchanged place item old new = holdings new ≡ slice_set (holdings old) place (option_map (with_item item) (held_at old place))

  -- the slots of some scopes are vacated
  abbrev pub IsVacated : List ℕ → List (Slot T) → List (Slot T) → Type 0
  IsVacated closing old new = (place : ℕ) → held_at new place ≡ left_by (among closing) (held_at old place)

  -- the slots of a scope are vacated
  abbrev pub IsVacatedOf : ℕ → List (Slot T) → List (Slot T) → Type 0
  IsVacatedOf scope old new = (place : ℕ) → held_at new place ≡ left_by (λ n. n == scope) (held_at old place)

  -- chains of other scopes stay
  abbrev pub KeepsOthers : ℕ → List (Slot T) → List (Slot T) → Type 0
  KeepsOthers scope old new = (t : ℕ) (last : Option ℕ) → (t == scope) ≡ false → IsChained (link_at old) t last → IsChained (link_at new) t last
