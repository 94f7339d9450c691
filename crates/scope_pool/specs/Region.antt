-- What a contract sees of a pool.
use Rattle.std.specs.Prelude.{◌≡◌, ℕ, ◌-◌, max, Bool, true, false, ◌||◌, ◌==◌, not, List, [], ◌∷◌, filter, Option, Some, None, IsSome, if◌then◌else◌, refl}
use Rattle.std.specs.Coded.{Coded, code_by, coded×, coded_ℕ, coded_list, coded_option}
use Rattle.std.specs.FinMap.{FinMap, empty, get, insert, retain_keys}
use Rattle.std.specs.FinMap as map_of
use Rattle.std.specs.List.{list_any}
use Rattle.std.specs.Option.{option_map}
use Rattle.std.specs.Ordering.{nat_cmp}

-- an open scope with its parent; a scope at the top has none
pub record OpenScope : Type 0 where
  pub name : ℕ
  pub parent : Option ℕ

-- an item with the scope in which it stands
pub record ScopedItem (A : Type 0) : Type 0 where
  pub scope : ℕ
  pub item : A

-- the items by their places
abbrev pub Items : Type 0 → Type 0
Items A = FinMap nat_cmp (ScopedItem A)

-- the open scopes with the newest first, the items by their places, and for how many more of each there is room
pub record Region (A : Type 0) : Type 0 where
  pub scopes : List OpenScope
  pub items : Items A
  pub spare_scopes : ℕ
  pub spare_puts : ℕ

-- the code of open scopes
abbrev pub scope_code : Coded OpenScope
scope_code = code_by (ℕ × Option ℕ) (coded× coded_ℕ (coded_option coded_ℕ)) (λ s. (s.name, s.parent)) (λ p. record { name = p.0; parent = p.1 }) (λ _. refl)

-- the code of items with their scopes
abbrev pub scoped_item_code : {A : Type 0} → Coded A → Coded (ScopedItem A)
scoped_item_code {A} code = code_by (ℕ × A) (coded× coded_ℕ code) (λ s. (s.scope, s.item)) (λ p. record { scope = p.0; item = p.1 }) (λ _. refl)

-- the code of regions
abbrev pub region_code : {A : Type 0} → Coded A → Coded (Region A)
region_code {A} code =
    code_by (List OpenScope × (Items A × (ℕ × ℕ)))
    (coded× (coded_list scope_code) (coded× (map_of.code coded_ℕ (scoped_item_code code)) (coded× coded_ℕ coded_ℕ)))
    (λ r. (r.scopes, (r.items, (r.spare_scopes, r.spare_puts))))
    (λ p. record { scopes = p.0; items = p.1.0; spare_scopes = p.1.1.0; spare_puts = p.1.1.1 })
    (λ _. refl)

-- ---- scopes

-- whether a scope of this name is open
abbrev pub is_open : List OpenScope → ℕ → Bool
is_open scopes name = list_any (λ s. s.name == name) scopes

-- a scope of this name is open
abbrev pub IsOpen : List OpenScope → ℕ → Type 0
IsOpen scopes name = is_open scopes name ≡ true

-- the top, or an open scope
abbrev pub IsOpenOrTop : List OpenScope → Option ℕ → Type 0
IsOpenOrTop scopes None = Unit {0}
IsOpenOrTop scopes (Some name) = IsOpen scopes name

-- each name is used once, and each parent is older than its scope
abbrev pub AreSound : List OpenScope → Type 0
AreSound [] = Unit {0}
AreSound (s ∷ older) = (is_open older s.name ≡ false) × (IsOpenOrTop older s.parent × AreSound older)

-- whether a scope is the outer one, or its parent is within the outer one
abbrev pub is_within : ℕ → Option ℕ → List OpenScope → Bool
is_within outer None _ = false
is_within outer (Some name) [] = false
is_within outer (Some name) (s ∷ older) =
    if s.name == name then (name == outer || is_within outer s.parent older)
    else is_within outer (Some name) older

-- the scopes that are not within the outer one
abbrev pub scopes_outside : ℕ → List OpenScope → List OpenScope
scopes_outside outer scopes = filter (λ s. not (is_within outer (Some s.name) scopes)) scopes

-- ---- items

module _ {A : Type 0} where
  -- an item stands at the place
  abbrev pub IsLive : Region A → ℕ → Type 0
  IsLive r place = IsSome (get r.items place)

  -- the item at a place
  abbrev pub item_at : Region A → ℕ → Option A
  item_at r place = option_map (λ x. x.item) (get r.items place)

  -- the scope of the item at a place
  abbrev pub scope_at : Region A → ℕ → Option ℕ
  scope_at r place = option_map (λ x. x.scope) (get r.items place)

  -- the items with another one in place of one, in the same scope
  abbrev pub exchanged : Items A → ℕ → A → Option (ScopedItem A) → Items A
  exchanged items place item None = items
  exchanged items place item (Some old) = insert items place (record old { item = item })

-- ---- what the calls do

module _ {A : Type 0} where
  -- nothing is open, nothing stands there, and there is no room yet
  abbrev pub nothing_open : Region A
  nothing_open = record { scopes = []; items = empty; spare_scopes = 0; spare_puts = 0 }

  -- there is room for at least so many more scopes and items
  abbrev pub reserved : Region A → ℕ → ℕ → Region A
  reserved r scopes puts = record r {
    spare_scopes = max r.spare_scopes scopes;
    spare_puts = max r.spare_puts puts;
  }

  -- a scope is opened, for which a spare is used
  abbrev pub opened : Region A → ℕ → Option ℕ → Region A
  opened r name parent = record r {
    scopes = record { name = name; parent = parent } ∷ r.scopes;
    spare_scopes = r.spare_scopes - 1;
  }

  -- an item is put at a place, for which a spare is used
  abbrev pub put_at : Region A → ℕ → ℕ → A → Region A
  put_at r place scope item = record r {
    items = insert r.items place (record { scope = scope; item = item });
    spare_puts = r.spare_puts - 1;
  }

  -- another item is put at a live place
  abbrev pub set_at : Region A → ℕ → A → Region A
  set_at r place item = record r { items = exchanged r.items place item (get r.items place) }

  -- a scope is given up, with all that are nested in it and all their items
  abbrev pub closed : Region A → ℕ → Region A
  closed r outer = record r {
    scopes = scopes_outside outer r.scopes;
    items = retain_keys r.items (λ place. not (is_within outer (scope_at r place) r.scopes));
  }
