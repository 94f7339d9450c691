-- Tables that are held by paths.
use Rattle.std.specs.Prelude.{◌≡◌, ◌<◌, ℕ, if◌then◌else◌, List, [], ◌∷◌, length, get_or, Option, Some, MatchOption, slice_get, string_bytes}
use Rattle.std.specs.Option.{option_map}
use Rattle.std.specs.Str.{bytes_eq}
use Rattle.keeper_core.specs.declared.mem_keepers.HeldTables.{HeldTables}
use Rattle.keeper_core.specs.declared.mem_keepers.LastGiven.{LastGiven}
use Rattle.keeper_core.specs.declared.mem_keepers.LastGiven.TheVariants as last
use Rattle.keeper_core.specs.declared.stored.Stored.{Stored}
use Rattle.keeper_core.specs.EitherSchema.{fresh_stored}

-- the tables of the first that has the path, and fresh ones if none has
abbrev pub held_at : List HeldTables → List ℕ → Stored
held_at [] path = fresh_stored
held_at (h ∷ hs) path = if bytes_eq (string_bytes h.path) path then h.stored else held_at hs path

-- the tables of the keeper that was given back last
abbrev pub Leaves : List HeldTables → LastGiven → Stored → Type 0
Leaves hs last.None x = ⊥
Leaves hs (last.Held index) x = Some x ≡ option_map (λ h. h.stored) (slice_get hs index)
Leaves hs (last.Apart s) x = x ≡ s

-- no tables may be left
abbrev pub LeavesNothing : (Stored → Type 0) → Type 0
LeavesNothing left = (s : Stored) → left s → ⊥

-- the path's tables are those at the index, or none are held
abbrev pub FindsHeld : List HeldTables → List ℕ → Option ℕ → Type 0
FindsHeld hs path result = MatchOption result (held_at hs path ≡ fresh_stored) (λ i. (i < length hs) × ((d : HeldTables) → held_at hs path ≡ (get_or hs i d).stored))

-- the same tables are held for each path
abbrev pub HoldsAlike : List HeldTables → List HeldTables → Type 0
HoldsAlike old new = (path : List ℕ) → held_at new path ≡ held_at old path
