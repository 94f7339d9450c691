-- Keepers of two kinds.
use Rattle.std.specs.Prelude.{ℕ, List, ⊤}
use Rattle.std.specs.declared.option.Option.{Option}
use Rattle.std.specs.declared.option.Option.TheVariants.{None, Some}
use Rattle.keeper_core.specs.EitherSchema.{fresh_stored}
use Rattle.keeper_core.specs.KeeperCalls.{Holds, Known}
use Rattle.store_keepers.specs.declared.store_keeper.StoreKeeper.{StoreKeeper}
use Rattle.store_keepers.specs.declared.store_keeper.StoreKeeper.TheVariants.{Memory, File}

-- what a keeper of its kind has
abbrev pub by_kind {ℓ} : {A : Type ℓ} {M F : Type 0} → (M → A) → (F → A) → StoreKeeper M F → A
by_kind in_memory over_file (Memory k) = in_memory k
by_kind in_memory over_file (File k) = over_file k

-- a keeper over a file for a path, and of a fresh store in memory without one
abbrev pub IsOfPath : {M F : Type 0} → (M → Known) → Option (List ℕ) → StoreKeeper M F → Type 0
IsOfPath known None (Memory k) = Holds fresh_stored (known k)
IsOfPath known None (File k) = ⊥
IsOfPath known (Some path) (Memory k) = ⊥
IsOfPath known (Some path) (File k) = ⊤
