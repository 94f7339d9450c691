-- What a migration promises.
use Rattle.std.specs.Prelude.{◌≢◌, ◌⊎◌, ℕ, List, IfSome, IsTrue, codes}
use Rattle.keeper_core.specs.declared.stored.Stored.{Stored}
use Rattle.keeper_core.specs.EitherSchema.{migrated}
use Rattle.keeper_core.specs.declared.keeper.Migrated.{Migrated}
use Rattle.keeper_core.specs.declared.keeper.Migrated.TheVariants.{Rows, Already}
use Rattle.session_rules.specs.Commands.{migrate_plan, moved_line}
use Rattle.session_rules.specs.Runs.{Follows, Given, IsMoved, LeavesNoMore, Seen}

-- a stop leaves the store, moved or not as the status says; one that wasn't opened is left as it was
abbrev pub LeavesMoved : Stored → ℕ → Seen → Seen → Type 0
LeavesMoved store status e e' = IsMoved store (migrated store) status e' ⊎ ((status ≢ 0) × LeavesNoMore e e')

-- `migrate` on the store of a path, if it is known to the end
abbrev pub IsMigration : List ℕ → Given → ℕ → Seen → Seen → Type 0
IsMigration path given status e e' =
    IsTrue e'.knows_left → IfSome given.held (λ held.
    Follows (λ xs. migrate_plan (held path)) status e e' × LeavesMoved (held path) status e e')

-- what is printed of what a migration did
abbrev pub moved_text : Migrated → List ℕ
moved_text (Rows n) = moved_line n
moved_text Already = codes "already schema 2\n"
