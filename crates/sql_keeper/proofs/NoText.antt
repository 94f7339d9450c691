-- A text that does nothing.
use Rattle.std.proofs.Common.{◌≡◌, ℕ, Bool, true, false, [], Ok, Err, Result, OnOk, IsTrue, refl, sym, subst, ◌∙◌}
use Rattle.sqlite.specs.declared.error.Error.{Error}
use Rattle.sqlite.specs.Command.TheVariants.{Nothing}
use Rattle.sqlite.specs.State.{State, ExecutesInside}
use Rattle.sqlite.specs.Listing.{understood}
use Rattle.sqlite.proofs.Callers.{IsPlain, command_of, runs_as}
use Rattle.sqlite_tied.specs.Compute.{everything}
use Rattle.sql_keeper.specs.inside.Schemas.{schema_of}
use Rattle.sql_keeper.specs.inside.Databases.{IsStoreDatabase}
use Rattle.sql_keeper.specs.inside.Steps.{Stays}

nothing_is : (is_old : Bool) → command_of (understood (schema_of is_old) []) ≡ Nothing
unfolding understood everything
nothing_is true = refl
nothing_is false = refl

nothing_plain : (is_old : Bool) → IsPlain (understood (schema_of is_old) [])
unfolding understood everything
nothing_plain true = (refl, refl)
nothing_plain false = (refl, refl)

pub touched : (is_old : Bool) (old new : State) (r : Result ℕ Error) → (IsTrue old.is_open → IsStoreDatabase is_old old.now) → IsTrue old.in_transaction → ExecutesInside 0 [] [] old new r
    → OnOk r (IsTrue old.is_open × Stays is_old old new)
touched is_old old new (Ok count) database inside h =
    let opened = h.1.was_open in
    let was = database opened in
    let same = (runs_as [] [] old new (schema_of is_old) was.schema Nothing (nothing_is is_old) (nothing_plain is_old) count h.0).0 in (
      opened,
      record {
        ready = record { is_open = same.0.is_open; database = subst (IsStoreDatabase is_old) (sym same.0.now_is) was; inside = same.0.mode ∙ inside };
        same = same.0.now_is;
        kept = same.0.committed_is;
      },
    )
touched is_old old new (Err e) database inside h = tt
