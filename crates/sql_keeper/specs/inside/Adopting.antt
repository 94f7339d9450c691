-- What an adoption makes of a connection.
use Rattle.std.specs.Prelude.{◌≡◌, ◌⊎◌, Bool, false, IsTrue}
use Rattle.sqlite.specs.State.{State}
use Rattle.sqlite.specs.Tree.{Trees}
use Rattle.sql_keeper.specs.Kept.{ListsNoTable}
use Rattle.keeper_core.specs.EitherSchema.{fresh_stored}
use Rattle.sql_keeper.specs.Rows.{stored}
use Rattle.sql_keeper.specs.inside.Databases.{IsStoreDatabase}

-- the tables are those of the last commit, or fresh ones if it had none
abbrev pub IsSameOrFresh : Trees → Trees → Type 0
IsSameOrFresh before now = (ListsNoTable before × (stored now ≡ fresh_stored)) ⊎ (stored now ≡ stored before)

-- an open connection over the tables of a schema, of which all is committed
pub record IsAdopted (is_old : Bool) (old new : State) : Type 0 where
  pub is_open : IsTrue new.is_open
  pub idle : new.in_transaction ≡ false
  pub database : IsStoreDatabase is_old new.now
  pub settled : new.now ≡ new.committed
  pub tables : IsSameOrFresh old.committed.trees new.committed.trees
