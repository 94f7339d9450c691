-- A connection that is adopted.
use Rattle.std.proofs.Common.{◌≡◌, inl, inr, Bool, true, false, List, [], ◌∷◌, filter, IsTrue, refl, sym, subst}
use Rattle.std.specs.List.{AllZip}
use Rattle.sqlite.specs.Effect.{Database, IsDatabase}
use Rattle.sqlite.specs.Held.{Held, state}
use Rattle.sqlite.specs.State.{HasCleanDisk, State}
use Rattle.sqlite.specs.Store.{Ghosts}
use Rattle.sqlite.specs.Schema.{Schema}
use Rattle.sqlite.specs.Table.{Table}
use Rattle.sqlite_catalog.specs.Listing.{IsTableRow, is_table_row}
use Rattle.sqlite_trees.specs.Objects.{catalog_tree}
use Rattle.sqlite_trees.specs.View.{View}
use Rattle.sqlite_rules.specs.Lists.{Has}
use Rattle.sql_keeper.specs.Kept.{Adopts, Kept, ListsNoTable, MayLeave, known_of}
use Rattle.sql_keeper.specs.Rows.{stored}
use Rattle.sql_keeper.specs.inside.Schemas.{no_schema, schema_of, the_cache, the_inputs, the_logs, the_meta, the_old_cache}
use Rattle.sql_keeper.specs.inside.Adopting.{IsAdopted}
use Rattle.sql_keeper.specs.inside.Databases.{AreKeyed, IsKeyed, IsStoreDatabase}
use Rattle.sql_keeper.specs.inside.Keeping.{IsKept}
use Rattle.sql_keeper.proofs.Knowing.{IsLawful, is_sure, when_known}

pub open_unless_broken : (v : View) → (v.is_open ≡ false → IsTrue v.is_broken) → v.is_broken ≡ false → IsTrue v.is_open
open_unless_broken v broken sound = go v.is_open refl
  where
    go : (b : Bool) → v.is_open ≡ b → b ≡ true
    go true is = refl
    go false is = absurd (let e = broken is in cc)

none_zipped : {X Y : Type 0} (P : X → Y → Type 0) (xs : List X) → AllZip P xs [] → xs ≡ []
none_zipped P [] all = refl
none_zipped P (x ∷ xs) all = absurd all

-- a database without a table lists none
pub lists_none : (db : Database) → db.schema ≡ no_schema → IsDatabase db → ListsNoTable db.trees
lists_none db none sound = none_zipped IsTableRow (filter is_table_row (db.trees catalog_tree)) (subst (λ s. AllZip IsTableRow (filter is_table_row (db.trees catalog_tree)) s.tables) none sound.lists.listed.tables)

abbrev KeyedIn : Database → Schema → Type 0
KeyedIn db s = (t : Table) → Has s.tables t → IsKeyed (db.trees t.tree)

-- a known schema, whose tables are keyed
pub known_database : (is_old : Bool) (db : Database) → db.schema ≡ schema_of is_old → IsDatabase db → AreKeyed db → IsStoreDatabase is_old db
known_database true db is sound keyed =
    let all : KeyedIn db (schema_of true) = subst (KeyedIn db) is keyed in
    record {
      schema = is;
      sound = sound;
      meta = all the_meta (inl refl);
      inputs = all the_inputs (inr (inl refl));
      cache = all the_old_cache (inr (inr (inl refl)));
      logs = all the_logs (inr (inr (inr (inl refl))));
    }
known_database false db is sound keyed =
    let all : KeyedIn db (schema_of false) = subst (KeyedIn db) is keyed in
    record {
      schema = is;
      sound = sound;
      meta = all the_meta (inl refl);
      inputs = all the_inputs (inr (inl refl));
      cache = all the_cache (inr (inr (inl refl)));
      logs = all the_logs (inr (inr (inr (inl refl))));
    }

module _ {S : Type 0} (g : Ghosts S) (new : Kept S) (law : IsLawful (state g new.conn)) (last : new.last ≡ new.conn) (idle : new.conn.in_transaction ≡ false)
    (old : State) (adopted : HasCleanDisk (state g new.conn) → IsAdopted new.is_old old (state g new.conn)) where
  pub kept_adopted : IsKept g new
  kept_adopted = record {
    idle = idle;
    database = λ clean opened. (adopted clean).database;
    settled = λ clean opened. (adopted clean).settled;
    last = λ opened. subst (λ (c : Held S). IsTrue (state g c).is_open × ((state g c).committed ≡ (state g new.conn).committed)) (sym last) (opened, refl);
    covered = λ clean db left. subst (λ (c : Held S). MayLeave (state g c) (stored db)) (sym last) (record { clean = clean; db = db; left = left; is = refl });
  }

  pub adopts : IsLawful (state g new.last) → Adopts old.committed.trees (known_of g new)
  adopts other = record {
    tables = when_known (state g new.conn) _ (λ opened. elim (adopted (law.clean opened)).tables [
      | inl none ↦ inr (none.0, none.1)
      | inr same ↦ inl same
    ]);
    sure = is_sure g new new law kept_adopted other;
  }
