-- Which tables the trees of a store show.
use Rattle.std.proofs.Common.{◌≡◌, ◌||◌, ℕ, Bool, true, false, List, [], ◌∷◌, filter, codes, refl, ap, subst, ◌∙◌}
use Rattle.std.specs.List.{AllZip, list_any}
use Rattle.std.specs.Str.{bytes_eq}
use Rattle.sqlite.specs.Effect.{Database}
use Rattle.sqlite.specs.Order.{Row, bytes}
use Rattle.sqlite.specs.Schema.{Schema}
use Rattle.sqlite.specs.Table.{Table}
use Rattle.sqlite.specs.Tree.{Trees}
use Rattle.sqlite_catalog.specs.Listing.{IsTableRow, is_table_row}
use Rattle.sqlite_trees.specs.Objects.{catalog_tree}
use Rattle.keeper_core.specs.declared.stored.Stored.TheVariants.{Current}
use Rattle.sql_keeper.specs.Rows.{contents, is_named, lists_table, stored, stored_as}
use Rattle.keeper_core.specs.EitherSchema.{log_of}
use Rattle.sql_keeper.specs.inside.Schemas.{schema_of}
use Rattle.sql_keeper.specs.inside.Calls.{log_at}
use Rattle.sql_keeper.specs.inside.Databases.{IsKeeperDatabase, IsStoreDatabase}

-- the rows of the catalog have the names of the tables
same_names : (name : List ℕ) (rows : List Row) (tables : List Table) → AllZip IsTableRow rows tables → list_any (is_named name) rows ≡ list_any (λ t. bytes_eq t.name name) tables
same_names name [] [] all = refl
same_names name [] (t ∷ tables) all = absurd all
same_names name (r ∷ rows) [] all = absurd all
same_names name (r ∷ rows) (t ∷ tables) all =
    ap (λ v. bytes_eq (bytes v) name || list_any (is_named name) rows) all.0.described.name_is ∙ ap (λ b. bytes_eq t.name name || b) (same_names name rows tables all.1)

has_cache : (is_old : Bool) → list_any (λ t. bytes_eq t.name (codes "cache")) (schema_of is_old).tables ≡ is_old
has_cache true = refl
has_cache false = refl

-- a store lists the table `cache` just if it is of the first schema
pub lists_cache : (is_old : Bool) (db : Database) → IsStoreDatabase is_old db → lists_table (codes "cache") db.trees ≡ is_old
lists_cache is_old db store =
    let rows = filter is_table_row (db.trees catalog_tree) in
    let zipped : AllZip IsTableRow rows (schema_of is_old).tables = subst (λ (s : Schema). AllZip IsTableRow rows s.tables) store.schema store.sound.lists.listed.tables in
    same_names (codes "cache") rows (schema_of is_old).tables zipped ∙ has_cache is_old

pub stored_is : (is_old : Bool) (db : Database) → IsStoreDatabase is_old db → stored db.trees ≡ stored_as is_old db.trees
stored_is is_old db store = ap (λ b. stored_as b db.trees) (lists_cache is_old db store)

pub stored_current : (db : Database) → IsKeeperDatabase db → stored db.trees ≡ Current (contents db.trees)
stored_current db store = stored_is false db store

-- both have the same logs
pub log_either : (is_old : Bool) (db : Trees) (job : ℕ) → log_at job (contents db) ≡ log_of (stored_as is_old db) job
log_either true db job = refl
log_either false db job = refl
