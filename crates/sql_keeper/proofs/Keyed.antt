-- The rowids of each table of a sound store rise.
use Rattle.std.proofs.Common.{◌≡◌, sym, subst}
use Rattle.sqlite.specs.Tree.{Trees}
use Rattle.sqlite.specs.Table.{Table}
use Rattle.sqlite_trees.specs.View.{View, IsShaped, IsOrdered}
use Rattle.sqlite_trees.specs.Objects.{catalog_tree, IsListed}
use Rattle.sqlite_trees.specs.declared.store.Shape.TheVariants as shape
use Rattle.sqlite.specs.Effect.{Database, IsDatabase}
use Rattle.sqlite_catalog.specs.Listing.{AreListed}
use Rattle.sqlite_catalog.proofs.LayoutLemmas.{laid_out, objects_rise}
use Rattle.sqlite_rules.proofs.ListLemmas.{all_has}
use Rattle.sql_keeper.specs.inside.Databases.{IsKeyed, AreKeyed}

pub keyed_from : (v : View) (db : Database) → IsOrdered v.shape v.trees → IsListed (v.trees catalog_tree) v.shape v.reals → db.trees ≡ v.trees → IsDatabase db → AreKeyed db
keyed_from v db ordered listed same sound t h =
    let are : AreListed (v.trees catalog_tree) db.schema = subst (λ (trees : Trees). AreListed (trees catalog_tree) db.schema) same sound.lists.listed in
    let laid = laid_out listed (objects_rise v listed ordered) are in
    let is : v.shape t.tree ≡ shape.Table = all_has (λ (t : Table). v.shape t.tree ≡ shape.Table) db.schema.tables t laid.tables h in
    let rows : IsShaped shape.Table (v.trees t.tree) = subst (λ s. IsShaped s (v.trees t.tree)) is (ordered t.tree) in
    subst (λ (trees : Trees). IsKeyed (trees t.tree)) (sym same) (record { rises = rows.0; ints = rows.1 })
