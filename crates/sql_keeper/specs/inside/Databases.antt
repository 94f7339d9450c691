-- A database that has the tables, and what its rows keep between statements.
use Rattle.std.specs.Prelude.{◌≡◌, Bool, List, IsTrue}
use Rattle.std.specs.List.{AllByRecursion}
use Rattle.sqlite.specs.Order.{Row}
use Rattle.sqlite.specs.Tree.{rowid, IsTable}
use Rattle.sqlite.specs.View.{is_int}
use Rattle.sqlite.specs.Table.{Table}
use Rattle.sqlite.specs.Schema.{Schema}
use Rattle.sqlite.specs.Effect.{Database, IsDatabase}
use Rattle.sqlite_rules.specs.Lists.{Has}
use Rattle.sql_keeper.specs.inside.Schemas.{keeper_schema, schema_of}

-- the rowids rise, and each is an integer
pub record IsKeyed (rows : List Row) : Type 0 where
  pub rises : IsTable rows
  pub ints : AllByRecursion (λ r. IsTrue (is_int (rowid r))) rows

-- a sound database of four tables, whose rowids rise
pub record HasTables (tables : Schema) (db : Database) : Type 0 where
  pub schema : db.schema ≡ tables
  pub sound : IsDatabase db
  pub meta : IsKeyed (db.trees 0)
  pub inputs : IsKeyed (db.trees 1)
  pub cache : IsKeyed (db.trees 3)
  pub logs : IsKeyed (db.trees 5)

-- of the tables of the second schema
abbrev pub IsKeeperDatabase : Database → Type 0
IsKeeperDatabase = HasTables keeper_schema

-- of those of the first or of the second
abbrev pub IsStoreDatabase : Bool → Database → Type 0
IsStoreDatabase is_old = HasTables (schema_of is_old)

-- the rowids of each table rise
abbrev pub AreKeyed : Database → Type 0
AreKeyed db = (t : Table) → Has db.schema.tables t → IsKeyed (db.trees t.tree)
