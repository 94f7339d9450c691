-- The making of the tables.
use Rattle.std.specs.Prelude.{◌≡◌, [], IsTrue}
use Rattle.std.specs.List.{AllByRecursion}
use Rattle.sqlite.specs.Change.{created}
use Rattle.sqlite.specs.Effect.{IsDatabase}
use Rattle.sqlite.specs.Schema.{Schema}
use Rattle.sqlite.specs.State.{State}
use Rattle.keeper_core.specs.Contents.{fresh}
use Rattle.sql_keeper.specs.Rows.{contents}
use Rattle.sql_keeper.specs.inside.Schemas.{cache, inputs, meta, no_schema}
use Rattle.sql_keeper.specs.inside.Databases.{IsKeeperDatabase}

-- the schema after the first text
abbrev pub meta_schema : Schema
meta_schema = created no_schema meta

-- after the first two
abbrev pub inputs_schema : Schema
inputs_schema = created meta_schema inputs

-- after the first three
abbrev pub cache_schema : Schema
cache_schema = created inputs_schema cache

-- an open connection over a sound database that has no table
pub record IsBlank (s : State) : Type 0 where
  pub is_open : IsTrue s.is_open
  pub schema : s.now.schema ≡ no_schema
  pub sound : IsDatabase s.now

-- an open connection in a transaction, whose tables are these and empty
pub record IsMaking (made : Schema) (s : State) : Type 0 where
  pub is_open : IsTrue s.is_open
  pub schema : s.now.schema ≡ made
  pub sound : IsDatabase s.now
  pub empty : AllByRecursion (λ t. s.now.trees t.tree ≡ []) made.tables
  pub inside : IsTrue s.in_transaction

-- a step makes a table
pub record MakesTable (schema : Schema) (old new : State) : Type 0 where
  pub making : IsMaking schema new
  pub kept : new.committed ≡ old.committed

-- the contents are fresh
pub record MakesFresh (old new : State) : Type 0 where
  pub is_open : IsTrue new.is_open
  pub database : IsKeeperDatabase new.now
  pub contents : contents new.now.trees ≡ fresh
  pub inside : IsTrue new.in_transaction
  pub kept : new.committed ≡ old.committed

-- fresh contents are committed
pub record HasMade (s : State) : Type 0 where
  pub is_open : IsTrue s.is_open
  pub database : IsKeeperDatabase s.now
  pub contents : contents s.now.trees ≡ fresh
  pub committed : s.committed ≡ s.now
