-- The indexes that the engine makes.
use Rattle.std.specs.Prelude.{ℕ, true, List}
use Rattle.sqlite_schema.specs.declared.schema.Index.{Index}
use Rattle.sqlite_value.specs.Keys.{plain}

-- the index of the only key of a table
abbrev pub index_of : List ℕ → ℕ → ℕ → List ℕ → Index
index_of name table tree places = record { name = name; tree = tree; table = table; columns = places; order = plain; is_unique = true }
