-- The tables as the engine knows them, and the texts of the statements.
use Rattle.sqlite.specs.Collation.TheVariants.{Binary}
use Rattle.std.specs.Prelude.{◌≡◌, Bool, true, false, [], ◌∷◌, Some, None, codes, List, ℕ, pos}
use Rattle.sqlite.specs.declared.types.Value.TheVariants.{Null, Int}
use Rattle.sqlite.specs.Change.{created}
use Rattle.sqlite.specs.Term.{Term, lit, col, op2}
use Rattle.sqlite_sql.specs.declared.ops.BinaryOp.TheVariants.{Compare}
use Rattle.sqlite_sql.specs.declared.ops.CompareOp.TheVariants.{Eq}
use Rattle.sqlite_schema.specs.declared.schema.Column.{Column}
use Rattle.sqlite_value.specs.Keys.{plain}
use Rattle.sqlite_schema.specs.declared.schema.Kind.{Kind}
use Rattle.sqlite.specs.Table.{Table}
use Rattle.sqlite.specs.Schema.{Schema}
use Rattle.sqlite.specs.Kind.TheVariants.{Integer, Text, Blob}

-- ---- schemas

-- no table
abbrev pub no_schema : Schema
no_schema = record { tables = []; indexes = []; views = [] }

-- a STRICT column that is NOT NULL
abbrev pub column_of : List ℕ → Kind → Column
column_of name kind = record { name = name; kind = kind; is_strict = true; not_null = true; default = Null; collation = Binary }

-- the term `id = 1` over a row of numbers
abbrev pub id_is_one : Term
id_is_one = op2 (Compare Eq Binary) (col 1 0) (lit (Int (pos 1)))

-- the table of numbers
abbrev pub meta : Table
meta = record {
  name = codes "meta";
  tree = 0;
  columns = column_of (codes "id") Integer ∷ column_of (codes "format") Integer ∷ column_of (codes "next_job") Integer ∷ [];
  key = Some 0;
  primary = 0 ∷ [];
  uniques = [];
  orders = [];
  checks = id_is_one ∷ [];
  references = [];
  computed = [];
  stamps = record { places = []; terms = []; formats = [] };
  is_counted = false;
}

-- the table of inputs
abbrev pub inputs : Table
inputs = record {
  name = codes "inputs";
  tree = 0;
  columns = column_of (codes "name") Text ∷ column_of (codes "literal") Text ∷ [];
  key = None;
  primary = 1 ∷ [];
  uniques = (1 ∷ []) ∷ [];
  orders = plain ∷ [];
  checks = [];
  references = [];
  computed = [];
  stamps = record { places = []; terms = []; formats = [] };
  is_counted = false;
}

-- the last columns of a result
abbrev pub number_columns : List Column
number_columns = column_of (codes "finished") Integer ∷ column_of (codes "job") Integer ∷ column_of (codes "rebuild") Integer ∷ []

-- the columns of a result that are not in its key
abbrev pub value_columns : List Column
value_columns = column_of (codes "cvalue") Text ∷ column_of (codes "fine") Integer ∷ column_of (codes "result") Text ∷ number_columns

-- the table of results
abbrev pub cache : Table
cache = record {
  name = codes "cache2";
  tree = 0;
  columns = column_of (codes "op") Text ∷ column_of (codes "khash") Blob ∷ column_of (codes "ckey") Text ∷ value_columns;
  key = None;
  primary = 1 ∷ 2 ∷ 3 ∷ [];
  uniques = (1 ∷ 2 ∷ 3 ∷ []) ∷ [];
  orders = plain ∷ [];
  checks = [];
  references = [];
  computed = [];
  stamps = record { places = []; terms = []; formats = [] };
  is_counted = false;
}

-- the table of results of the first schema
abbrev pub old_cache : Table
old_cache = record {
  name = codes "cache";
  tree = 0;
  columns = column_of (codes "op") Text ∷ column_of (codes "ckey") Text ∷ value_columns;
  key = None;
  primary = 1 ∷ 2 ∷ [];
  uniques = (1 ∷ 2 ∷ []) ∷ [];
  orders = plain ∷ [];
  checks = [];
  references = [];
  computed = [];
  stamps = record { places = []; terms = []; formats = [] };
  is_counted = false;
}

-- the table of outputs
abbrev pub logs : Table
logs = record {
  name = codes "logs";
  tree = 0;
  columns = column_of (codes "job") Integer ∷ column_of (codes "output") Blob ∷ [];
  key = Some 0;
  primary = 0 ∷ [];
  uniques = [];
  orders = [];
  checks = [];
  references = [];
  computed = [];
  stamps = record { places = []; terms = []; formats = [] };
  is_counted = false;
}

-- the four tables, in trees 0, 1, 3 and 5, with the indexes in 2 and 4
abbrev pub keeper_schema : Schema
keeper_schema = created (created (created (created no_schema meta) inputs) cache) logs

-- the four tables of the first schema, in the same trees
abbrev pub old_schema : Schema
old_schema = created (created (created (created no_schema meta) inputs) old_cache) logs

-- the schema of a store, which is of the first or of the second
abbrev pub schema_of : Bool → Schema
schema_of true = old_schema
schema_of false = keeper_schema

-- the table of numbers in its tree
abbrev pub the_meta : Table
the_meta = record meta { tree = 0 }

-- the table of inputs in its tree
abbrev pub the_inputs : Table
the_inputs = record inputs { tree = 1 }

-- the table of results in its tree
abbrev pub the_cache : Table
the_cache = record cache { tree = 3 }

-- the table of results of the first schema in its tree
abbrev pub the_old_cache : Table
the_old_cache = record old_cache { tree = 3 }

-- the table of outputs in its tree
abbrev pub the_logs : Table
the_logs = record logs { tree = 5 }

-- nothing more is asked of a row than by its columns, its keys and its checks
pub record IsSimple (t : Table) : Type 0 where
  pub references : t.references ≡ []
  pub computed : t.computed ≡ []
  pub stamps : t.stamps ≡ the_meta.stamps
  pub counted : t.is_counted ≡ false

-- ---- the texts that make the tables

-- the one row of numbers
abbrev pub meta_text : List ℕ
meta_text = codes "CREATE TABLE meta (id INTEGER NOT NULL PRIMARY KEY CHECK (id = 1), format INTEGER NOT NULL, next_job INTEGER NOT NULL) STRICT"

-- the literals of inputs
abbrev pub inputs_text : List ℕ
inputs_text = codes "CREATE TABLE inputs (name TEXT NOT NULL PRIMARY KEY, literal TEXT NOT NULL) STRICT"

-- the results
abbrev pub cache_text : List ℕ
cache_text = codes "CREATE TABLE cache2 (op TEXT NOT NULL, khash BLOB NOT NULL, ckey TEXT NOT NULL, cvalue TEXT NOT NULL, fine INTEGER NOT NULL, result TEXT NOT NULL, finished INTEGER NOT NULL, job INTEGER NOT NULL, rebuild INTEGER NOT NULL, PRIMARY KEY (op, khash, ckey)) STRICT"

-- the outputs of jobs
abbrev pub logs_text : List ℕ
logs_text = codes "CREATE TABLE logs (job INTEGER NOT NULL PRIMARY KEY, output BLOB NOT NULL) STRICT"

-- the first row of numbers
abbrev pub meta_insert : List ℕ
meta_insert = codes "INSERT INTO meta VALUES (1, 2, 1)"

-- ---- the texts of a commit

-- another next number
abbrev pub meta_update : List ℕ
meta_update = codes "UPDATE meta SET next_job = ?1 WHERE id = 1"

-- an input, in place of the one of its name
abbrev pub input_replace : List ℕ
input_replace = codes "INSERT OR REPLACE INTO inputs VALUES (?1, ?2)"

-- without the result of a key
abbrev pub cache_delete : List ℕ
cache_delete = codes "DELETE FROM cache2 WHERE op = ?1 AND khash = ?2 AND ckey = ?3"

-- a result, in place of the one of its key
abbrev pub cache_replace : List ℕ
cache_replace = codes "INSERT OR REPLACE INTO cache2 VALUES (?1, ?2, ?3, ?4, ?5, ?6, ?7, ?8, ?9)"

-- an output more
abbrev pub log_insert : List ℕ
log_insert = codes "INSERT INTO logs VALUES (?1, ?2)"

-- ---- the texts of a load

-- the rows of numbers
abbrev pub meta_select : List ℕ
meta_select = codes "SELECT id, format, next_job FROM meta"

-- the inputs by name
abbrev pub input_select : List ℕ
input_select = codes "SELECT name, literal FROM inputs ORDER BY name"

-- the results by operation and key
abbrev pub cache_select : List ℕ
cache_select = codes "SELECT op, khash, ckey, cvalue, fine, result, finished, job, rebuild FROM cache2 ORDER BY op, ckey, khash"

-- the results of the first schema by operation and key
abbrev pub old_cache_select : List ℕ
old_cache_select = codes "SELECT op, ckey, cvalue, fine, result, finished, job, rebuild FROM cache ORDER BY op, ckey"

-- the outputs by job
abbrev pub logs_select : List ℕ
logs_select = codes "SELECT job, output FROM logs ORDER BY job"

-- the jobs that have an output
abbrev pub jobs_select : List ℕ
jobs_select = codes "SELECT job FROM logs ORDER BY job"

-- the output of a job
abbrev pub log_select : List ℕ
log_select = codes "SELECT output FROM logs WHERE job = ?1"
