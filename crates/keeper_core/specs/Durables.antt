-- What a session opens with, from loaded tables.
use Rattle.std.specs.Prelude.{◌≡◌, ℕ, pos, nat_abs, List, [], ◌∷◌, map, Option, Some, None, Result, Ok, Err}
use Rattle.std.specs.Ordering.{int_eq}
use Rattle.value_core.specs.declared.value.Value.{Value}
use Rattle.value_core.specs.Literals.{literal_read}
use Rattle.sched_rows.specs.declared.row.Row.{Row}
use Rattle.core_rules.specs.Openings.{Durable, rows_in}
use Rattle.keeper_core.specs.declared.reading.TableFault.{TableFault}
use Rattle.keeper_core.specs.declared.reading.TableFault.TheVariants.{BadRow, NoMemory}
use Rattle.keeper_core.specs.declared.tables.CacheRow.{CacheRow}
use Rattle.keeper_core.specs.declared.tables.InputRow.{InputRow}
use Rattle.keeper_core.specs.declared.tables.Tables.{Tables}
use Rattle.keeper_core.specs.WellFormed.{first_bad, next_of}

-- a value under its name, if there is one, and others
abbrev pub with_value : List ℕ → Option Value → List (List ℕ × Value) → List (List ℕ × Value)
with_value name None es = es
with_value name (Some v) es = (name, v) ∷ es

-- the values that the literals spell
abbrev pub values_of : List InputRow → List (List ℕ × Value)
values_of [] = []
values_of (r ∷ rs) = with_value r.name (literal_read r.literal) (values_of rs)

-- the result that a row says
abbrev pub row_of : CacheRow → Row
row_of r = record {
  op = r.op;
  key = r.ckey;
  value = r.cvalue;
  fine = int_eq r.fine (pos 1);
  result = r.result;
  finished = nat_abs r.finished;
  job = nat_abs r.job;
  rebuild = int_eq r.rebuild (pos 1);
}

-- what a session opens with
abbrev pub durable_of : Tables → Durable
durable_of t = record { inputs = values_of t.inputs; rows = rows_in (map row_of t.cache); next = nat_abs (next_of t.meta) }

-- well-formed tables are read whole, else the first row that isn't well formed is named
abbrev pub Reads : Tables → Result Durable TableFault → Type 0
Reads t (Ok d) = (first_bad t ≡ None) × (d ≡ durable_of t)
Reads t (Err (BadRow table n)) = first_bad t ≡ Some (table, n)
Reads t (Err NoMemory) = Unit {0}
