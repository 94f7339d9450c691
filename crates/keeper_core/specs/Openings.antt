-- What a session asks of what it opens with, beside what the core asks.
use Rattle.std.specs.Prelude.{◌≡◌, ◌≤◌, T, true, length}
use Rattle.std.specs.FinMap.{entries, is_sorted}
use Rattle.std.specs.List.{AllByRecursion}
use Rattle.value_core.specs.declared.value.Value.{Value, out-Value}
use Rattle.value_core.specs.Orders.{bytes_cmp}
use Rattle.value_core.specs.Values.{weight_of}
use Rattle.term_core.specs.Limits.{is_input_layer}
use Rattle.sched_rows.specs.declared.row.Row.{Row}
use Rattle.sched_rows.specs.RowKeys.{RowKey}
use Rattle.core_rules.specs.Openings.{Durable, IsOpenable}

-- a text, a number or a list of texts within the limits, and within that of weight
pub record IsLiteralValue (v : Value) : Type 0 where
  pub within : is_input_layer (out-Value v) ≡ true
  pub light : weight_of v ≤ 1048576

-- a row whose texts have at most 65,536 bytes
pub record IsRowShort (e : RowKey × Row) : Type 0 where
  pub key : length e.1.key ≤ 65536
  pub value : length e.1.value ≤ 65536
  pub result : length e.1.result ≤ 65536

-- what the core asks, at most one value of a name, and values and texts within their limits
pub record IsOpenableWithin (d : Durable) : Type 0 where
  pub openable : IsOpenable d
  pub names : T (is_sorted bytes_cmp d.inputs)
  pub values : AllByRecursion (λ e. IsLiteralValue e.1) d.inputs
  pub rows : AllByRecursion IsRowShort (entries d.rows)
