-- What a row stands under: the name of its operation and its key.
use Rattle.std.specs.Prelude.{ℕ, List}
use Rattle.std.specs.declared.cmp.Ordering.{Ordering}
use Rattle.std.specs.Cmp.{IsTotalOrder, on_total, then_total}
use Rattle.std.specs.Cmp.Lexicographic.{nat_list_cmp_total}
use Rattle.std.specs.Ordering.{on, then_cmp}
use Rattle.value_core.specs.Orders.{bytes_cmp}
use Rattle.sched_rows.specs.declared.row.Row.{Row}

-- an operation's name and a key
pub record RowKey : Type 0 where
  pub op : List ℕ
  pub key : List ℕ

-- the key of these two texts
abbrev pub row_key : List ℕ → List ℕ → RowKey
row_key op key = record { op = op; key = key }

-- by the operation's name, then by the key
abbrev pub row_key_cmp : RowKey → RowKey → Ordering
row_key_cmp = then_cmp (on (λ k. k.op) bytes_cmp) (on (λ k. k.key) bytes_cmp)

-- which is a total order
pub row_key_cmp_total : IsTotalOrder row_key_cmp
row_key_cmp_total = then_total (on_total (λ k. k.op) nat_list_cmp_total) (on_total (λ k. k.key) nat_list_cmp_total)

-- what a row stands under
abbrev pub key_of : Row → RowKey
key_of row = row_key row.op row.key
