-- Which worker has a hint in a pool.
use Rattle.std.specs.Prelude.{ℕ, List}
use Rattle.std.specs.declared.cmp.Ordering.{Ordering}
use Rattle.std.specs.Ordering.{nat_cmp, on, then_cmp}
use Rattle.std.specs.Cmp.{IsTotalOrder, on_total, then_total, nat_cmp_total}
use Rattle.std.specs.Cmp.Lexicographic.{slice_cmp, nat_list_cmp_total}
use Rattle.std.specs.FinMap.{FinMap}
use Rattle.fair_pool.specs.declared.ticket.HintWorker.{HintWorker}

-- a hint in a pool
pub record HintKey : Type 0 where
  pub pool : ℕ
  pub hint : List ℕ

-- a hint in its pool
abbrev pub hint_key : HintWorker → HintKey
hint_key h = record { pool = h.pool; hint = h.hint }

-- a hint in its pool, with its worker
abbrev pub hint_entry : HintWorker → HintKey × ℕ
hint_entry h = (hint_key h, h.worker)

-- by the pool, then by the hint's bytes
abbrev pub hint_key_cmp : HintKey → HintKey → Ordering
hint_key_cmp = then_cmp (on (λ k. k.pool) nat_cmp) (on (λ k. k.hint) (slice_cmp nat_cmp))

-- the order is total
pub hint_key_total : IsTotalOrder hint_key_cmp
hint_key_total = then_total (on_total (λ k. k.pool) nat_cmp_total) (on_total (λ k. k.hint) nat_list_cmp_total)

-- the worker of each hint in each pool
abbrev pub HintWorkers : Type 0
HintWorkers = FinMap hint_key_cmp ℕ
