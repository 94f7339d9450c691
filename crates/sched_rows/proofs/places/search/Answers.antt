use Rattle.std.proofs.Common.{of_calls, rules}
use Rattle.std.proofs.lemmas.Fn.{always_returns_same}
use Rattle.sched_rows.specs.Holding.{held_key}
use Rattle.sched_rows.specs.RowKeys.{row_key, row_key_cmp, row_key_cmp_total}
use Rattle.sched_rows.proofs.KeyOrders.{row_key_cmp_tells}
use Rattle.sched_rows.proofs.SortedEntries.{searched}
use Rattle.sched_rows.proofs.places.search.Goals as goal

pub returns : goal.returns
returns c =
    searched row_key_cmp row_key_cmp_total held_key (λ h. h.row) row_key_cmp_tells (row_key c.args.op.now c.args.key.now) c.args.held.now c.binary_search_by.result c.requires c.binary_search_by.ensures.bound
    (c.binary_search_by.ensures.position (λ h. row_key_cmp (held_key h) (row_key c.args.op.now c.args.key.now)) (always_returns_same _ _ _ (λ a r f k. search (rules, of_calls))))
