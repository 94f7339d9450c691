use Rattle.sched_rows.specs.Ends.{end_cmp}
use Rattle.sched_rows.proofs.KeyOrders.{end_cmp_tells, end_cmp_total}
use Rattle.sched_rows.proofs.SortedEntries.{searched}
use Rattle.sched_rows.proofs.expiry_index.search.Goals as goal

pub returns : goal.returns
returns c = searched end_cmp end_cmp_total (λ e. e) (λ _. tt) end_cmp_tells c.args.end.now c.args.ends.now c.binary_search.result c.requires c.binary_search.ensures.bound c.binary_search.ensures.position
