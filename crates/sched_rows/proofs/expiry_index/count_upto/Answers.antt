use Rattle.std.proofs.Common.{leb, leb-true, leb-false, of_calls, rules}
use Rattle.std.proofs.lemmas.Fn.{always_returns_same}
use Rattle.std.proofs.lemmas.List.Sorted.{IsPartitionedBy-leb}
use Rattle.sched_rows.proofs.EndSets.{times_rise}
use Rattle.sched_rows.proofs.expiry_index.count_upto.Goals as goal

pub returns-clause-point : goal.returns-clause-point
returns-clause-point c =
    let point = c.partition_point.ensures.partitioned (λ e. leb e.time c.args.time) (always_returns_same _ _ _ (λ a r f k. search (rules, of_calls)))
    (IsPartitionedBy-leb (λ e. e.time) c.args.ends.now c.args.time (times_rise c.args.ends.now c.requires)) in (
      λ k d low less. leb-true _ _ (point.0 k d low less),
      λ k d low less. leb-false _ _ (point.1 k d low less),
    )
