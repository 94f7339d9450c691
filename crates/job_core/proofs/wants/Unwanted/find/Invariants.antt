use Rattle.std.proofs.Common.{◌≡◌, ◌++◌, drop}
use Rattle.std.specs.Prelude.{slice_get}
use Rattle.job_core.specs.Keys.{by_keys}
use Rattle.job_core.specs.Wants.{drops_of, lost_of, triples_in}
use Rattle.job_core.proofs.Walks.{IsAhead}
use Rattle.job_core.proofs.wants.Unwanted.find.Given as goal

abbrev pub invariant-loop-rank : goal.invariant-loop-rank
invariant-loop-rank l =
    let ws = triples_in l.wants in
    let ks = by_keys l.live.jobs in
    record {
      wants : l.walk.wants.now ≡ l.wants;
      ahead : IsAhead ws l.walk.passed (slice_get ks l.rank);
      drops : l.unwanted.drops.items ++ drops_of ws (drop l.rank ks) ≡ drops_of ws ks;
      lost : l.unwanted.lost.items ++ lost_of ws l.ops (drop l.rank ks) ≡ lost_of ws l.ops ks;
    }
