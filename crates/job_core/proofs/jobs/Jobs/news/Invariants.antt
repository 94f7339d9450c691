use Rattle.std.proofs.Common.{◌≡◌, ◌++◌, drop, filter}
use Rattle.std.specs.Prelude.{slice_get}
use Rattle.std.specs.List.{AllByRecursion}
use Rattle.core_rules.specs.Parts.{core_of}
use Rattle.job_core.specs.Plans.{triples_of}
use Rattle.core_rules.specs.Own.{rows_made}
use Rattle.job_core.specs.Walks.{IsWalked}
use Rattle.job_core.specs.Wants.{HasHint, fresh_of, is_fresh, triples_in}
use Rattle.job_core.proofs.jobs.Jobs.news.Given as goal

abbrev pub invariant-loop-index : goal.invariant-loop-index
invariant-loop-index l =
    let s = core_of (record l.self.work { jobs = l.live.jobs }) (rows_made l.rows.change.now l.rows.rows.now.rows) l.rows.moment in
    record {
      live : l.walk.live.now ≡ l.live;
      walked : IsWalked l.live.jobs l.walk.passed (slice_get (triples_in l.wants) l.index);
      triples : triples_of l.news ++ filter (is_fresh (triples_in l.wants) s) (drop l.index (triples_in l.wants)) ≡ fresh_of (triples_in l.wants) s;
      hints : AllByRecursion (HasHint l.self.work.program.ops) l.news;
    }
