use Rattle.std.proofs.Common.{◌≡◌, ℕ, ◌<◌, List, length, Some, None, ap, sym, ◌∙◌, subst}
use Rattle.std.specs.List.{AllByRecursion}
use Rattle.value_core.specs.declared.state.Triple.{Triple}
use Rattle.term_core.specs.Counts.{in_order}
use Rattle.core_rules.specs.Core.{CoreState}
use Rattle.core_rules.specs.Own.{own_change, rows_made, tried_marks}
use Rattle.core_rules.specs.Parts.{Work, core_of}
use Rattle.core_rules.specs.Replies.{with_numbers}
use Rattle.core_rules.specs.Settling.{newly_marked, settle_for}
use Rattle.job_core.specs.Plans.{planned}
use Rattle.job_core.specs.Rowing.{changed_core}
use Rattle.job_core.specs.State.{core_at}
use Rattle.job_core.specs.Wants.{AreWants, triples_in}
use Rattle.engine_rules.specs.Conflicts.{counted, triples_of}
use Rattle.engine_rules.specs.declared.edits.Edit.{Edit}
use Rattle.visit_rules.specs.Visits.{all_wants}
use Rattle.engine_core.specs.State.{EngineState}
use Rattle.engine_core.specs.inside.Keeping.{core_in}
use Rattle.engine_core.specs.inside.Planning.{unsettled}
use Rattle.engine_core.proofs.WantedCounts.{are_wants, triples_counted, unsettled_by}
use Rattle.engine_core.proofs.engine.Engine.settle.Goals as goal

pub plan-planned-requires-clause-wants : goal.plan-planned-requires-clause-wants
plan-planned-requires-clause-wants c =
    let i = c.self.inside in
    let ws : List Triple = all_wants c.args.plan.now.trees in
    let is : core_in i ≡ c.args.self.now.core = ap (λ (e : EngineState). e.core) c.self.view_is in
    let same : c.as_slice-2.result.now ≡ counted ws = c.as_slice-2.ensures ∙ c.in_ok-wants.ensures in
    subst (λ (cs : List (Triple × ℕ)). AreWants (length i.jobs.work.program.ops) cs) (sym same)
    (are_wants (length i.jobs.work.program.ops) ws (subst (λ (x : CoreState). AllByRecursion (λ (t : Triple). t.op < length x.program.ops) (in_order ws)) (sym is) c.requires.declared))

pub returns-in-Ok-clause-settled : goal.returns-in-Ok-clause-settled
returns-in-Ok-clause-settled c =
    let i = c.self.inside in
    let d : Edit = c.args.edit.now in
    let ws : List Triple = all_wants c.args.plan.now.trees in
    let wants : triples_in c.as_slice-2.result.now ≡ in_order ws = ap triples_in (c.as_slice-2.ensures ∙ c.in_ok-wants.ensures) ∙ triples_counted ws in
    let jobs : c.plan-planned.new.self.work ≡ i.jobs.work = c.in-Ok.ensures.jobs in
    record {
      settled =
          (λ j. settle_for (sym wants j) (changed_core d.own d.row (jobs j) i.rows.rows c.args.moment))
          ∙ c.in-Ok.ensures.plan.settled
          ∙ (λ j. Some (core_of (planned c.in-Ok.jobs (sym jobs j)) (rows_made d.row i.rows.rows) c.args.moment));
      signals =
          c.in-Ok.ensures.plan.signals
          ∙ (λ j. with_numbers (tried_marks (own_change (core_at (sym jobs j) c.args.moment) d.own)) (newly_marked (wants j) (changed_core d.own d.row (sym jobs j) i.rows.rows c.args.moment)));
      next = c.in-Ok.ensures.plan.next ∙ ap (λ (w : Work). (planned c.in-Ok.jobs w).next) (sym jobs);
      fits = c.in-Ok.ensures.fits;
      changed = c.in_ok-changed.ensures;
      conflicts = λ vs e. c.in_ok-conflicts.ensures vs ws e (ap triples_of (c.as_slice.ensures ∙ c.in_ok-wants.ensures) ∙ triples_counted ws);
    }

pub returns-clause-unsettled : goal.returns-clause-unsettled
returns-clause-unsettled c =
    let i = c.self.inside in
    let d : Edit = c.args.edit.now in
    let ws : List Triple = all_wants c.args.plan.now.trees in
    let is : core_in i ≡ c.args.self.now.core = ap (λ (e : EngineState). e.core) c.self.view_is in
    let wants : triples_in c.as_slice-2.result.now ≡ in_order ws = ap triples_in (c.as_slice-2.ensures ∙ c.in_ok-wants.ensures) ∙ triples_counted ws in
    unsettled_by c.in-Err.fault c.reason.result (settle_for (in_order ws) (unsettled c.args.self.now.core c.args.moment d) ≡ None) c.reason.ensures
    (λ u. (λ j. settle_for (sym wants j) (unsettled (sym is j) c.args.moment d)) ∙ c.in-Err.ensures.used u)
