use Rattle.std.proofs.Common.{◌≡◌, ℕ, List, None, length, refl, ap, sym, ◌∙◌, subst}
use Rattle.value_core.specs.declared.state.Triple.{Triple}
use Rattle.term_core.specs.Counts.{in_order}
use Rattle.core_rules.specs.Settling.{settle_for}
use Rattle.job_core.specs.Wants.{AreWants, triples_in}
use Rattle.engine_rules.specs.Conflicts.{counted}
use Rattle.visit_rules.specs.Visits.{all_wants}
use Rattle.engine_core.specs.inside.Opening.{bare_of}
use Rattle.engine_core.proofs.Opened.{unopened_by}
use Rattle.engine_core.proofs.WantedCounts.{are_wants, triples_counted}
use Rattle.engine_core.proofs.engine.opening.settled.Goals as goal

pub settle-requires-clause-wants : goal.settle-requires-clause-wants
settle-requires-clause-wants c =
    let n = length c.args.parts.jobs.work.program.ops in
    let ws = all_wants c.args.evaluation.now in
    let same : c.as_slice.result.now ≡ counted ws = c.as_slice.ensures ∙ c.in_ok-wants.ensures in
    subst (λ (cs : List (Triple × ℕ)). AreWants n cs) (sym same) (are_wants n ws c.requires.declared)

pub returns-in-Ok-clause-settled : goal.returns-in-Ok-clause-settled
returns-in-Ok-clause-settled c =
    let ws = all_wants c.args.evaluation.now in
    let wants : triples_in c.as_slice.result.now ≡ in_order ws = ap triples_in (c.as_slice.ensures ∙ c.in_ok-wants.ensures) ∙ triples_counted ws in
    record {
      inputs = refl;
      rows = refl;
      moment = refl;
      settled = (λ j. settle_for (sym wants j) (bare_of c.args.parts)) ∙ c.in-Ok.ensures.settled.settled;
    }

pub returns-clause-unsettled : goal.returns-clause-unsettled
returns-clause-unsettled c =
    let ws = all_wants c.args.evaluation.now in
    let wants : triples_in c.as_slice.result.now ≡ in_order ws = ap triples_in (c.as_slice.ensures ∙ c.in_ok-wants.ensures) ∙ triples_counted ws in
    unopened_by c.in-Err.fault c.reason.result (settle_for (in_order ws) (bare_of c.args.parts) ≡ None) c.reason.ensures
    (λ u. (λ j. settle_for (sym wants j) (bare_of c.args.parts)) ∙ c.in-Err.ensures.used u)
