use Rattle.std.proofs.Common.{[], refl, ap, ◌∙◌}
use Rattle.engine_rules.specs.Conflicts.{triples_of}
use Rattle.visit_rules.specs.Visits.{all_wants}
use Rattle.engine_core.proofs.WantedCounts.{triples_counted}
use Rattle.engine_core.proofs.engine.opening.first_reply.Goals as goal

pub returns : goal.returns
returns c =
    let wants = all_wants c.args.evaluation.now in
    record {
      changed = c.in_ok-changed.ensures;
      conflicts = c.in_ok-conflicts.ensures [] wants refl (ap triples_of (c.as_slice.ensures ∙ c.in_ok-wants.ensures) ∙ triples_counted wants);
    }
