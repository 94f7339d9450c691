use Rattle.std.proofs.Common.{List, ap, ◌∙◌}
use Rattle.value_core.specs.declared.state.Triple.{Triple}
use Rattle.term_core.specs.Counts.{count_of}
use Rattle.core_rules.specs.Entries.{refs}
use Rattle.visit_rules.specs.Visits.{all_wants}
use Rattle.visit_rules.specs.declared.visit.Visit.{Visit}
use Rattle.engine_core.specs.State.{EngineState}
use Rattle.engine_core.specs.inside.Keeping.{core_in}
use Rattle.engine_core.proofs.Trees.{wants_of}
use Rattle.engine_core.proofs.engine.Engine.refs_of.Goals as goal

pub returns : goal.returns
returns c =
    c.refs_of.ensures
    ∙ ap (λ (vs : List Visit). count_of (all_wants vs) c.args.triple.now) c.self.invariant.trees
    ∙ ap (λ (ws : List Triple). count_of ws c.args.triple.now) (wants_of (core_in c.self.inside))
    ∙ ap (λ (e : EngineState). refs e.core c.args.triple.now) c.self.view_is
