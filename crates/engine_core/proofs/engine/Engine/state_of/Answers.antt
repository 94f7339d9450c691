use Rattle.std.proofs.Common.{◌≡◌, ◌<◌, List, length, ap, sym, ◌∙◌, subst}
use Rattle.std.specs.Prelude.{slice_get}
use Rattle.value_core.specs.declared.state.State.{State}
use Rattle.core_rules.specs.Core.{CoreState}
use Rattle.core_rules.specs.Entries.{states as states_in, world}
use Rattle.visit_rules.specs.Visits.{states}
use Rattle.visit_rules.specs.declared.visit.Visit.{Visit}
use Rattle.engine_core.specs.State.{EngineState}
use Rattle.engine_core.specs.inside.Keeping.{core_in}
use Rattle.visit_rules.proofs.AllNodes.{each_node}
use Rattle.engine_core.proofs.Trees.{states_of}
use Rattle.engine_core.proofs.engine.Engine.state_of.Goals as goal

pub state_of-requires : goal.state_of-requires
state_of-requires c =
    let s : CoreState = core_in c.self.inside in
    let many : length c.self.inside.evaluation ≡ length c.args.self.now.core.program.nodes =
    ap (λ (vs : List Visit). length vs) c.self.invariant.trees ∙ each_node s.program s.inputs (world s) ∙ ap (λ (e : EngineState). length e.core.program.nodes) c.self.view_is in
    subst (λ n. c.args.node < n) (sym many) c.requires

pub returns : goal.returns
returns c =
    sym (ap (λ (vs : List Visit). slice_get (states vs) c.args.node) c.self.invariant.trees
    ∙ ap (λ (ss : List State). slice_get ss c.args.node) (states_of (core_in c.self.inside))
    ∙ ap (λ (e : EngineState). slice_get (states_in e.core) c.args.node) c.self.view_is)
    ∙ c.state_of.ensures
