use Rattle.std.proofs.Common.{◌≡◌, ◌+◌, List, length, ap, sym, ◌∙◌, subst}
use Rattle.core_rules.specs.Core.{CoreState}
use Rattle.core_rules.specs.Entries.{world}
use Rattle.engine_rules.specs.Edits.{edited, inputs_made}
use Rattle.engine_rules.specs.declared.edits.Edit.{Edit}
use Rattle.engine_rules.specs.declared.edits.InputChange.{InputChange}
use Rattle.incr_eval.specs.Plans.{PlanView}
use Rattle.visit_rules.specs.Traces.{all_dirty, traces}
use Rattle.visit_rules.specs.declared.visit.Visit.{Visit}
use Rattle.engine_core.specs.Evaluated.{trees_of}
use Rattle.engine_core.specs.Plans.{HasInput, IsPlannedOver}
use Rattle.engine_core.specs.State.{EngineState}
use Rattle.engine_core.specs.inside.Keeping.{core_in}
use Rattle.engine_core.specs.inside.Planning.{IsEvaluated, edited_at, exchanged}
use Rattle.engine_core.proofs.BareParts.{world_bare}
use Rattle.engine_core.proofs.Evaluating.{both_ok, covers_along, then_ok}
use Rattle.engine_core.proofs.Exchanged.{change_back}
use Rattle.engine_core.proofs.engine.Engine.evaluate.Goals as goal

pub plan-plan-requires-clause-covered : goal.plan-plan-requires-clause-covered
plan-plan-requires-clause-covered g c =
    let i = c.self.inside in
    let s : CoreState = c.args.self.now.core in
    let d : Edit = c.args.edit.now in
    let is : core_in i ≡ s = ap (λ (e : EngineState). e.core) c.self.view_is in
    let program : c.program-program.result.now ≡ s.program = c.program-program.ensures.program ∙ c.self.invariant.program ∙ ap (λ (x : CoreState). x.program) is in
    let trees : i.evaluation ≡ trees_of s = c.self.invariant.trees ∙ ap trees_of is in
    let inputs : c.as_slice.result.now ≡ (edited_at s c.args.moment d).inputs =
    c.as_slice.ensures.value ∙ c.exchange.ensures.inputs ∙ ap (λ (x : CoreState). inputs_made d.input x.inputs) is in
    let worlds : world c.of-state.result ≡ world (edited_at s c.args.moment d) =
    ap world c.of-state.ensures
    ∙ (λ j. world (edited (record d { input = c.exchange.new.change }) (c.of-parts.ensures j)))
    ∙ world_bare (record (core_in i) { now = c.args.moment }) d c.exchange.new.change
    ∙ (λ j. world (edited_at (is j) c.args.moment d)) in
    covers_along c.args.changes.now c.program-program.result.now s.program i.evaluation (trees_of s) c.as_slice.result.now (edited_at s c.args.moment d).inputs (world c.of-state.result) (world (edited_at s c.args.moment d))
    (sym program) (sym trees) (sym inputs) (sym worlds) c.requires.covered

pub returns-clause-evaluated : goal.returns-clause-evaluated
returns-clause-evaluated g c =
    let i = c.self.inside in
    let s : CoreState = c.args.self.now.core in
    let d : Edit = c.args.edit.now in
    let is : core_in i ≡ s = ap (λ (e : EngineState). e.core) c.self.view_is in
    let program : c.program-program.result.now ≡ s.program = c.program-program.ensures.program ∙ c.self.invariant.program ∙ ap (λ (x : CoreState). x.program) is in
    let trees : i.evaluation ≡ trees_of s = c.self.invariant.trees ∙ ap trees_of is in
    let inputs : c.as_slice.result.now ≡ (edited_at s c.args.moment d).inputs =
    c.as_slice.ensures.value ∙ c.exchange.ensures.inputs ∙ ap (λ (x : CoreState). inputs_made d.input x.inputs) is in
    let worlds : world c.of-state.result ≡ world (edited_at s c.args.moment d) =
    ap world c.of-state.ensures
    ∙ (λ j. world (edited (record d { input = c.exchange.new.change }) (c.of-parts.ensures j)))
    ∙ world_bare (record (core_in i) { now = c.args.moment }) d c.exchange.new.change
    ∙ (λ j. world (edited_at (is j) c.args.moment d)) in
    let last : traces c.program-program.result.now c.as_slice.result.now (world c.of-state.result) ≡ traces s.program (edited_at s c.args.moment d).inputs (world (edited_at s c.args.moment d)) =
    λ j. traces (program j) (inputs j) (worlds j) in
    both_ok (λ (p : PlanView). p.trees ≡ traces c.program-program.result.now c.as_slice.result.now (world c.of-state.result)) (IsPlannedOver i.evaluation) (IsEvaluated s c.args.moment d) c.plan-plan.result
    (λ p t o. record { trees = t ∙ last; over = subst (λ (vs : List Visit). IsPlannedOver vs p) trees o })
    c.plan-plan.ensures.trees c.plan-plan.ensures.over

pub returns-clause-ticks : goal.returns-clause-ticks
returns-clause-ticks g c =
    let i = c.self.inside in
    let s : CoreState = c.args.self.now.core in
    let d : Edit = c.args.edit.now in
    let is : core_in i ≡ s = ap (λ (e : EngineState). e.core) c.self.view_is in
    let program : c.program-program.result.now ≡ s.program = c.program-program.ensures.program ∙ c.self.invariant.program ∙ ap (λ (x : CoreState). x.program) is in
    let trees : i.evaluation ≡ trees_of s = c.self.invariant.trees ∙ ap trees_of is in
    let inputs : c.as_slice.result.now ≡ (edited_at s c.args.moment d).inputs =
    c.as_slice.ensures.value ∙ c.exchange.ensures.inputs ∙ ap (λ (x : CoreState). inputs_made d.input x.inputs) is in
    let worlds : world c.of-state.result ≡ world (edited_at s c.args.moment d) =
    ap world c.of-state.ensures
    ∙ (λ j. world (edited (record d { input = c.exchange.new.change }) (c.of-parts.ensures j)))
    ∙ world_bare (record (core_in i) { now = c.args.moment }) d c.exchange.new.change
    ∙ (λ j. world (edited_at (is j) c.args.moment d)) in
    then_ok c.plan-plan.result _ _ (λ t. t ∙ (λ j. c.args.steps.now + all_dirty (program j) (trees j) (inputs j) (worlds j))) c.plan-plan.ensures.ticks

pub returns-clause-edit : goal.returns-clause-edit
returns-clause-edit g c =
    let i = c.self.inside in
    let d : Edit = c.args.edit.now in
    let is : core_in i ≡ c.args.self.now.core = ap (λ (e : EngineState). e.core) c.self.view_is in
    let there : HasInput d.input (length i.inputs.items) = subst (λ (x : CoreState). HasInput d.input (length x.inputs)) (sym is) c.requires.input in
    ap (λ (x : InputChange). record d { input = x })
    (c.exchange-2.ensures.change ∙ (λ j. exchanged (c.exchange.ensures.inputs j) (c.exchange.ensures.change j)) ∙ change_back d.input i.inputs.items there)
