use Rattle.std.proofs.Common.{◌≡◌, ◌+◌, ◌-◌, ◌^◌, ◌<◌, ap, sym, ◌∙◌, subst, arith}
use Rattle.core_rules.specs.Core.{CoreState}
use Rattle.core_rules.specs.Steps.{step}
use Rattle.engine_core.specs.Answers.{IsRefusedBy}
use Rattle.engine_core.specs.Evaluated.{evaluated}
use Rattle.engine_core.specs.Plans.{HasRowRoom}
use Rattle.engine_core.specs.State.{EngineState, IsEngineLawful}
use Rattle.engine_core.specs.inside.Keeping.{core_in}
use Rattle.engine_core.specs.inside.Planning.{IsDrafted, IsPlan, IsPlanOf, IsUnplanned, dirty_at}
use Rattle.engine_core.proofs.Evaluating.{err_so, ok_so, then_ok}
use Rattle.engine_core.proofs.PlanAnswers.{Drafting, drafting, is_drafted, moment_so, passes_bare, plan_at, refused_at, ticks_at, version_used}
use Rattle.engine_core.proofs.engine.Engine.plan_change.Goals as goal

pub returns-then-self-clause-refused : goal.returns-then-self-clause-refused
returns-then-self-clause-refused g c =
    let is : core_in c.self.inside ≡ c.args.self.now.core = ap (λ (e : EngineState). e.core) c.self.view_is in
    version_used c.args.self.now.core c.args.event.now c.requires.passes (ap (λ (x : CoreState). x.version) (sym is) ∙ c.if-self.true)

pub draft-requires : goal.draft-requires
draft-requires g c =
    let s : CoreState = c.args.self.now.core in
    let is : core_in c.self.inside ≡ s = ap (λ (e : EngineState). e.core) c.self.view_is in
    let timed = moment_so (core_in c.self.inside) s c.args.event.now c.later-moment.result is c.later-moment.ensures in
    passes_bare s c.args.event.now c.later-moment.result timed c.requires.passes

pub plan_draft-requires-clause-drafted : goal.plan_draft-requires-clause-drafted
plan_draft-requires-clause-drafted g c =
    let s : CoreState = c.args.self.now.core in
    let is : core_in c.self.inside ≡ s = ap (λ (e : EngineState). e.core) c.self.view_is in
    let timed = moment_so (core_in c.self.inside) s c.args.event.now c.later-moment.result is c.later-moment.ensures in
    let lawful = subst IsEngineLawful is c.self.invariant.lawful in
    subst (λ (x : CoreState). IsDrafted x c.later-moment.result c.in_ok-draft.draft) (sym c.make_row_room.ensures.core)
    (is_drafted s c.args.event.now c.later-moment.result c.in_ok-draft.draft lawful timed c.requires.passes c.in_ok-draft.ensures)

pub returns-clause-planned : goal.returns-clause-planned
returns-clause-planned g c =
    let s : CoreState = c.args.self.now.core in
    let is : core_in c.self.inside ≡ s = ap (λ (e : EngineState). e.core) c.self.view_is in
    let timed = moment_so (core_in c.self.inside) s c.args.event.now c.later-moment.result is c.later-moment.ensures in
    let lawful = subst IsEngineLawful is c.self.invariant.lawful in
    let here : Drafting s c.args.event.now c.in_ok-draft.draft =
    record { lawful = lawful; proper = c.requires.proper; passes = c.requires.passes; drafted = drafting s c.args.event.now c.later-moment.result c.in_ok-draft.draft timed c.in_ok-draft.ensures } in
    let last = c.self.invariant.lawful.invariant.bounded.last_version in
    let version : s.version < 2 ^ 64 - 1 = subst (λ (x : CoreState). x.version < 2 ^ 64 - 1) is (omega (arith, last, c.if-self.false)) in
    let same : c.plan_draft.new.self.core ≡ s = c.plan_draft.ensures.core ∙ c.make_row_room.ensures.core in
    let room : HasRowRoom c.in_ok-draft.draft.edit.row c.plan_draft.new.self.row_room = subst (λ n. HasRowRoom c.in_ok-draft.draft.edit.row n) (sym c.plan_draft.ensures.room) c.in_ok-make_row_room.ensures.room in
    ok_so (IsPlanOf c.plan_draft.new.self c.later-moment.result c.in_ok-draft.draft) (IsPlan s c.args.event.now c.plan_draft.new.self) c.plan_draft.result
    (λ p h. plan_at s c.args.event.now c.later-moment.result c.in_ok-draft.draft timed here c.plan_draft.new.self p same version room h) c.plan_draft.ensures.planned

pub returns-clause-refused : goal.returns-clause-refused
returns-clause-refused g c =
    let s : CoreState = c.args.self.now.core in
    let is : core_in c.self.inside ≡ s = ap (λ (e : EngineState). e.core) c.self.view_is in
    let timed = moment_so (core_in c.self.inside) s c.args.event.now c.later-moment.result is c.later-moment.ensures in
    let lawful = subst IsEngineLawful is c.self.invariant.lawful in
    let here : Drafting s c.args.event.now c.in_ok-draft.draft =
    record { lawful = lawful; proper = c.requires.proper; passes = c.requires.passes; drafted = drafting s c.args.event.now c.later-moment.result c.in_ok-draft.draft timed c.in_ok-draft.ensures } in
    let unplanned = rw c.make_row_room.ensures.core at c.plan_draft.ensures.unplanned in
    err_so (IsUnplanned s c.later-moment.result c.in_ok-draft.draft.edit) (IsRefusedBy (step s c.args.event.now)) c.plan_draft.result
    (refused_at s c.args.event.now c.later-moment.result c.in_ok-draft.draft timed here) unplanned

pub returns-clause-ticks : goal.returns-clause-ticks
returns-clause-ticks g c =
    let s : CoreState = c.args.self.now.core in
    let is : core_in c.self.inside ≡ s = ap (λ (e : EngineState). e.core) c.self.view_is in
    let timed = moment_so (core_in c.self.inside) s c.args.event.now c.later-moment.result is c.later-moment.ensures in
    let lawful = subst IsEngineLawful is c.self.invariant.lawful in
    let here : Drafting s c.args.event.now c.in_ok-draft.draft =
    record { lawful = lawful; proper = c.requires.proper; passes = c.requires.passes; drafted = drafting s c.args.event.now c.later-moment.result c.in_ok-draft.draft timed c.in_ok-draft.ensures } in
    let ticks = rw c.make_row_room.ensures.core at c.plan_draft.ensures.ticks in
    then_ok c.plan_draft.result (c.plan_draft.new.steps ≡ c.args.steps.now + dirty_at s c.later-moment.result c.in_ok-draft.draft.edit) (c.plan_draft.new.steps ≡ c.args.steps.now + evaluated s c.args.event.now)
    (λ h. h ∙ ap (λ n. c.args.steps.now + n) (sym (ticks_at s c.args.event.now c.later-moment.result c.in_ok-draft.draft timed here))) ticks
