use Rattle.std.proofs.Common.{◌≡◌, ◌+◌, ap, sym, ◌∙◌, subst}
use Rattle.term_core.specs.declared.program.Program.{Program}
use Rattle.core_rules.specs.Core.{CoreState}
use Rattle.core_rules.specs.Parts.{core_of, dressed, work_of}
use Rattle.job_core.specs.Plans.{IsPlanFor}
use Rattle.engine_rules.specs.Touched.{kept_made}
use Rattle.engine_rules.proofs.KeptRows.{kept_through_changes}
use Rattle.engine_core.specs.Plans.{changed_by}
use Rattle.engine_core.specs.State.{EngineState}
use Rattle.engine_core.specs.inside.Keeping.{AreKept, core_in}
use Rattle.engine_core.proofs.Installed.{kept_after}
use Rattle.engine_core.proofs.engine.Engine.change.Goals as goal

pub install-requires-2 : goal.install-requires-2
install-requires-2 c = subst (λ (e : EngineState). IsPlanFor c.args.change.jobs (record { work = work_of e.core; spare = e.job_room })) (sym c.self.view_is) c.requires.jobs

pub returns-clause-core : goal.returns-clause-core
returns-clause-core c =
    let i = c.self.inside in
    let is : core_in i ≡ c.args.self.now.core = ap (λ (e : EngineState). e.core) c.self.view_is in
    let rows = c.change_rows.ensures.rows ∙ ap (λ (p : Program). (kept_made p c.args.change.row i.rows).rows) c.program.ensures.program
    ∙ (kept_through_changes i.checked c.args.change.row i.rows c.self.invariant.expiries).1 in
    (λ j. dressed (c.set_input.ensures j) (i.version + 1) (core_of (c.install-2.ensures.work j) (rows j) c.args.change.moment))
    ∙ ap (changed_by c.args.change) is

pub invariant_of-self : goal.invariant_of-self
invariant_of-self c =
    let i = c.self.inside in
    let e : EngineState = c.args.self.now in
    let is : core_in i ≡ e.core = ap (λ (x : EngineState). x.core) c.self.view_is in
    let rows = c.change_rows.ensures.rows ∙ ap (λ (p : Program). (kept_made p c.args.change.row i.rows).rows) c.program.ensures.program in
    let expiries = c.change_rows.ensures.expiries ∙ ap (λ (p : Program). (kept_made p c.args.change.row i.rows).expiries) c.program.ensures.program in
    let made = rows ∙ (kept_through_changes i.checked c.args.change.row i.rows c.self.invariant.expiries).1 in
    let core : dressed c.set_input.new.inputs.items (i.version + 1) (core_of c.install-2.new.self.work c.change_rows.new.rows.rows c.args.change.moment) ≡ changed_by c.args.change e.core =
    (λ j. dressed (c.set_input.ensures j) (i.version + 1) (core_of (c.install-2.ensures.work j) (made j) c.args.change.moment)) ∙ ap (changed_by c.args.change) is in
    subst (λ (x : CoreState). AreKept i.checked x c.change_rows.new.rows c.install.new.self) (sym core)
    (kept_after i.checked c.args.change e i.rows c.change_rows.new.rows i.evaluation c.install.new.self
    (subst (λ (x : CoreState). AreKept i.checked x i.rows i.evaluation) is c.self.invariant) c.requires rows expiries c.install.ensures)
