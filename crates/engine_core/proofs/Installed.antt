-- What the engine keeps after a step.
use Rattle.std.proofs.Common.{◌≡◌, List, ap, sym, ◌∙◌}
use Rattle.std.specs.FinMap.{get}
use Rattle.sched_rows.specs.Rows.{Kept}
use Rattle.term_core.specs.declared.program.Program.{Program}
use Rattle.core_rules.specs.declared.own.RowChange.{RowChange}
use Rattle.core_rules.proofs.Invariant.{invariant_through_step}
use Rattle.core_rules.proofs.Programs.{step_program}
use Rattle.engine_rules.specs.Touched.{KeptFor, kept_made}
use Rattle.engine_rules.proofs.BoundedStates.{bounds_through_steps}
use Rattle.engine_rules.proofs.KeptRows.{kept_through_changes}
use Rattle.visit_rules.specs.declared.visit.Visit.{Visit}
use Rattle.engine_core.specs.Plans.{IsChangeFor, changed_by}
use Rattle.engine_core.specs.State.{EngineState}
use Rattle.engine_core.specs.declared.planned.StepChange.{StepChange}
use Rattle.engine_core.specs.inside.Keeping.{AreKept}

-- rows and expiries are those of a change
pub kept_changed : (p : Program) (c : RowChange) (k k' : Kept) → KeptFor p k → k'.rows ≡ (kept_made p c k).rows → k'.expiries ≡ (kept_made p c k).expiries → KeptFor p k'
kept_changed p c k k' h rows expiries = λ key r e.
    ap (λ m. get m key) expiries ∙ (kept_through_changes p c k h).0 key r (ap (λ m. get m key) (sym rows) ∙ e)

module _ (program : Program) (c : StepChange) (e : EngineState) (rows rows' : Kept) (trees trees' : List Visit) (before : AreKept program e.core rows trees) (is : IsChangeFor c e) where
  pub kept_after : rows'.rows ≡ (kept_made program c.row rows).rows → rows'.expiries ≡ (kept_made program c.row rows).expiries → trees' ≡ c.evaluation.trees → AreKept program (changed_by c e.core) rows' trees'
  kept_after is_rows is_expiries is_trees = record {
    program = before.program ∙ sym (step_program e.core is.event (changed_by c e.core) is.reply is.accepted);
    lawful = record {
      invariant = invariant_through_step e.core is.event (changed_by c e.core) is.reply is.accepted before.lawful.invariant;
      bounds = bounds_through_steps e.core is.event (changed_by c e.core) is.reply is.accepted is.proper before.lawful.bounds;
    };
    expiries = kept_changed program c.row rows rows' before.expiries is_rows is_expiries;
    trees = is_trees ∙ is.trees;
  }
