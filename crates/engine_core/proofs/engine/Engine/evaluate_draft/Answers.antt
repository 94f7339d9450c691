use Rattle.engine_core.proofs.PlanAnswers.{may_evaluate, may_own}
use Rattle.engine_core.proofs.engine.Engine.evaluate_draft.Goals as goal

pub changes-requires : goal.changes-requires
changes-requires g c = may_own c.args.self.now.core c.args.moment c.args.draft.now c.requires.drafted

pub evaluate-requires : goal.evaluate-requires
evaluate-requires g c = may_evaluate c.args.self.now.core c.args.moment c.args.draft.now c.requires.drafted c.args.before.now c.in_ok-changes.changes c.requires.before c.in_ok-changes.ensures
