use Rattle.std.proofs.Common.{refl, sym, ◌∙◌, inr}
use Rattle.store_reports.proofs.Reported.{answer_follows, failed_follows, fault_is, held_at, if_held, lost_follows}
use Rattle.store_reports.proofs.reports.report.Goals as goal

pub returns-in-Err-clause-run : goal.returns-in-Err-clause-run
returns-in-Err-clause-run g c given ran is knows =
    if_held given.held _ (λ held at. lost_follows _ _ _ _ _ (fault_is _ _ c.fault_status.ensures) refl refl (inr (λ known x left. c.in-Err.ensures.left x left)))

pub returns-in-Ok-answered-clause-run : goal.returns-in-Ok-answered-clause-run
returns-in-Ok-answered-clause-run g c given ran is knows =
    if_held given.held _ (λ held at.
    answer_follows _ _ (g.M.Keepers.knows_left c.open.new.self) _ _ _ _ _ _ _ _ _
    (held_at _ _ held (sym is ∙ at) c.in-Ok.ensures.tables)
    c.in-Ok-answered.ensures.same
    (rw c.give_back.ensures.known at knows)
    c.in-Ok-answered.ensures.answer
    c.in-Ok-answered.ensures.status
    (rw c.as_slice.ensures at c.tell.ensures)
    refl
    c.give_back.ensures.left)

pub returns-in-Err-answered-clause-run : goal.returns-in-Err-answered-clause-run
returns-in-Err-answered-clause-run g c given ran is knows =
    if_held given.held _ (λ held at.
    failed_follows _ _ _ _ _ _ _ (fault_is _ _ c.fault_status-in-Err-answered.ensures) refl refl
    (held_at _ _ held (sym is ∙ at) c.in-Ok.ensures.tables) c.in-Err-answered.ensures.same c.give_back.ensures.left)
