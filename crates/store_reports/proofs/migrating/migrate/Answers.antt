use Rattle.std.proofs.Common.{refl, sym, ◌∙◌, subst, inl, inr, Err}
use Rattle.keeper_core.specs.declared.keeper.MigrateFault.{MigrateFault}
use Rattle.keeper_core.specs.KeeperCalls.{Migrates}
use Rattle.store_reports.proofs.Moving.{bad_migration, made_tells, moved_migration, unmoved, unopened}
use Rattle.store_reports.proofs.Reported.{fault_is, held_at, if_held}
use Rattle.store_reports.proofs.migrating.migrate.Goals as goal

pub returns-in-Err-clause-run : goal.returns-in-Err-clause-run
returns-in-Err-clause-run g c given ran is knows =
    if_held given.held _ (λ held at. unopened _ _ _ _ (fault_is _ _ c.fault_status.ensures) refl refl (λ known x left. c.in-Err.ensures.left x left))

pub returns-in-Ok-moved-clause-run : goal.returns-in-Ok-moved-clause-run
returns-in-Ok-moved-clause-run g c given ran is knows =
    if_held given.held _ (λ held at.
    moved_migration _ _ (g.M.Keepers.knows_left c.open.new.self) _ _ _ _ _ _ _
    (held_at _ _ held (sym is ∙ at) c.in-Ok.ensures.tables)
    c.in-Ok-moved.ensures.tables
    (rw c.give_back.ensures.known at knows)
    (made_tells _ _ _ _ _ _ c.moved_lines.ensures c.tell_made.ensures)
    refl
    c.give_back.ensures.left)

pub returns-in-Err-BadRow-clause-run : goal.returns-in-Err-BadRow-clause-run
returns-in-Err-BadRow-clause-run g c given ran is knows =
    if_held given.held _ (λ held at.
    bad_migration _ _ _ (g.M.Keepers.knows_left c.open.new.self) _ _ _ _ _ _ _
    (held_at _ _ held (sym is ∙ at) c.in-Ok.ensures.tables)
    (subst (λ (f : MigrateFault). Migrates (g.M.K.Keeper.known c.in-Ok.keeper) (g.M.K.Keeper.known c.migrate-moved.new.self) (Err f)) (rw c.in-Err-BadRow.is at c.in-Err-BadRow.field-0-is)
    (rw c.in-Err-BadRow.is at c.migrate-moved.ensures.tables))
    (rw c.give_back.ensures.known at knows)
    c.tell_bad_row.ensures
    refl
    c.give_back.ensures.left)

pub returns-in-Err-Fault-clause-run : goal.returns-in-Err-Fault-clause-run
returns-in-Err-Fault-clause-run g c given ran is knows =
    if_held given.held _ (λ held at. unmoved _ _ (g.M.K.Keeper.known c.in-Ok.keeper) (g.M.K.Keeper.known c.migrate-moved.new.self) _ _ (inl refl) refl refl (held_at _ _ held (sym is ∙ at) c.in-Ok.ensures.tables) c.migrate-moved.ensures.stop c.give_back.ensures.left)

pub returns-in-Err-NoMemory-clause-run : goal.returns-in-Err-NoMemory-clause-run
returns-in-Err-NoMemory-clause-run g c given ran is knows =
    if_held given.held _ (λ held at. unmoved _ _ (g.M.K.Keeper.known c.in-Ok.keeper) (g.M.K.Keeper.known c.migrate-moved.new.self) _ _ (inr refl) refl refl (held_at _ _ held (sym is ∙ at) c.in-Ok.ensures.tables) c.migrate-moved.ensures.stop c.give_back.ensures.left)
