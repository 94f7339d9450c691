use Rattle.std.proofs.Common.{arith, inl}
use Rattle.sqlite.specs.State.{HasCleanDisk}
use Rattle.sqlite.specs.Held.{state}
use Rattle.sql_keeper.specs.inside.Steps.{IsUndone, Stays}
use Rattle.sql_keeper.proofs.Reading.{on_err, on_ok, query_undone, shown_same, stays}
use Rattle.sql_keeper.proofs.reads.read_all.Goals as goal

pub returns-in_err-rows-clause-undone : goal.returns-in_err-rows-clause-undone
returns-in_err-rows-clause-undone g c clean =
    let old = state g.S.Store c.args.tx.now.conn.now in
    let new = state g.S.Store c.query_all.new.self.conn.now in
    on_err c.from_residual.result (IsUndone old new) (query_undone _ _ old new _ (c.in_err-rows.ensures.err clean))

pub returns-clause-same : goal.returns-clause-same
returns-clause-same g c clean =
    let old = state g.S.Store c.args.tx.now.conn.now in
    let new = state g.S.Store c.query_all.new.self.conn.now in
    let was : HasCleanDisk old = omega (arith, c.query_all.ensures.survives.clean) in
    let ready = c.requires.ready was in
    on_ok c.read_rows.result (Stays c.args.is_old old new) (stays c.args.is_old old new ready (shown_same c.args.is_old old new _ _ c.in_ok-rows.rows.items ready.database c.requires.plain (c.in_ok-rows.ensures.ok clean)))

pub returns-clause-undone : goal.returns-clause-undone
returns-clause-undone g c clean =
    let old = state g.S.Store c.args.tx.now.conn.now in
    let new = state g.S.Store c.query_all.new.self.conn.now in
    let was : HasCleanDisk old = omega (arith, c.query_all.ensures.survives.clean) in
    let ready = c.requires.ready was in
    on_err c.read_rows.result (IsUndone old new) (inl (shown_same c.args.is_old old new _ _ c.in_ok-rows.rows.items ready.database c.requires.plain (c.in_ok-rows.ensures.ok clean)))
