use Rattle.std.proofs.Common.{◌∙◌, arith, ap, inl, w64}
use Rattle.std.specs.FinMap.{get}
use Rattle.std.proofs.lemmas.Int.{to_z-of_z}
use Rattle.sqlite.specs.State.{HasCleanDisk}
use Rattle.sqlite.specs.Held.{state}
use Rattle.sql_keeper.specs.inside.Steps.{IsUndone, Stays}
use Rattle.sql_keeper.specs.inside.ShownRows.{output_of}
use Rattle.sql_keeper.specs.Rows.{contents}
use Rattle.sql_keeper.proofs.LogRead.{log_select_plain, log_shown_is}
use Rattle.sql_keeper.proofs.Reading.{ok_same, on_err, on_ok, query_undone, shown_same, stays}
use Rattle.sql_keeper.proofs.reads.read_output.Goals as goal

pub returns-in_err-rows-clause-undone : goal.returns-in_err-rows-clause-undone
returns-in_err-rows-clause-undone g c clean =
    let old = state g.S.Store c.args.tx.now.conn.now in
    let new = state g.S.Store c.query_all.new.self.conn.now in
    on_err c.from_residual.result (IsUndone old new) (query_undone _ _ old new _ (c.in_err-rows.ensures.err clean))

pub returns-clause-log : goal.returns-clause-log
returns-clause-log g c clean =
    let old = state g.S.Store c.args.tx.now.conn.now in
    let new = state g.S.Store c.query_all.new.self.conn.now in
    let was : HasCleanDisk old = omega (arith, c.query_all.ensures.survives.clean) in
    let ready = c.requires was in
    let shown = rw (c.params-to_sql.ensures, to_z-of_z w64 c.args.job c.ranges.job) at (c.in_ok-rows.ensures.ok clean) in
    ok_same c.first_output.result (output_of c.as_slice.result.now) (get (contents old.now.trees).logs c.args.job) (ap output_of c.as_slice.ensures.value ∙ log_shown_is c.args.is_old old new c.args.job c.in_ok-rows.rows.items ready.database shown) c.first_output.ensures

pub returns-clause-same : goal.returns-clause-same
returns-clause-same g c clean =
    let old = state g.S.Store c.args.tx.now.conn.now in
    let new = state g.S.Store c.query_all.new.self.conn.now in
    let was : HasCleanDisk old = omega (arith, c.query_all.ensures.survives.clean) in
    let ready = c.requires was in
    let shown = rw (c.params-to_sql.ensures, to_z-of_z w64 c.args.job c.ranges.job) at (c.in_ok-rows.ensures.ok clean) in
    on_ok c.first_output.result (Stays c.args.is_old old new) (stays c.args.is_old old new ready (shown_same c.args.is_old old new _ _ c.in_ok-rows.rows.items ready.database (log_select_plain c.args.is_old) shown))

pub returns-clause-undone : goal.returns-clause-undone
returns-clause-undone g c clean =
    let old = state g.S.Store c.args.tx.now.conn.now in
    let new = state g.S.Store c.query_all.new.self.conn.now in
    let was : HasCleanDisk old = omega (arith, c.query_all.ensures.survives.clean) in
    let ready = c.requires was in
    let shown = rw (c.params-to_sql.ensures, to_z-of_z w64 c.args.job c.ranges.job) at (c.in_ok-rows.ensures.ok clean) in
    on_err c.first_output.result (IsUndone old new) (inl (shown_same c.args.is_old old new _ _ c.in_ok-rows.rows.items ready.database (log_select_plain c.args.is_old) shown))
