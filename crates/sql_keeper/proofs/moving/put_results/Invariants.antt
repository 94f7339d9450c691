use Rattle.std.proofs.Common.{◌≡◌, drop}
use Rattle.sqlite.specs.Held.{state}
use Rattle.sqlite.specs.State.{HasCleanDisk, Survives}
use Rattle.sql_keeper.specs.inside.Moving.{Reaches, with_old_results}
use Rattle.sql_keeper.proofs.moving.put_results.Given as goal

abbrev pub invariant-loop-row : goal.invariant-loop-row
invariant-loop-row g l =
    let old = state g.S.Store l.fn.tx.conn.now in
    let now = state g.S.Store l.tx.conn.now in
    (l.tx.conn.ghost_name ≡ l.fn.tx.conn.ghost_name) × Survives old now (λ _. ⊥) × (HasCleanDisk now → Reaches (with_old_results (drop l.row-index l.rows)) (with_old_results l.rows) old now)
