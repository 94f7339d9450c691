use Rattle.std.specs.Vec.Iter.{into_iter_items}
use Rattle.engine_core.proofs.StoredRows.{Loading}
use Rattle.engine_core.proofs.stored.stored_rows.Given as goal

abbrev pub invariant-loop-row : goal.invariant-loop-row
invariant-loop-row l = Loading l.program (into_iter_items l.initial.row-iterator) (into_iter_items l.row-iterator) l.rows
