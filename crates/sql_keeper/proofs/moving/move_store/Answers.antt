use Rattle.std.proofs.Common.{◌≡◌, ◌∙◌, None, arith, ap, length, subst, sym}
use Rattle.std.proofs.lemmas.List.{length-map}
use Rattle.std.specs.FinMap.{entries}
use Rattle.sqlite.specs.Held.{state}
use Rattle.sqlite.specs.State.{HasCleanDisk}
use Rattle.keeper_core.specs.declared.stored.Stored.TheVariants.{Current}
use Rattle.keeper_core.specs.Contents.{old_cache_row}
use Rattle.keeper_core.specs.WellFormed.{old_first_bad}
use Rattle.sql_keeper.specs.Rows.{old_contents}
use Rattle.sql_keeper.specs.declared.first.OldStore.{OldStore}
use Rattle.sql_keeper.specs.inside.Moving.{with_store}
use Rattle.sql_keeper.proofs.Moved.{moved_contents}
use Rattle.sql_keeper.proofs.Stores.{stored_current}
use Rattle.sql_keeper.proofs.moving.move_store.Goals as goal

pub returns-clause-moved : goal.returns-clause-moved
returns-clause-moved g c clean =
    let first = state g.S.Store c.args.tx.now.conn.now in
    let read = state g.S.Store c.read_store.new.tx.conn.now in
    let dropped = state g.S.Store c.drop_tables.new.tx.conn.now in
    let made = state g.S.Store c.make_all.new.tx.conn.now in
    let was_made : HasCleanDisk made = omega (arith, c.refill.ensures.survives.clean, clean) in
    let was_dropped : HasCleanDisk dropped = omega (arith, c.make_all.ensures.survives.clean, was_made) in
    let was_read : HasCleanDisk read = omega (arith, c.drop_tables.ensures.survives.clean, was_dropped) in
    let was_first : HasCleanDisk first = omega (arith, c.read_store.ensures.survives.clean, was_read) in
    let store = c.in_ok-store.store in
    let old = old_contents first.now.trees in
    let is = c.in_ok-store.ensures.rows was_read in
    let none : old_first_bad store.tables ≡ None = sym c.in_ok-table.ensures ∙ c.in_default.is in
    let filled = c.in_ok-make_all.ensures.filled was_made in
    let put = c.in_ok-refill.ensures.put clean in
    let contents = put.contents ∙ ap (with_store store) filled.contents ∙ moved_contents first store (c.requires was_first).database is none in
    record {
      sound = subst (λ (s : OldStore). old_first_bad s.tables ≡ None) is none;
      is_open = put.is_open;
      database = put.database;
      shown = stored_current _ put.database ∙ ap Current contents;
      results = c.count.ensures ∙ ap length c.as_slice.ensures ∙ ap (λ (s : OldStore). length s.tables.cache) is ∙ length-map (entries old.cache) old_cache_row;
      inside = put.inside;
      kept = put.kept ∙ filled.kept ∙ (c.in_ok-drop_tables.ensures.blank was_dropped).kept ∙ (c.in_ok-store.ensures.same was_read).kept;
    }
