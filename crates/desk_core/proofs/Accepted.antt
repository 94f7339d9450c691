-- What an accepted event stores and leaves, by the event's own change.
use Rattle.std.proofs.Common.{◌≡◌, Option, Some, None, ap, sym, ◌∙◌, cond}
use Rattle.std.specs.Prelude.{IfSome}
use Rattle.std.specs.FinMap.{get, insert}
use Rattle.sched_rows.specs.RowKeys.{RowKey, key_of}
use Rattle.sched_rows.specs.Rows.{Rows}
use Rattle.sched_rows.specs.declared.row.Row.{Row}
use Rattle.core_rules.specs.Bounds.{AreRowsKeyed}
use Rattle.core_rules.specs.Changes.{Change}
use Rattle.core_rules.specs.Core.{CoreState}
use Rattle.core_rules.specs.Settling.{wanted}
use Rattle.core_rules.specs.Steps.{Accepted, at_time, step}
use Rattle.core_rules.specs.Stored.{with_put, with_void}
use Rattle.core_rules.specs.declared.done.Delta.{Delta}
use Rattle.core_rules.specs.declared.done.Done.{Done}
use Rattle.core_rules.specs.declared.events.Event.{Event}
use Rattle.core_rules.specs.declared.events.What.{What}
use Rattle.core_rules.proofs.Moves.{accepts}
use Rattle.core_rules.proofs.Settling.{same_settled}
use Rattle.core_rules.proofs.Storing.{steps_store}
use Rattle.engine_rules.specs.Edits.{delta_of, edit_of, edited, inputs_made, stored_input, stored_log, stored_row, voided_key}
use Rattle.engine_rules.specs.Tests.{test_of}
use Rattle.engine_rules.specs.declared.tests.Tested.TheVariants.{Passes}
use Rattle.engine_rules.proofs.Edited.{change_made}
use Rattle.engine_rules.proofs.RowsAfter.{after_put}
use Rattle.engine_core.proofs.StoredRows.{itself_tied}

-- the event passes its test, and what is stored and left is its own change's
pub record IsAccepted (s : CoreState) (e : Event) (t : CoreState) (d : Delta) : Type 0 where
  pub passes : test_of (at_time s e.at) e.what ≡ Passes
  pub put : d.put ≡ stored_row s.rows (edit_of (at_time s e.at) e.what).row
  pub void : d.void ≡ voided_key (edit_of (at_time s e.at) e.what).row
  pub log : d.log ≡ stored_log e.what
  pub input : d.input ≡ stored_input e.what
  pub next : t.next ≡ d.next
  pub rows : t.rows ≡ with_put d.put (with_void d.void s.rows)
  pub inputs : t.inputs ≡ inputs_made (edit_of (at_time s e.at) e.what).input s.inputs

pub accepted_so : (s : CoreState) (e : Event) (t : CoreState) (r : Done) → step s e ≡ Accepted t r → AreRowsKeyed s.rows → IsAccepted s e t r.delta
accepted_so s e t r h keyed =
    let u : CoreState = at_time s e.at in
    let w : What = e.what in
    let a = accepts s e t r h in
    let made = change_made u w a.own a.changed in
    let delta : a.own.delta ≡ delta_of u w = sym (ap (λ (c : Change). c.delta) made.1) in
    let stored = steps_store s e t r keyed h in
    let own : edited (edit_of u w) u ≡ a.own.state = ap (λ (c : Change). c.state) made.1 in
    let settled = same_settled (wanted a.own.state) a.own.state a.after a.settled in
    record {
      passes = made.0;
      put = ap (λ (d : Done). d.delta.put) a.reply ∙ ap (λ (d : Delta). d.put) delta;
      void = ap (λ (d : Done). d.delta.void) a.reply ∙ ap (λ (d : Delta). d.void) delta;
      log = ap (λ (d : Done). d.delta.log) a.reply ∙ ap (λ (d : Delta). d.log) delta;
      input = ap (λ (d : Done). d.delta.input) a.reply ∙ ap (λ (d : Delta). d.input) delta;
      next = ap (λ x. x.next) stored;
      rows = ap (λ x. x.rows) stored;
      inputs = ap (λ z. z.inputs) a.new ∙ settled.inputs ∙ sym (ap (λ z. z.inputs) own);
    }

-- ---- the row that is put

put_there : (rows : Rows) (r : Row) → get (insert rows (key_of r) r) (key_of r) ≡ Some r
put_there rows r = after_put rows (key_of r) (key_of r) r ∙ ap (λ b. cond b (Some r) (get rows (key_of r))) (itself_tied (key_of r))

-- what holds of all rows of the new state holds of it
pub row_put : (P : Row → Type 0) (after : Rows) (o : Option Row) (rows : Rows) → after ≡ with_put o rows → ((k : RowKey) (r : Row) → get after k ≡ Some r → P r) → IfSome o P
row_put P after None rows is all = tt
row_put P after (Some r) rows is all = all (key_of r) r (ap (λ (m : Rows). get m (key_of r)) is ∙ put_there rows r)
