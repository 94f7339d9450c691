-- The parts of a state answer as the state itself.
use Rattle.std.proofs.Common.{◌≡◌, List, [], Option, Some, None, refl, ap}
use Rattle.value_core.specs.declared.state.Triple.{Triple}
use Rattle.op_keys.specs.declared.order.Exit.{Exit}
use Rattle.core_rules.specs.Core.{CoreState, job_numbered}
use Rattle.core_rules.specs.declared.jobs.Job.{Job}
use Rattle.core_rules.specs.declared.jobs.Mark.{Mark}
use Rattle.core_rules.specs.declared.jobs.Mark.TheVariants.{Unmarked, Automatic, User}
use Rattle.core_rules.specs.Entries.{world}
use Rattle.core_rules.specs.Own.{rows_made}
use Rattle.core_rules.specs.declared.events.What.{What}
use Rattle.core_rules.specs.declared.events.What.TheVariants as what
use Rattle.core_rules.specs.declared.own.Own.{Own}
use Rattle.core_rules.specs.declared.own.Own.TheVariants as own
use Rattle.core_rules.specs.declared.own.RowChange.{RowChange}
use Rattle.core_rules.specs.declared.own.RowChange.TheVariants as row
use Rattle.engine_rules.specs.Edits.{delta_of, edit_of, edited, left_row, left_rows, note_of, stored_input, stored_log, stored_row, voided_key}
use Rattle.engine_rules.specs.Tests.{test_of}
use Rattle.engine_rules.specs.Touched.{changed_triples, own_triples}
use Rattle.engine_rules.specs.declared.edits.Edit.{Edit}
use Rattle.engine_rules.specs.declared.edits.InputChange.{InputChange}
use Rattle.engine_rules.specs.declared.edits.InputChange.TheVariants as input
use Rattle.engine_rules.proofs.Edited.{own_over}
use Rattle.engine_core.specs.inside.Bare.{bare_at}

module _ (u : CoreState) where
  left_bare : (j : Job) (x : Exit) (m : Mark) → left_row m (bare_at u u.now) j x ≡ left_row m u j x
  left_bare j x Unmarked = refl
  left_bare j x Automatic = refl
  left_bare j x User = refl

  left_rows_bare : (o : Option Job) (x : Exit) → left_rows (bare_at u u.now) o x ≡ left_rows u o x
  left_rows_bare None x = refl
  left_rows_bare (Some j) x = left_bare j x j.mark

  pub test_bare : (w : What) → test_of (bare_at u u.now) w ≡ test_of u w
  test_bare (what.SetInput name v) = refl
  test_bare what.Tick = refl
  test_bare (what.SetLevel threshold) = refl
  test_bare (what.Confirm n) = refl
  test_bare (what.Cancel n) = refl
  test_bare (what.Rebuild op key) = refl
  test_bare (what.Pause w) = refl
  test_bare (what.Resume w) = refl
  test_bare (what.Rate pool client rate) = refl
  test_bare (what.Take w) = refl
  test_bare (what.Finish n x) = refl

  pub edit_bare : (w : What) → edit_of (bare_at u u.now) w ≡ edit_of u w
  edit_bare (what.SetInput name v) = refl
  edit_bare what.Tick = refl
  edit_bare (what.SetLevel threshold) = refl
  edit_bare (what.Confirm n) = refl
  edit_bare (what.Cancel n) = refl
  edit_bare (what.Rebuild op key) = refl
  edit_bare (what.Pause w) = refl
  edit_bare (what.Resume w) = refl
  edit_bare (what.Rate pool client rate) = refl
  edit_bare (what.Take w) = refl
  edit_bare (what.Finish n x) = ap (λ (c : RowChange). record { own = own.Finish n; row = c; input = input.None }) (left_rows_bare (job_numbered u.jobs n) x)

  pub note_bare : (w : What) → note_of (bare_at u u.now) w ≡ note_of u w
  note_bare (what.SetInput name v) = refl
  note_bare what.Tick = refl
  note_bare (what.SetLevel threshold) = refl
  note_bare (what.Confirm n) = refl
  note_bare (what.Cancel n) = refl
  note_bare (what.Rebuild op key) = refl
  note_bare (what.Pause w) = refl
  note_bare (what.Resume w) = refl
  note_bare (what.Rate pool client rate) = refl
  note_bare (what.Take w) = refl
  note_bare (what.Finish n x) = refl

  pub delta_bare : (w : What) → delta_of (bare_at u u.now) w ≡ delta_of u w
  delta_bare w = ap (λ (d : Edit). record { input = stored_input w; put = stored_row u.rows d.row; void = voided_key d.row; log = stored_log w; next = u.next }) (edit_bare w)

  pub own_triples_bare : (ws : List Triple) (o : Own) → own_triples ws (bare_at u u.now) o ≡ own_triples ws u o
  own_triples_bare ws own.None = refl
  own_triples_bare ws (own.Level threshold) = refl
  own_triples_bare ws (own.Confirm n) = refl
  own_triples_bare ws (own.Cancel n) = refl
  own_triples_bare ws (own.Take w) = refl
  own_triples_bare ws (own.Finish n) = refl
  own_triples_bare ws (own.Pause w) = refl
  own_triples_bare ws (own.Resume w) = refl
  own_triples_bare ws (own.Rate c rate) = refl

  pub changed_bare : (c : RowChange) → changed_triples (bare_at u u.now) c ≡ changed_triples u c
  changed_bare row.None = refl
  changed_bare (row.Put r) = refl
  changed_bare (row.Void op key) = refl
  changed_bare (row.Mark op key) = refl

  -- what an edit makes of the world doesn't depend on inputs
  pub world_bare : (d : Edit) (i : InputChange) → world (edited (record d { input = i }) (bare_at u u.now)) ≡ world (edited d u)
  world_bare d i = ap (λ (x : CoreState). world (record x { rows = rows_made d.row u.rows; inputs = u.inputs })) (own_over u d.own u.rows [] 0)
