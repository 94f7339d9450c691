-- A triple's entry is found by look-ups.
use Rattle.std.proofs.Common.{◌≡◌, Option, Some, None, refl, ◌∙◌}
use Rattle.std.specs.Prelude.{slice_get}
use Rattle.std.specs.Option.{option_and_then, option_map}
use Rattle.value_core.specs.declared.state.Triple.{Triple}
use Rattle.op_keys.specs.declared.declarations.OpDecl.{OpDecl}
use Rattle.sched_rows.specs.declared.row.Row.{Row}
use Rattle.core_rules.specs.declared.jobs.Job.{Job}
use Rattle.core_rules.specs.Core.{CoreState, op_of, stage}
use Rattle.core_rules.specs.Entries.{entry_by, entry_in, job_of, row_at, row_of, with_value, stage_in}
use Rattle.engine_rules.specs.declared.edits.Edit.{Edit}
use Rattle.engine_rules.specs.Edits.{edited}
use Rattle.core_rules.specs.Own.{own_made, rows_made}
use Rattle.engine_rules.specs.Found.{found_entry, row_after, stage_after}
use Rattle.engine_rules.proofs.Edited.{own_untouched}

found_by : (s : CoreState) (d : Option OpDecl) (o : Option Job) (r : Option Row) → entry_by s d o r ≡ found_entry s.threshold s.now d (option_map (stage s) o) r
found_by s d (Some j) (Some r) = refl
found_by s d (Some j) None = refl
found_by s d None (Some r) = refl
found_by s d None None = refl

pub entries_are_found : (s : CoreState) (e : Edit) (t : Triple) →
    entry_in (edited e s) t ≡ found_entry (own_made e.own s).threshold s.now (op_of s t.op) (stage_after s e.own t) (row_after s e.row t)
entries_are_found s e t =
    let u : CoreState = own_made e.own s in
    let same = own_untouched s e.own in
    found_by (edited e s) (op_of u t.op) (job_of u.jobs t) (row_of (edited e s) t)
    ∙ (λ i. found_entry u.threshold (same.now i) (slice_get (same.program i).ops t.op) (stage_in u t) (option_and_then (with_value t.value) (row_at (rows_made e.row s.rows) (slice_get (same.program i).ops t.op) t.key)))
