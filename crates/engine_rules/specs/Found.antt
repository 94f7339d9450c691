-- What a triple is found to be, by look-ups in the parts of a state with a change.
use Rattle.std.specs.Prelude.{ℕ, ◌||◌, if◌then◌else◌, List, Option, Some, None}
use Rattle.std.specs.FinMap.{get}
use Rattle.std.specs.Option.{option_and_then, option_map}
use Rattle.value_core.specs.declared.state.Stage.{Stage}
use Rattle.value_core.specs.declared.state.Triple.{Triple}
use Rattle.op_keys.specs.declared.declarations.OpDecl.{OpDecl}
use Rattle.op_keys.specs.declared.level.Level.{Level}
use Rattle.term_core.specs.declared.entries.Entry.{Entry}
use Rattle.term_core.specs.declared.entries.Entry.TheVariants as entry
use Rattle.sched_rows.specs.declared.row.Row.{Row}
use Rattle.sched_rows.specs.RowKeys.{row_key}
use Rattle.sched_rows.specs.Validity.{valid}
use Rattle.core_rules.specs.Core.{CoreState, expiry_of, is_latched, may_start, op_of, stage, when_allowed}
use Rattle.core_rules.specs.Entries.{job_of, outcome, row_at, with_value, stage_in}
use Rattle.core_rules.specs.declared.own.Own.{Own}
use Rattle.core_rules.specs.declared.own.Own.TheVariants as own
use Rattle.core_rules.specs.declared.own.RowChange.{RowChange}
use Rattle.core_rules.specs.Own.{own_made, rows_made}

-- what a triple of an operation is found to be under a threshold at a moment, by the stage of its live job and its row
abbrev pub found_entry : Option Level → ℕ → Option OpDecl → Option Stage → Option Row → Entry
found_entry threshold now d (Some g) (Some r) = if is_latched d then outcome r else entry.Active g
found_entry threshold now d (Some g) None = entry.Active g
found_entry threshold now d None (Some r) = if valid (expiry_of d) now r || is_latched d then outcome r else entry.Active (when_allowed (may_start threshold d))
found_entry threshold now d None None = entry.Active (when_allowed (may_start threshold d))

-- the same after a change among the jobs
abbrev pub stage_after : CoreState → Own → Triple → Option Stage
stage_after s o t = stage_in (own_made o s) t

-- the row of an operation's name and a key
abbrev pub row_named : CoreState → List ℕ → List ℕ → Option Row
row_named s op key = get s.rows (row_key op key)

-- the same after a change among the rows
abbrev pub row_made_at : RowChange → CoreState → List ℕ → List ℕ → Option Row
row_made_at c s op key = get (rows_made c s.rows) (row_key op key)

-- the row of a triple after a change among the rows
abbrev pub row_after : CoreState → RowChange → Triple → Option Row
row_after s c t = option_and_then (with_value t.value) (row_at (rows_made c s.rows) (op_of s t.op) t.key)

-- the threshold after a change among the jobs
abbrev pub own_threshold : Own → CoreState → Option Level
own_threshold (own.Level threshold) s = threshold
own_threshold o s = s.threshold
