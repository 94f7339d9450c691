-- What each triple is found to be in a state, and what the nodes come to by it.
use Rattle.std.specs.Prelude.{ℕ, ◌+◌, ◌||◌, if◌then◌else◌, List, [], ◌∷◌, ◌++◌, map, Option, Some, None, filter, option_map}
use Rattle.std.specs.List.{find}
use Rattle.std.specs.Option.{option_and_then}
use Rattle.std.specs.Str.{bytes_eq}
use Rattle.std.specs.FinMap.{get, entries}
use Rattle.value_core.specs.declared.state.Stage.{Stage}
use Rattle.value_core.specs.declared.state.State.{State}
use Rattle.value_core.specs.declared.state.Triple.{Triple}
use Rattle.op_keys.specs.declared.declarations.OpDecl.{OpDecl}
use Rattle.term_core.specs.declared.entries.Entry.{Entry}
use Rattle.term_core.specs.declared.entries.Entry.TheVariants as entry
use Rattle.term_core.specs.Counts.{count_of}
use Rattle.term_core.specs.Fresh.{FreshRun, fresh}
use Rattle.term_core.specs.World.{World}
use Rattle.value_core.specs.Orders.{same_triple}
use Rattle.sched_rows.specs.declared.row.Row.{Row}
use Rattle.sched_rows.specs.RowKeys.{RowKey, row_key}
use Rattle.sched_rows.specs.Rows.{Rows}
use Rattle.sched_rows.specs.Validity.{valid}
use Rattle.core_rules.specs.declared.jobs.Job.{Job}
use Rattle.core_rules.specs.Core.{CoreState, op_of, op_name, expiry_of, is_latched, stage, unstarted}

-- ---- entries

-- the live job of a triple
abbrev pub job_of : List Job → Triple → Option Job
job_of js t = find (λ j. same_triple j.triple t) js

-- the stage of the live job of a triple
abbrev pub stage_in : CoreState → Triple → Option Stage
stage_in s t = option_map (stage s) (job_of s.jobs t)

-- the row of an operation and a key
abbrev pub row_at : Rows → Option OpDecl → List ℕ → Option Row
row_at rows (Some d) key = get rows (row_key d.name key)
row_at rows None key = None

-- a row, where it has this value
abbrev pub with_value : List ℕ → Row → Option Row
with_value value r = if bytes_eq r.value value then Some r else None

-- the row of a triple: that of its operation and key, where its value is the triple's
abbrev pub row_of : CoreState → Triple → Option Row
row_of s t = option_and_then (with_value t.value) (row_at s.rows (op_of s t.op) t.key)

-- a row's result or message
abbrev pub outcome : Row → Entry
outcome r = if r.fine then entry.Fine r.result else entry.Bad r.result

-- a row's outcome, where it is latched, or valid and no live job stands; else the stage of the job, or that of a triple without one
abbrev pub entry_by : CoreState → Option OpDecl → Option Job → Option Row → Entry
entry_by s d (Some j) (Some r) = if is_latched d then outcome r else entry.Active (stage s j)
entry_by s d (Some j) None = entry.Active (stage s j)
entry_by s d None (Some r) = if valid (expiry_of d) s.now r || is_latched d then outcome r else entry.Active (unstarted s d)
entry_by s d None None = entry.Active (unstarted s d)

-- the entry of a triple
abbrev pub entry_in : CoreState → Triple → Entry
entry_in s t = entry_by s (op_of s t.op) (job_of s.jobs t) (row_of s t)

-- ---- the world

-- the triple of a row, for the number of its operation
abbrev pub row_triple : ℕ → RowKey × Row → Triple
row_triple op e = record { op = op; key = e.0.key; value = e.1.value }

-- the triples of the rows of these operations, whose numbers go from a number on
abbrev pub row_triples : ℕ → List OpDecl → List (RowKey × Row) → List Triple
row_triples at [] rows = []
row_triples at (d ∷ ds) rows = map (row_triple at) (filter (λ e. bytes_eq e.0.op d.name) rows) ++ row_triples (at + 1) ds rows

-- the triples of live jobs, and those of the rows of declared operations
abbrev pub known : CoreState → List Triple
known s = map (λ j. j.triple) s.jobs ++ row_triples 0 s.program.ops (entries s.rows)

-- the entry of each of these, and the stage of all others of each operation
abbrev pub world : CoreState → World
world s = record { entries = map (λ t. (t, entry_in s t)) (known s); unstarted = map (λ d. unstarted s (Some d)) s.program.ops }

-- ---- what all nodes come to

-- all nodes, evaluated afresh over the inputs and the world of the state
abbrev pub fresh_of : CoreState → FreshRun
fresh_of s = fresh s.program s.inputs (world s)

-- the states of the nodes
abbrev pub states : CoreState → List State
states s = (fresh_of s).states

-- the triples that are wanted, in order of evaluation, with repeats
abbrev pub wants : CoreState → List Triple
wants s = (fresh_of s).wants

-- the references of a triple: how often it is wanted
abbrev pub refs : CoreState → Triple → ℕ
refs s t = count_of (wants s) t

-- ---- rows by triples

-- what the row of a triple's operation and key stands under
abbrev pub key_for : CoreState → Triple → RowKey
key_for s t = row_key (op_name (op_of s t.op)) t.key
