-- Which triples' entries an event may change, and which inputs.
use Rattle.std.specs.Prelude.{◌≡◌, ℕ, Bool, true, not, List, [], ◌∷◌, ◌++◌, map, filter, Option, Some, None, slice_get}
use Rattle.std.specs.List.{flat_map}
use Rattle.std.specs.FinMap.{entries, get}
use Rattle.value_core.specs.declared.state.Triple.{Triple}
use Rattle.op_keys.specs.Names.{are_apart, index_named}
use Rattle.op_keys.specs.declared.declarations.Expiry.{Expiry}
use Rattle.op_keys.specs.declared.level.Level.{Level}
use Rattle.term_core.specs.declared.program.Program.{Program}
use Rattle.fair_pool.specs.Fair.{same_bool}
use Rattle.sched_rows.specs.declared.row.Row.{Row}
use Rattle.sched_rows.specs.RowKeys.{RowKey, row_key}
use Rattle.sched_rows.specs.Rows.{Kept, end_under, falls_within, with_mark, with_row, without_row}
use Rattle.core_rules.specs.declared.events.Event.{Event}
use Rattle.core_rules.specs.declared.jobs.Job.{Job}
use Rattle.core_rules.specs.Changes.{op_named}
use Rattle.core_rules.specs.Core.{CoreState, expiry_of, job_numbered, may_start, op_of}
use Rattle.core_rules.specs.Steps.{at_time}
use Rattle.engine_rules.specs.declared.edits.Edit.{Edit}
use Rattle.engine_rules.specs.declared.edits.InputChange.{InputChange}
use Rattle.engine_rules.specs.declared.edits.InputChange.TheVariants as input
use Rattle.core_rules.specs.declared.own.Own.{Own}
use Rattle.core_rules.specs.declared.own.Own.TheVariants as own
use Rattle.core_rules.specs.declared.own.RowChange.{RowChange}
use Rattle.core_rules.specs.declared.own.RowChange.TheVariants as row
use Rattle.engine_rules.specs.Conflicts.{triples_of}
use Rattle.engine_rules.specs.Edits.{edit_of, pick_job}

-- ---- triples of rows

-- the triple of a row that may be there, for the number of its operation
abbrev pub triple_under : Option ℕ → List ℕ → Option Row → List Triple
triple_under (Some op) key (Some r) = record { op = op; key = key; value = r.value } ∷ []
triple_under o key r = []

-- the triple of the row of an operation's name and a key
abbrev pub triple_at : CoreState → List ℕ → List ℕ → List Triple
triple_at s name key = triple_under (op_named s name) key (get s.rows (row_key name key))

-- ---- 1. rows that expire

-- when the rows of the operation of a name expire
abbrev pub expiry_named : Program → List ℕ → Expiry
expiry_named p name = expiry_of (slice_get p.ops (index_named 0 (map (λ d. d.name) p.ops) name))

-- whether a row without mark expires after the state's moment, and at another at the latest
abbrev pub expires_by : CoreState → ℕ → RowKey × Row → Bool
expires_by s upto e = falls_within s.now upto (end_under e.1 (expiry_named s.program e.0.op))

-- the names and keys of those rows, in order
abbrev pub due_in : CoreState → ℕ → List (List ℕ × List ℕ)
due_in s upto = map (λ e. (e.0.op, e.0.key)) (filter (expires_by s upto) (entries s.rows))

-- the triples of rows by their names and keys
abbrev pub due_at : CoreState → List (List ℕ × List ℕ) → List Triple
due_at s due = flat_map (λ n. triple_at s n.0 n.1) due

-- the triples of the rows that expire
abbrev pub due_triples : CoreState → ℕ → List Triple
due_triples s upto = due_at s (due_in s upto)

-- each row is kept with the expiry of its operation
abbrev pub KeptFor : Program → Kept → Type 0
KeptFor p k = (key : RowKey) (r : Row) → get k.rows key ≡ Some r → get k.expiries key ≡ Some (expiry_named p key.op)

-- kept rows with a change
abbrev pub kept_made : Program → RowChange → Kept → Kept
kept_made p row.None k = k
kept_made p (row.Put r) k = with_row r (expiry_named p r.op) k
kept_made p (row.Void op key) k = without_row (row_key op key) k
kept_made p (row.Mark op key) k = with_mark (row_key op key) k

-- ---- 2. the change among the jobs

-- the triple of a job that may be there
abbrev pub triple_of_job : Option Job → List Triple
triple_of_job None = []
triple_of_job (Some j) = j.triple ∷ []

-- whether one of two thresholds lets an operation's jobs start, and the other doesn't
abbrev pub is_moved : Option Level → CoreState → Triple → Bool
is_moved threshold s t = not (same_bool (may_start threshold (op_of s t.op)) (may_start s.threshold (op_of s t.op)))

-- the triples that a change among the jobs is of; for a threshold those of the wanted ones that it moves
abbrev pub own_triples : List Triple → CoreState → Own → List Triple
own_triples ws s (own.Level threshold) = filter (is_moved threshold s) ws
own_triples ws s (own.Confirm n) = triple_of_job (job_numbered s.jobs n)
own_triples ws s (own.Cancel n) = triple_of_job (job_numbered s.jobs n)
own_triples ws s (own.Finish n) = triple_of_job (job_numbered s.jobs n)
own_triples ws s (own.Take w) = triple_of_job (pick_job s w)
own_triples ws s o = []

-- the wanted triples that a threshold moves, by these with their counts
abbrev pub moved_of : Option Level → List (Triple × ℕ) → CoreState → List Triple
moved_of threshold cs s = filter (is_moved threshold s) (triples_of cs)

-- those of a change among the jobs, by the wanted triples with their counts
abbrev pub own_of : List (Triple × ℕ) → CoreState → Own → List Triple
own_of cs s o = own_triples (triples_of cs) s o

-- ---- 3. the change among the rows

-- the triples of the row that is replaced, and of the one that is put
abbrev pub changed_triples : CoreState → RowChange → List Triple
changed_triples s row.None = []
changed_triples s (row.Put r) = triple_under (op_named s r.op) r.key (Some r) ++ triple_at s r.op r.key
changed_triples s (row.Void op key) = triple_at s op key
changed_triples s (row.Mark op key) = triple_at s op key

-- ---- all three, if these triples are wanted

-- by the rows that are due and a change
abbrev pub touched_by : List (Triple × ℕ) → List (List ℕ × List ℕ) → Edit → CoreState → List Triple
touched_by cs due d s = due_at s due ++ (own_of cs s d.own ++ changed_triples s d.row)

-- by an event
abbrev pub touched : List Triple → CoreState → Event → List Triple
touched ws s e =
    let t : CoreState = at_time s e.at in
    due_triples s t.now ++ (own_triples ws t (edit_of t e.what).own ++ changed_triples t (edit_of t e.what).row)

-- the inputs that a change sets
abbrev pub set_inputs : InputChange → List ℕ
set_inputs input.None = []
set_inputs (input.Set index v) = index ∷ []

-- no two operations have one name
abbrev pub OpsApart : Program → Type 0
OpsApart p = are_apart (map (λ d. d.name) p.ops) ≡ true
