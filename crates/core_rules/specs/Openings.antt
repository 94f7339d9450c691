-- The opening of the core from what is stored.
use Rattle.std.specs.Prelude.{◌≡◌, ℕ, ◌^◌, ◌<◌, ◌≤◌, min, max, if◌then◌else◌, List, [], ◌∷◌, map, Option, Some, None}
use Rattle.std.specs.FinMap.{get, entries, from_entries}
use Rattle.std.specs.List.{AllByRecursion}
use Rattle.std.specs.Str.{bytes_eq}
use Rattle.value_core.specs.declared.value.Value.{Value}
use Rattle.op_keys.specs.declared.level.Level.{Level}
use Rattle.term_core.specs.declared.program.InputDecl.{InputDecl}
use Rattle.term_core.specs.declared.program.Program.{Program}
use Rattle.sched_rows.specs.declared.row.Row.{Row}
use Rattle.sched_rows.specs.RowKeys.{RowKey, key_of}
use Rattle.sched_rows.specs.Rows.{Rows}
use Rattle.sched_rows.specs.Validity.{IsTime}
use Rattle.fair_pool.specs.Pools.{opened as pools_opened}
use Rattle.core_rules.specs.declared.notes.Note.TheVariants as note
use Rattle.core_rules.specs.Core.{CoreState, layout_of}
use Rattle.core_rules.specs.Changes.{takes}
use Rattle.core_rules.specs.Entries.{states, wants}
use Rattle.core_rules.specs.declared.done.Done.{Done}
use Rattle.core_rules.specs.Replies.{next_alone, changed_from, new_conflicts}
use Rattle.core_rules.specs.Settling.{settle}

-- what is stored of a state: inputs by name, rows, and the next number; those of no declaration are kept
pub record Durable : Type 0 where
  pub inputs : List (List ℕ × Value)
  pub rows : Rows
  pub next : ℕ

-- rows by their operations and keys; of two with one key the first counts
abbrev pub rows_in : List Row → Rows
rows_in rs = from_entries (map (λ r. (key_of r, r)) rs)

-- each row's job is below the next number
abbrev pub IsDurable : Durable → Type 0
IsDurable d = (k : RowKey) (r : Row) → get d.rows k ≡ Some r → r.job < d.next

-- a row under its own key, of a job from 1 and below a number, that finished within the times
pub record IsRowOpenable (next : ℕ) (e : RowKey × Row) : Type 0 where
  pub key : key_of e.1 ≡ e.0
  pub first : 1 ≤ e.1.job
  pub below : e.1.job < next
  pub finished : IsTime e.1.finished

-- such rows, and a next number from 1 to the first that no job may have
pub record IsOpenable (d : Durable) : Type 0 where
  pub first_next : 1 ≤ d.next
  pub last_next : d.next ≤ 2 ^ 62
  pub rows : AllByRecursion (IsRowOpenable d.next) (entries d.rows)

-- the first stored value of a name
abbrev pub stored_at : List (List ℕ × Value) → List ℕ → Option Value
stored_at [] name = None
stored_at (e ∷ es) name = if bytes_eq e.0 name then Some e.1 else stored_at es name

-- the stored value where its kind is the declared one, else the declared value
abbrev pub or_declared : InputDecl → Option Value → Value
or_declared d (Some v) = if takes d v then v else d.value
or_declared d None = d.value

-- the latest of a moment and the ends of some rows
abbrev pub latest : ℕ → List (RowKey × Row) → ℕ
latest t [] = t
latest t (e ∷ es) = latest (max t e.1.finished) es

-- the state before it is settled: no job, at the larger of the reading and the rows' ends
abbrev pub opened : Program → Durable → Option Level → ℕ → CoreState
opened program durable threshold reading = record {
  program = program;
  threshold = threshold;
  now = latest (min reading (2 ^ 60)) (entries durable.rows);
  version = 1;
  inputs = map (λ d. or_declared d (stored_at durable.inputs d.name)) program.inputs;
  rows = durable.rows;
  next = durable.next;
  jobs = [];
  fair = (pools_opened (layout_of program)).fair;
}

-- version 1; undefined where a job of the number 2^62 would be needed
unfoldable pub start : Program → Durable → Option Level → ℕ → Option CoreState
start program durable threshold reading = settle (opened program durable threshold reading)

-- the reply of an opening: every node is changed, and every conflict is new
abbrev pub opening_reply : CoreState → Done
opening_reply s = record {
  note = note.Plain;
  version = 1;
  changed = changed_from 0 [] (states s);
  conflicts = new_conflicts [] (wants s);
  signals = [];
  delta = next_alone s.next;
}
