-- What is stored of a state, and what a step makes of it.
use Rattle.std.specs.Prelude.{ℕ, if◌then◌else◌, List, [], ◌∷◌, map, Option, Some, None}
use Rattle.std.specs.FinMap.{insert, remove}
use Rattle.std.specs.Str.{bytes_eq}
use Rattle.value_core.specs.declared.value.Value.{Value}
use Rattle.value_core.specs.Printed.{printed}
use Rattle.term_core.specs.declared.program.InputDecl.{InputDecl}
use Rattle.sched_rows.specs.declared.row.Row.{Row}
use Rattle.sched_rows.specs.RowKeys.{key_of, row_key}
use Rattle.sched_rows.specs.Rows.{Rows}
use Rattle.core_rules.specs.declared.done.Delta.{Delta}
use Rattle.core_rules.specs.Core.{CoreState}
use Rattle.core_rules.specs.Openings.{Durable}

-- values under the names of inputs
abbrev pub named_values : List InputDecl → List Value → List (List ℕ × Value)
named_values [] vs = []
named_values (d ∷ ds) [] = []
named_values (d ∷ ds) (v ∷ vs) = (d.name, v) ∷ named_values ds vs

-- the inputs, the rows and the next number
abbrev pub durable : CoreState → Durable
durable s = record { inputs = named_values s.program.inputs s.inputs; rows = s.rows; next = s.next }

-- the same as it is stored: inputs have their printed values
pub record Stored : Type 0 where
  pub inputs : List (List ℕ × List ℕ)
  pub rows : Rows
  pub next : ℕ

-- values as they are printed
abbrev pub printed_values : List (List ℕ × Value) → List (List ℕ × List ℕ)
printed_values es = map (λ e. (e.0, printed e.1)) es

-- what is stored of a durable part
abbrev pub stored : Durable → Stored
stored d = record { inputs = printed_values d.inputs; rows = d.rows; next = d.next }

-- with another text under a name that is there
abbrev pub replaced : List ℕ × List ℕ → List (List ℕ × List ℕ) → List (List ℕ × List ℕ)
replaced e [] = []
replaced e (x ∷ xs) = if bytes_eq x.0 e.0 then e ∷ xs else x ∷ replaced e xs

-- with an input's text, where there is one
abbrev pub with_input : Option (List ℕ × List ℕ) → List (List ℕ × List ℕ) → List (List ℕ × List ℕ)
with_input None es = es
with_input (Some e) es = replaced e es

-- without the row of an operation's name and a key
abbrev pub with_void : Option (List ℕ × List ℕ) → Rows → Rows
with_void None rows = rows
with_void (Some e) rows = remove rows (row_key e.0 e.1)

-- with a row in place of the one of its operation and key
abbrev pub with_put : Option Row → Rows → Rows
with_put None rows = rows
with_put (Some r) rows = insert rows (key_of r) r

-- what is stored after a step
abbrev pub with_delta : Delta → Stored → Stored
with_delta d t = record { inputs = with_input d.input t.inputs; rows = with_put d.put (with_void d.void t.rows); next = d.next }
