-- How sessions follow one another: what the tables hold of a core's state, and what the next opening makes of them.
use Rattle.std.specs.Prelude.{◌≡◌, ℕ, true, List, [], ◌∷◌, map, Option, Some, IfSome, is_some}
use Rattle.value_core.specs.declared.value.Value.{Value}
use Rattle.value_core.specs.Literals.{literal_read}
use Rattle.op_keys.specs.declared.level.Level.{Level}
use Rattle.op_keys.specs.Names.{are_apart}
use Rattle.term_core.specs.declared.program.InputDecl.{InputDecl}
use Rattle.term_core.specs.declared.program.Program.{Program}
use Rattle.sched_rows.specs.declared.row.Row.{Row}
use Rattle.sched_rows.specs.RowKeys.{key_of}
use Rattle.core_rules.specs.declared.done.Delta.{Delta}
use Rattle.core_rules.specs.declared.done.Done.{Done}
use Rattle.core_rules.specs.declared.events.Event.{Event}
use Rattle.core_rules.specs.Changes.{takes}
use Rattle.core_rules.specs.Core.{CoreState}
use Rattle.core_rules.specs.Laws.{Invariant}
use Rattle.core_rules.specs.Openings.{Durable, opening_reply, or_declared, start, stored_at}
use Rattle.core_rules.specs.Steps.{Accepted, step}
use Rattle.core_rules.specs.Stored.{durable}
use Rattle.keeper_core.specs.Commits.{with_delta}
use Rattle.keeper_core.specs.Contents.{Contents, loaded}
use Rattle.keeper_core.specs.Durables.{durable_of}
use Rattle.keeper_core.specs.Openings.{IsRowShort}
use Rattle.keeper_core.specs.Printables.{IsPrintable}
use Rattle.keeper_core.specs.Laws.{AreRowTexts, IsStorable, IsWellFormed}
use Rattle.value_core.specs.Names.{is_name}

-- what a session opens with, from the tables
abbrev pub durable_in : Contents → Durable
durable_in t = durable_of (loaded t)

-- the values of declared inputs, from what a session opens with
abbrev pub opened_inputs : Durable → List InputDecl → List Value
opened_inputs d ds = map (λ i. or_declared i (stored_at d.inputs i.name)) ds

-- well-formed tables with a state's rows and next number, from which its inputs have their values
pub record HoldsState (s : CoreState) (t : Contents) : Type 0 where
  pub well_formed : IsWellFormed t
  pub rows : (durable_in t).rows ≡ s.rows
  pub next : (durable_in t).next ≡ s.next
  pub inputs : opened_inputs (durable_in t) s.program.inputs ≡ s.inputs

-- each input's value is of the declared kind, and is read back from its printed form
abbrev pub ArePrintable : List InputDecl → List Value → Type 0
ArePrintable [] [] = Unit {0}
ArePrintable [] (v ∷ vs) = ⊥
ArePrintable (d ∷ ds) [] = ⊥
ArePrintable (d ∷ ds) (v ∷ vs) = (takes d v ≡ true) × IsPrintable v × ArePrintable ds vs

-- no two inputs have one name
abbrev pub AreInputsApart : Program → Type 0
AreInputsApart p = are_apart (map (λ d. d.name) p.inputs) ≡ true

-- an input's name with a literal
abbrev pub IsInputStorable : List ℕ × List ℕ → Type 0
IsInputStorable e = (is_name e.0 ≡ true) × (is_some (literal_read e.1) ≡ true)

-- a row of an operation's name, each of whose texts has at most 65,536 bytes
pub record IsRowWithin (r : Row) : Type 0 where
  pub op : is_name r.op ≡ true
  pub short : IsRowShort (key_of r, r)

-- what a core knows of a delta's texts: an input's name with a literal, and a row within the limits
pub record AreTextsWithin (d : Delta) : Type 0 where
  pub input : IfSome d.input IsInputStorable
  pub row : IfSome d.put IsRowWithin

-- a delta's texts may be stored: an input's name with a literal, and a row within the limits whose texts are UTF-8 without NUL
pub record AreTextsStorable (d : Delta) : Type 0 where
  pub input : IfSome d.input IsInputStorable
  pub row : IfSome d.put AreRowTexts

-- the delta of an accepted event may be stored, if its texts may
abbrev pub StepsMayBeStored : Type 0
StepsMayBeStored = (s : CoreState) (e : Event) (s' : CoreState) (r : Done) → step s e ≡ Accepted s' r → Invariant s → AreTextsStorable r.delta → IsStorable s.next r.delta

-- after an opening's commit the tables hold the opened state
abbrev pub OpeningsAreHeld : Type 0
OpeningsAreHeld = (program : Program) (threshold : Option Level) (reading : ℕ) (t : Contents) (s : CoreState) →
    IsWellFormed t → start program (durable_in t) threshold reading ≡ Some s → HoldsState s (with_delta (opening_reply s).delta t)

-- after the commit of an accepted event, whose delta may be stored, they hold the new state
abbrev pub StepsAreHeld : Type 0
StepsAreHeld = (s : CoreState) (e : Event) (s' : CoreState) (r : Done) (t : Contents) → step s e ≡ Accepted s' r → Invariant s → AreInputsApart s.program →
    ArePrintable s.program.inputs s.inputs → ArePrintable s'.program.inputs s'.inputs → IsStorable s.next r.delta → HoldsState s t → HoldsState s' (with_delta r.delta t)

-- the next opening on tables that hold a state begins as one on the state's durable part
abbrev pub NextOpeningFollows : Type 0
NextOpeningFollows = (s : CoreState) (threshold : Option Level) (reading : ℕ) (t : Contents) → AreInputsApart s.program → ArePrintable s.program.inputs s.inputs →
    HoldsState s t → start s.program (durable_in t) threshold reading ≡ start s.program (durable s) threshold reading
