-- A pipeline with one output operation and two nodes, which set one key to the input's text and to `v1`.
use Rattle.std.proofs.Common.{◌≡◌, ℕ, true, false, List, [], ◌∷◌, Some, None, map, refl, ap, ◌∙◌}
use Rattle.std.specs.Prelude.{codes, if◌then◌else◌}
use Rattle.std.specs.List.{list_all}
use Rattle.value_core.specs.declared.value.Value.{Value}
use Rattle.value_core.specs.declared.value.Value as V
use denote.Hole.Carrier as C
use Rattle.value_core.specs.declared.value.Value.TheVariants as value
use Rattle.value_core.specs.declared.state.State.{State}
use Rattle.value_core.specs.declared.state.State.TheVariants.{Fine, Failed}
use Rattle.value_core.specs.declared.state.Triple.{Triple}
use Rattle.op_keys.specs.declared.declarations.Expiry.TheVariants.{Never}
use Rattle.op_keys.specs.declared.declarations.OpDecl.{OpDecl}
use Rattle.op_keys.specs.declared.level.Level.TheVariants.{Average}
use Rattle.op_keys.specs.declared.order.Order.{Order}
use Rattle.op_keys.specs.Filling.{filled}
use Rattle.op_keys.specs.Orders.{is_short, order_fits}
use Rattle.term_core.specs.declared.entries.Entry.{Entry}
use Rattle.term_core.specs.declared.program.Program.{Program}
use Rattle.term_core.specs.declared.program.Term.{Term}
use Rattle.term_core.specs.declared.program.Term.TheVariants as term
use Rattle.term_core.specs.Evaluation.{Context, entry_state, eval, context_of}
use Rattle.term_core.specs.Evaluation as E
use Rattle.term_core.specs.Fresh.{FreshRun}
use Rattle.term_core.specs.Fresh as nodes
use Rattle.term_core.specs.Runs.{Run, after, stated, visited}
use Rattle.term_core.specs.World.{World, entry_of}
use Rattle.term_core.proofs.Evaluating.{eval_output_is}
use Rattle.sched_rows.specs.declared.row.Row.{Row}
use Rattle.sched_rows.specs.RowKeys.{RowKey, row_key}
use Rattle.core_rules.specs.declared.jobs.Job.{Job}
use Rattle.core_rules.proofs.Leaves.{input_is, return_is}
use Rattle.core_rules.proofs.WorkedRuns.{Evaluated, job}

-- ---- the pipeline

-- its operation
abbrev pub put_op : OpDecl
put_op = record {
  name = codes "put";
  output = true;
  pool = codes "p";
  client = codes "c";
  full = 1;
  cached = 0;
  hint = None;
  urgent = false;
  level = Average;
  expiry = Never;
  latched = false;
  no_cancel = false;
  words = codes "put" ∷ codes "{key}" ∷ codes "{value}" ∷ [];
}

-- the key `k` set to a term's text
abbrev pub put : Term → Term
put t = term.Output (codes "put") (term.Return (value.Words (codes "k"))) t

-- a node that sets it to the input's text, and one that sets it to `v1`
abbrev pub pipeline : Program
pipeline = record {
  version = 1;
  inputs = record { name = codes "a"; value = value.Words (codes "v1"); watch = None } ∷ [];
  pools = record { name = codes "p"; hold = 0 } ∷ [];
  clients = record { name = codes "c"; pool = codes "p"; rate = 1 } ∷ [];
  workers = record { name = codes "w"; pool = codes "p"; capacity = 1 } ∷ [];
  ops = put_op ∷ [];
  nodes = record { name = codes "m"; term = put (term.Input (codes "a")) } ∷ record { name = codes "n"; term = put (term.Return (value.Words (codes "v1"))) } ∷ [];
}

-- ---- what its states are made of

-- the key set to a text
abbrev pub setting : List ℕ → Triple
setting v = record { op = 0; key = codes "k"; value = v }

-- a job for it that no worker has taken
abbrev pub queued : ℕ → List ℕ → Job
queued n v = job n (setting v)

-- one that the worker runs
abbrev pub running : ℕ → List ℕ → Job
running n v = record (queued n v) { worker = Some 0 }

-- the row of a fine one
abbrev pub row_left : ℕ → List ℕ → Row
row_left job v = record { op = codes "put"; key = codes "k"; value = v; fine = true; result = []; finished = 0; job = job; rebuild = false }

-- the worker is asked to set the key to a text
abbrev pub order : ℕ → List ℕ → Order
order job v = record { job = job; worker = 0; op = 0; key = codes "k"; value = v; words = codes "put" ∷ codes "k" ∷ v ∷ [] }

-- what its rows stand under
abbrev pub of_key : RowKey
of_key = row_key (codes "put") (codes "k")

-- a text is set
abbrev pub done : State
done = Fine value.Unit

-- ---- what the nodes come to

-- a text that is short enough for the order's words
abbrev pub Text : Type 0
Text = (v : List ℕ) × (list_all is_short (map (filled (codes "k") v) (codes "put" ∷ codes "{key}" ∷ codes "{value}" ∷ [])) ≡ true)

abbrev pub v0 : Text
v0 = (codes "v0", refl)

abbrev pub v1 : Text
v1 = (codes "v1", refl)

-- a text alone
abbrev alone : List ℕ → Run
alone v = visited (stated (Fine (value.Words v)))

module _ (node : ℕ) (inputs : List Value) (earlier : List State) (w : World) where
  abbrev given : Context
  given = context_of pipeline node inputs earlier w

  abbrev put_run : List ℕ → Run
  put_run v = record { state = entry_state node (λ t. value.Unit) (entry_of w (setting v)); wants = setting v ∷ []; ticks = 3 }

  -- a run behind those of the key and of a text
  abbrev behind : List ℕ → Run → Run
  behind v r = visited (after (alone (codes "k")) (λ s. s) (after (alone v) (λ s. s) r))

  layers_come : (v : Text) → E.output_run given (codes "put") (λ bound. alone (codes "k")) (λ bound. alone v.0) [] ≡ put_run v.0
  unfolding E.output_run E.looked_up order_fits V.out-Value C.out
  layers_come v = ap (λ b. behind v.0 (if b then E.wanted given (λ t. value.Unit) (setting v.0) else stated (Failed node (codes "order too long")))) v.1

  put_is : (v : Text) (t : Term) → eval given t ≡ (λ bound. alone v.0) → eval given (put t) [] ≡ put_run v.0
  put_is v t is = eval_output_is given (codes "put") (term.Return (value.Words (codes "k"))) t [] ∙ (λ i. E.output_run given (codes "put") (return_is given (value.Words (codes "k")) i) (is i) []) ∙ layers_come v

-- all nodes' run
abbrev pub shown : List ℕ → (Triple → Entry) → FreshRun
shown v entry = record {
  states = entry_state 0 (λ t. value.Unit) (entry (setting v)) ∷ entry_state 1 (λ t. value.Unit) (entry (setting (codes "v1"))) ∷ [];
  wants = setting v ∷ setting (codes "v1") ∷ [];
  ticks = 6;
}

pub fresh_is : (v : Text) (w : World) → nodes.fresh pipeline (value.Words v.0 ∷ []) w ≡ shown v.0 (entry_of w)
unfolding nodes.fresh
fresh_is v w =
    let is : List Value = value.Words v.0 ∷ [] in
    let none : FreshRun = record { states = []; wants = []; ticks = 0 } in
    let m : Run = eval (given 0 is [] w) (put (term.Input (codes "a"))) [] in
    let n = put_is 1 is (m.state ∷ []) w v1 (term.Return (value.Words (codes "v1"))) (return_is (given 1 is (m.state ∷ []) w) (value.Words (codes "v1"))) in
    let p = put_is 0 is [] w v (term.Input (codes "a")) (input_is (given 0 is [] w) (codes "a")) in
    (λ i. nodes.run_before m (nodes.run_before (n i) none)) ∙ (λ i. nodes.run_before (p i) (nodes.run_before (put_run 1 is [] w (codes "v1")) none))

-- the pipeline with a text
abbrev pub with_text : Text → Evaluated
with_text v = record { program = pipeline; inputs = value.Words v.0 ∷ []; run = shown v.0; is = fresh_is v }

abbrev pub same : Evaluated
same = with_text v1

abbrev pub other : Evaluated
other = with_text v0
