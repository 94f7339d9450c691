-- A pipeline with one input, one operation and one node, which builds the input's text: what its states are made of, and what its node comes to.
use Rattle.std.proofs.Common.{◌≡◌, ℕ, ◌+◌, Bool, true, false, List, [], ◌∷◌, Option, Some, None, map, refl, ap, ◌∙◌}
use Rattle.std.specs.Prelude.{codes, if◌then◌else◌}
use Rattle.std.specs.FinMap.{empty}
use Rattle.value_core.specs.declared.value.Value as V
use denote.Hole.Carrier as C
use Rattle.value_core.specs.declared.value.Value.TheVariants as value
use Rattle.value_core.specs.declared.state.State.TheVariants.{Fine, Failed}
use Rattle.value_core.specs.declared.state.Triple.{Triple}
use Rattle.value_core.specs.Printed.{printed}
use Rattle.op_keys.specs.declared.declarations.Expiry.{Expiry}
use Rattle.op_keys.specs.declared.declarations.Expiry.TheVariants.{Never}
use Rattle.op_keys.specs.declared.declarations.OpDecl.{OpDecl}
use Rattle.op_keys.specs.declared.level.Level.{Level}
use Rattle.op_keys.specs.declared.level.Level.TheVariants.{Average}
use Rattle.op_keys.specs.declared.order.Order.{Order}
use Rattle.op_keys.specs.Filling.{filled}
use Rattle.op_keys.specs.Orders.{is_short, order_fits}
use Rattle.std.specs.List.{list_all}
use Rattle.term_core.specs.declared.entries.Entry.{Entry}
use Rattle.term_core.specs.declared.program.Program.{Program}
use Rattle.term_core.specs.declared.program.Term.{Term, Term-F}
use Rattle.term_core.specs.declared.program.Term.TheVariants as term
use Rattle.term_core.specs.Evaluation.{Context, context_of, entry_state, term_step, eval}
use Rattle.term_core.specs.Evaluation as E
use Rattle.term_core.specs.Fresh.{FreshRun}
use Rattle.term_core.specs.Fresh as nodes
use Rattle.term_core.specs.Runs.{Run, stated, visited, after}
use Rattle.term_core.specs.World.{World, entry_of}
use Rattle.term_core.proofs.Evaluating.{eval_bind_is, eval_build_is}
use Rattle.sched_rows.specs.declared.row.Row.{Row}
use Rattle.fair_pool.specs.declared.ticket.Ticket.{Ticket}
use Rattle.fair_pool.specs.Fair.{Fair}
use Rattle.core_rules.specs.declared.events.What.{What}
use Rattle.core_rules.specs.declared.events.What.TheVariants as what
use Rattle.core_rules.specs.declared.jobs.Job.{Job}
use Rattle.core_rules.specs.Core.{CoreState}
use Rattle.core_rules.specs.Openings.{start}
use Rattle.core_rules.specs.declared.done.Delta.{Delta}
use Rattle.core_rules.specs.Replies.{next_alone}
use Rattle.core_rules.proofs.Leaves.{input_is, var_is}
use Rattle.core_rules.proofs.WorkedRuns.{Evaluated, job}

-- ---- the pipeline

-- its operation, whose rows run out so, and are latched or not
abbrev pub test_op : Expiry → Bool → OpDecl
test_op expiry latched = record {
  name = codes "test";
  output = false;
  pool = codes "p";
  client = codes "c";
  full = 1;
  cached = 0;
  hint = None;
  urgent = false;
  level = Average;
  expiry = expiry;
  latched = latched;
  no_cancel = false;
  words = codes "t" ∷ codes "{key}" ∷ [];
}

-- its node's term
abbrev pub build_input : Term
build_input = term.Bind (codes "b") (term.Input (codes "br")) (term.Build (codes "test") (term.Var (codes "b")))

-- the pipeline with that operation
abbrev pub pipeline_with : Expiry → Bool → Program
pipeline_with expiry latched = record {
  version = 1;
  inputs = record { name = codes "br"; value = value.Words (codes "x"); watch = None } ∷ [];
  pools = record { name = codes "p"; hold = 0 } ∷ [];
  clients = record { name = codes "c"; pool = codes "p"; rate = 1 } ∷ [];
  workers = record { name = codes "w"; pool = codes "p"; capacity = 1 } ∷ [];
  ops = test_op expiry latched ∷ [];
  nodes = record { name = codes "r"; term = build_input } ∷ [];
}

-- rows that never run out, and aren't latched
abbrev pub pipeline : Program
pipeline = pipeline_with Never false

-- ---- what its states are made of

-- the build of a text
abbrev pub testing : List ℕ → Triple
testing key = record { op = 0; key = key; value = [] }

-- a job for it that no worker has taken
abbrev pub queued : ℕ → List ℕ → Job
queued n key = job n (testing key)

-- one that the worker runs
abbrev pub running : ℕ → List ℕ → Job
running n key = record (queued n key) { worker = Some 0 }

-- the ticket of a job
abbrev pub ticket : ℕ → ℕ → ℕ → Ticket
ticket job start created = record { job = job; pool = 0; urgent = false; hint = None; start = start; created = created }

-- these tickets, and the client's next start
abbrev pub tickets : List Ticket → ℕ → Fair
tickets ks next = record { tickets = ks; next = next ∷ []; rates = 1 ∷ []; paused = false ∷ []; hints = empty }

-- a row with a result or a message
abbrev pub row_left : ℕ → List ℕ → Bool → List ℕ → ℕ → Row
row_left job key fine result finished = record { op = codes "test"; key = key; value = []; fine = fine; result = result; finished = finished; job = job; rebuild = false }

-- ---- events and replies

-- the input is set to a text
abbrev pub set : List ℕ → What
set t = what.SetInput (codes "br") (value.Words t)

-- the worker is asked to build a text
abbrev pub order : ℕ → List ℕ → Order
order job key = record { job = job; worker = 0; op = 0; key = key; value = []; words = codes "t" ∷ key ∷ [] }

-- the input's text is stored
abbrev pub text_stored : ℕ → List ℕ → Delta
text_stored next t = record (next_alone next) { input = Some (codes "br", printed (value.Words t)) }

-- ---- what the node comes to, where the words for the text are short enough

-- a text for which they are
abbrev pub Key : Type 0
Key = (k : List ℕ) × (list_all is_short (map (filled k []) (codes "t" ∷ codes "{key}" ∷ [])) ≡ true)

abbrev pub text_x : Key
text_x = (codes "x", refl)

abbrev pub text_y : Key
text_y = (codes "y", refl)

-- all nodes' run
abbrev pub shown : List ℕ → (Triple → Entry) → FreshRun
shown k entry = record { states = entry_state 0 value.Words (entry (testing k)) ∷ []; wants = testing k ∷ []; ticks = 4 }

module _ (expiry : Expiry) (latched : Bool) where
  module _ (key : Key) (w : World) where
    abbrev k : List ℕ
    k = key.0

    abbrev given : Context
    given = context_of (pipeline_with expiry latched) 0 (value.Words k ∷ []) [] w

    abbrev node_run : Run
    node_run = record { state = entry_state 0 value.Words (entry_of w (testing k)); wants = testing k ∷ []; ticks = 4 }

    body_is : eval given (term.Build (codes "test") (term.Var (codes "b"))) ≡ E.build_run given (codes "test") (term_step given (Term-F.Var (codes "b")))
    body_is = (λ i bound. eval_build_is given (codes "test") (term.Var (codes "b")) bound i) ∙ ap (E.build_run given (codes "test")) (var_is given (codes "b"))

    -- a run behind those of the input and of the name bound to it
    abbrev behind : Run → Run
    behind r = visited (after (visited (stated (Fine (value.Words k)))) (λ s. s) (visited (after (visited (stated (Fine (value.Words k)))) (λ s. s) r)))

    layers_come : E.bind_run (codes "b") (term_step given (Term-F.Input (codes "br"))) (E.build_run given (codes "test") (term_step given (Term-F.Var (codes "b")))) [] ≡ node_run
    unfolding E.bind_run E.build_run E.looked_up order_fits V.out-Value C.out
    layers_come = ap (λ b. behind (if b then E.wanted given value.Words (testing k) else stated (Failed 0 (codes "order too long")))) key.1

    run_is : eval given build_input [] ≡ node_run
    run_is = eval_bind_is given (codes "b") (term.Input (codes "br")) (term.Build (codes "test") (term.Var (codes "b"))) [] ∙ (λ i. E.bind_run (codes "b") (input_is given (codes "br") i) (body_is i) []) ∙ layers_come

    pub fresh_is : nodes.fresh (pipeline_with expiry latched) (value.Words k ∷ []) w ≡ shown k (entry_of w)
    unfolding nodes.fresh
    fresh_is = ap (λ (r : Run). nodes.run_before r (record { states = []; wants = []; ticks = 0 })) run_is

  -- the pipeline with a text
  abbrev pub with_text : Key → Evaluated
  with_text key = record { program = pipeline_with expiry latched; inputs = value.Words key.0 ∷ []; run = shown key.0; is = fresh_is key }

  -- after the opening: the build of the input's text has a job
  abbrev pub first : Option Level → ℕ → CoreState
  first threshold now = record {
    program = pipeline_with expiry latched;
    threshold = threshold;
    now = now;
    version = 1;
    inputs = value.Words (codes "x") ∷ [];
    rows = empty;
    next = 2;
    jobs = queued 1 (codes "x") ∷ [];
    fair = tickets (ticket 1 now now ∷ []) (now + 1000);
  }

-- ---- where rows never run out and aren't latched

abbrev pub x : Evaluated
x = with_text Never false text_x

abbrev pub y : Evaluated
y = with_text Never false text_y
