-- A pipeline with a hint, two workers in one pool whose tickets wait a day for their hint's worker, and one node, which builds the input's text.
use Rattle.std.proofs.Common.{◌≡◌, ℕ, Bool, true, false, ◌&&◌, List, [], ◌∷◌, Option, Some, None, map, refl, ap, ◌∙◌}
use Rattle.std.specs.Prelude.{codes, if◌then◌else◌, slice_get}
use Rattle.std.specs.List.{list_all}
use Rattle.std.specs.Option.{option_map}
use Rattle.std.specs.FinMap.{from_entries, get, get-from_entries}
use Rattle.std.specs.FinMap.Entries.{find as find_entry}
use Rattle.value_core.specs.declared.value.Value as V
use denote.Hole.Carrier as C
use Rattle.value_core.specs.declared.value.Value.TheVariants as value
use Rattle.value_core.specs.declared.state.State.TheVariants.{Fine, Failed}
use Rattle.value_core.specs.declared.state.Triple.{Triple}
use Rattle.op_keys.specs.declared.declarations.Expiry.TheVariants.{Never}
use Rattle.op_keys.specs.declared.declarations.OpDecl.{OpDecl}
use Rattle.op_keys.specs.declared.level.Level.TheVariants.{Average}
use Rattle.op_keys.specs.declared.order.Order.{Order}
use Rattle.op_keys.specs.Filling.{filled}
use Rattle.op_keys.specs.Orders.{is_short, order_fits}
use Rattle.term_core.specs.declared.entries.Entry.{Entry}
use Rattle.term_core.specs.declared.program.Program.{Program}
use Rattle.term_core.specs.declared.program.Term.TheVariants as term
use Rattle.term_core.specs.Evaluation.{Context, entry_state, eval, context_of, term_step}
use Rattle.term_core.specs.Evaluation as E
use Rattle.term_core.specs.Fresh.{FreshRun}
use Rattle.term_core.specs.Fresh as nodes
use Rattle.term_core.specs.Runs.{Run, after, stated, visited}
use Rattle.term_core.specs.World.{World, entry_of}
use Rattle.term_core.specs.declared.program.Term.{Term-F}
use Rattle.term_core.proofs.Evaluating.{eval_build_is}
use Rattle.sched_rows.specs.declared.row.Row.{Row}
use Rattle.fair_pool.specs.declared.ticket.Ticket.{Ticket}
use Rattle.fair_pool.specs.Fair.{Fair, cost, is_standing, least, leaves, next_start, takes_none}
use Rattle.fair_pool.specs.Hints.{HintKey, hint_key_cmp, hint_key_total}
use Rattle.fair_pool.specs.Layouts.{Layout, worker_pool}
use Rattle.core_rules.specs.declared.events.What.{What}
use Rattle.core_rules.specs.declared.events.What.TheVariants as what
use Rattle.core_rules.specs.declared.jobs.Job.{Job}
use Rattle.core_rules.specs.Core.{CoreState, layout_of}
use Rattle.core_rules.specs.Openings.{start}
use Rattle.core_rules.specs.Orders.{load, picked, ready}
use Rattle.core_rules.proofs.Leaves.{input_is}
use Rattle.core_rules.proofs.WorkedRuns.{Evaluated, job}

-- ---- the pipeline: one pool with two workers, whose tickets wait a day for their hint's worker

-- its operation
abbrev pub f_op : OpDecl
f_op = record {
  name = codes "f";
  output = false;
  pool = codes "p";
  client = codes "c";
  full = 10;
  cached = 2;
  hint = Some (codes "h");
  urgent = false;
  level = Average;
  expiry = Never;
  latched = false;
  no_cancel = false;
  words = codes "t" ∷ codes "{key}" ∷ [];
}

-- the pipeline
abbrev pub pipeline : Program
pipeline = record {
  version = 1;
  inputs = record { name = codes "x"; value = value.Words (codes "1"); watch = None } ∷ [];
  pools = record { name = codes "p"; hold = 86400000 } ∷ [];
  clients = record { name = codes "c"; pool = codes "p"; rate = 1 } ∷ [];
  workers = record { name = codes "w1"; pool = codes "p"; capacity = 1 } ∷ record { name = codes "w2"; pool = codes "p"; capacity = 1 } ∷ [];
  ops = f_op ∷ [];
  nodes = record { name = codes "n"; term = term.Build (codes "f") (term.Input (codes "x")) } ∷ [];
}

-- ---- what its states are made of

-- the build of a text
abbrev pub building : List ℕ → Triple
building key = record { op = 0; key = key; value = [] }

-- a job for it that no worker has taken
abbrev pub queued : ℕ → List ℕ → Job
queued n key = job n (building key)

-- one that a worker runs
abbrev pub running : ℕ → ℕ → List ℕ → Job
running w n key = record (queued n key) { worker = Some w }

-- the row of a fine one
abbrev pub row_left : ℕ → List ℕ → List ℕ → Row
row_left job key result = record { op = codes "f"; key = key; value = []; fine = true; result = result; finished = 0; job = job; rebuild = false }

-- a worker is asked to build a text
abbrev pub order : ℕ → ℕ → List ℕ → Order
order w job key = record { job = job; worker = w; op = 0; key = key; value = []; words = codes "t" ∷ key ∷ [] }

-- the input is set to a text
abbrev pub set : List ℕ → What
set t = what.SetInput (codes "x") (value.Words t)

-- the ticket of a job
abbrev pub ticket : ℕ → ℕ → Ticket
ticket job start = record { job = job; pool = 0; urgent = false; hint = Some (codes "h"); start = start; created = 0 }

-- the hint of all jobs
abbrev pub the_hint : HintKey
the_hint = record { pool = 0; hint = codes "h" }

-- the workers that had the hint, the last one first
abbrev pub had_by : List ℕ → List (HintKey × ℕ)
had_by ws = map (λ w. (the_hint, w)) ws

-- these tickets, the client's next start, who is paused, and who had the hint
abbrev pub pool : List Ticket → ℕ → List Bool → List ℕ → Fair
pool ks next paused ws = record { tickets = ks; next = next ∷ []; rates = 1 ∷ []; paused = paused; hints = from_entries (had_by ws) }

-- ---- what the node comes to

-- a text that is short enough for the order's words
abbrev pub Key : Type 0
Key = (k : List ℕ) × (list_all is_short (map (filled k []) (codes "t" ∷ codes "{key}" ∷ [])) ≡ true)

module _ (key : Key) (w : World) where
  abbrev k : List ℕ
  k = key.0

  abbrev given : Context
  given = context_of pipeline 0 (value.Words k ∷ []) [] w

  abbrev node_run : Run
  node_run = record { state = entry_state 0 value.Words (entry_of w (building k)); wants = building k ∷ []; ticks = 2 }

  -- a run behind that of the input
  abbrev behind : Run → Run
  behind r = visited (after (visited (stated (Fine (value.Words k)))) (λ s. s) r)

  layers_come : E.build_run given (codes "f") (term_step given (Term-F.Input (codes "x"))) [] ≡ node_run
  unfolding E.build_run E.looked_up order_fits V.out-Value C.out
  layers_come = ap (λ b. behind (if b then E.wanted given value.Words (building k) else stated (Failed 0 (codes "order too long")))) key.1

  run_is : eval given (term.Build (codes "f") (term.Input (codes "x"))) [] ≡ node_run
  run_is = eval_build_is given (codes "f") (term.Input (codes "x")) [] ∙ (λ i. E.build_run given (codes "f") (input_is given (codes "x") i) []) ∙ layers_come

-- all nodes' run
abbrev pub shown : List ℕ → (Triple → Entry) → FreshRun
shown k entry = record { states = entry_state 0 value.Words (entry (building k)) ∷ []; wants = building k ∷ []; ticks = 2 }

pub fresh_is : (key : Key) (w : World) → nodes.fresh pipeline (value.Words key.0 ∷ []) w ≡ shown key.0 (entry_of w)
unfolding nodes.fresh
fresh_is key w = ap (λ (r : Run). nodes.run_before r (record { states = []; wants = []; ticks = 0 })) (run_is key w)

-- the pipeline with a text
abbrev pub with_text : Key → Evaluated
with_text key = record { program = pipeline; inputs = value.Words key.0 ∷ []; run = shown key.0; is = fresh_is key }

abbrev pub text_1 : Evaluated
text_1 = with_text (codes "1", refl)

abbrev pub text_2 : Evaluated
text_2 = with_text (codes "2", refl)

abbrev pub text_3 : Evaluated
text_3 = with_text (codes "3", refl)

abbrev pub text_4 : Evaluated
text_4 = with_text (codes "4", refl)

-- ---- by who had the hint last

had_last : (ws : List ℕ) → get (from_entries {R = hint_key_cmp} (had_by ws)) the_hint ≡ find_entry hint_key_cmp the_hint (had_by ws)
had_last ws = get-from_entries hint_key_total (had_by ws) the_hint

-- the client's next start after a ticket
pub costed : (s : CoreState) (start : ℕ) (ws : List ℕ) →
    Some (record s { fair = record s.fair { next = next_start start (cost f_op (get (from_entries {R = hint_key_cmp} (had_by ws)) the_hint)) 1 ∷ [] } })
    ≡ Some (record s { fair = record s.fair { next = next_start start (cost f_op (find_entry hint_key_cmp the_hint (had_by ws))) 1 ∷ [] } })
costed s start ws = ap (λ o. Some (record s { fair = record s.fair { next = next_start start (cost f_op o) 1 ∷ [] } })) (had_last ws)

-- with one ticket, and the hint had by some workers
abbrev waiting : CoreState → Ticket → List ℕ → CoreState
waiting s t ws = record s { program = pipeline; fair = record s.fair { tickets = t ∷ []; hints = from_entries (had_by ws) } }

-- the only ticket's job, where the worker may take it
abbrev pick_by : CoreState → Ticket → ℕ → Option ℕ → Option ℕ
pick_by s t w o =
    let l : Layout = layout_of s.program in
    if takes_none l s.fair (load s.jobs) w then None
    else option_map (λ k. k.job) (least (if is_standing (ready s) (worker_pool l (slice_get l.workers w)) t && leaves l s.fair (load s.jobs) s.now w t o then t ∷ [] else []))

pub picks : (s : CoreState) (job start : ℕ) (ws : List ℕ) (w : ℕ) →
    picked (waiting s (ticket job start) ws) w ≡ pick_by (waiting s (ticket job start) ws) (ticket job start) w (find_entry hint_key_cmp the_hint (had_by ws))
picks s job start ws w = ap (pick_by (waiting s (ticket job start) ws) (ticket job start) w) (had_last ws)
