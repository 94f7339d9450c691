-- A pipeline with one output operation and two nodes, which set one key to the texts of two inputs.
use Rattle.std.proofs.Common.{◌≡◌, ℕ, List, [], ◌∷◌, None, refl, ap, ◌∙◌}
use Rattle.std.specs.Prelude.{codes, if◌then◌else◌}
use Rattle.value_core.specs.declared.value.Value.{Value}
use Rattle.value_core.specs.declared.value.Value as V
use denote.Hole.Carrier as C
use Rattle.value_core.specs.declared.value.Value.TheVariants as value
use Rattle.value_core.specs.declared.state.State.{State}
use Rattle.value_core.specs.declared.state.State.TheVariants.{Fine, Failed}
use Rattle.value_core.specs.declared.state.Triple.{Triple}
use Rattle.op_keys.specs.Orders.{order_fits}
use Rattle.term_core.specs.declared.entries.Entry.{Entry}
use Rattle.term_core.specs.declared.program.Program.{Program}
use Rattle.term_core.specs.declared.program.Term.{Term}
use Rattle.term_core.specs.declared.program.Term.TheVariants as term
use Rattle.term_core.specs.Evaluation.{Context, Meaning, entry_state, eval, context_of}
use Rattle.term_core.specs.Evaluation as E
use Rattle.term_core.specs.Fresh.{FreshRun}
use Rattle.term_core.specs.Fresh as nodes
use Rattle.term_core.specs.Runs.{Run, after, stated, visited}
use Rattle.term_core.specs.World.{World, entry_of}
use Rattle.term_core.proofs.Evaluating.{eval_output_is}
use Rattle.core_rules.proofs.Leaves.{input_is, return_is}
use Rattle.core_rules.proofs.SharedKey.{Text, put, put_op, setting, v1}
use Rattle.core_rules.proofs.WorkedRuns.{Evaluated}

-- another text that is short enough for the order's words
abbrev pub v2 : Text
v2 = (codes "v2", refl)

-- a node for each input
abbrev pub pipeline : Program
pipeline = record {
  version = 1;
  inputs = record { name = codes "a"; value = value.Words (codes "v1"); watch = None } ∷ record { name = codes "b"; value = value.Words (codes "v2"); watch = None } ∷ [];
  pools = record { name = codes "p"; hold = 0 } ∷ [];
  clients = record { name = codes "c"; pool = codes "p"; rate = 1 } ∷ [];
  workers = record { name = codes "w"; pool = codes "p"; capacity = 1 } ∷ [];
  ops = put_op ∷ [];
  nodes = record { name = codes "m"; term = put (term.Input (codes "a")) } ∷ record { name = codes "n"; term = put (term.Input (codes "b")) } ∷ [];
}

-- a text alone
abbrev lone : List ℕ → Run
lone v = visited (stated (Fine (value.Words v)))

module _ (node : ℕ) (inputs : List Value) (earlier : List State) (w : World) where
  abbrev given : Context
  given = context_of pipeline node inputs earlier w

  abbrev put_run : List ℕ → Run
  put_run v = record { state = entry_state node (λ t. value.Unit) (entry_of w (setting v)); wants = setting v ∷ []; ticks = 3 }

  -- a run after those of the key and of a text
  abbrev behind : List ℕ → Run → Run
  behind v r = visited (after (lone (codes "k")) (λ s. s) (after (lone v) (λ s. s) r))

  layers_come : (v : Text) → E.output_run given (codes "put") (λ bound. lone (codes "k")) (λ bound. lone v.0) [] ≡ put_run v.0
  unfolding E.output_run E.looked_up order_fits V.out-Value C.out
  layers_come v = ap (λ b. behind v.0 (if b then E.wanted given (λ t. value.Unit) (setting v.0) else stated (Failed node (codes "order too long")))) v.1

  put_is : (v : Text) (t : Term) → eval given t ≡ (λ bound. lone v.0) → eval given (put t) [] ≡ put_run v.0
  put_is v t is = eval_output_is given (codes "put") (term.Return (value.Words (codes "k"))) t [] ∙ (λ i. E.output_run given (codes "put") (return_is given (value.Words (codes "k")) i) (is i) []) ∙ layers_come v

-- all nodes' run
abbrev pub shown : List ℕ → List ℕ → (Triple → Entry) → FreshRun
shown u v entry = record {
  states = entry_state 0 (λ t. value.Unit) (entry (setting u)) ∷ entry_state 1 (λ t. value.Unit) (entry (setting v)) ∷ [];
  wants = setting u ∷ setting v ∷ [];
  ticks = 6;
}

pub fresh_is : (u v : Text) (w : World) → nodes.fresh pipeline (value.Words u.0 ∷ value.Words v.0 ∷ []) w ≡ shown u.0 v.0 (entry_of w)
unfolding nodes.fresh
fresh_is u v w =
    let is : List Value = value.Words u.0 ∷ value.Words v.0 ∷ [] in
    let none : FreshRun = record { states = []; wants = []; ticks = 0 } in
    let m : Run = eval (given 0 is [] w) (put (term.Input (codes "a"))) [] in
    let n = put_is 1 is (m.state ∷ []) w v (term.Input (codes "b")) (input_is (given 1 is (m.state ∷ []) w) (codes "b")) in
    let p = put_is 0 is [] w u (term.Input (codes "a")) (input_is (given 0 is [] w) (codes "a")) in
    (λ i. nodes.run_before m (nodes.run_before (n i) none)) ∙ (λ i. nodes.run_before (p i) (nodes.run_before (put_run 1 is [] w v.0) none))

-- the pipeline with two texts
abbrev pub with_texts : Text → Text → Evaluated
with_texts u v = record { program = pipeline; inputs = value.Words u.0 ∷ value.Words v.0 ∷ []; run = shown u.0 v.0; is = fresh_is u v }

abbrev pub apart : Evaluated
apart = with_texts v1 v2

abbrev pub alike : Evaluated
alike = with_texts v2 v2
