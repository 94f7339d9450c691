-- A worked run without operations: an input's text, and a pair of it and a number. States are named by their versions.
use Rattle.std.proofs.Common.{◌≡◌, ℕ, ◌+◌, Bool, false, List, [], ◌∷◌, Some, None, length, refl, sym, ap, ◌∙◌, arith}
use Rattle.std.specs.Prelude.{codes, if◌then◌else◌, nat_lt, slice_index}
use Rattle.std.specs.FinMap.{empty}
use Rattle.value_core.specs.declared.value.Value.{Value, Value-F, out-Value, out-roll-Value, fold-roll-Value}
use Rattle.value_core.specs.declared.value.Value as V
use denote.Hole.Carrier as C
use Rattle.value_core.specs.declared.value.Value.TheVariants as value
use Rattle.value_core.specs.declared.value.Outcome.{Outcome}
use Rattle.value_core.specs.declared.state.State.{State}
use Rattle.value_core.specs.declared.state.State.TheVariants.{Fine, Failed}
use Rattle.value_core.specs.Parts.{text_in}
use Rattle.value_core.specs.Printed.{printed}
use Rattle.value_core.specs.Values.{outcome_weight_step, weight_of, weight_step}
use Rattle.term_core.specs.declared.program.Program.{Program}
use Rattle.term_core.specs.declared.program.Term.{Term-F, fold-roll-Term}
use Rattle.term_core.specs.declared.program.Term.TheVariants as term
use Rattle.term_core.specs.Evaluation.{Context, Meaning, eval, context_of, term_step}
use Rattle.term_core.specs.Evaluation as E
use Rattle.term_core.specs.Fresh.{FreshRun}
use Rattle.term_core.specs.Fresh as nodes
use Rattle.term_core.specs.Runs.{Run, stated, visited}
use Rattle.term_core.specs.World.{World}
use Rattle.term_core.proofs.Evaluating.{eval_pair_is}
use Rattle.core_rules.specs.declared.events.What.{What}
use Rattle.core_rules.specs.declared.events.What.TheVariants as what
use Rattle.core_rules.specs.Core.{CoreState}
use Rattle.core_rules.specs.Openings.{start}
use Rattle.core_rules.specs.declared.done.Done.{Done}
use Rattle.core_rules.specs.declared.done.Delta.{Delta}
use Rattle.core_rules.specs.Replies.{changed_from, next_alone}
use Rattle.core_rules.specs.Steps.{Accepted, step}
use Rattle.core_rules.proofs.Leaves.{input_is, return_is}
use Rattle.core_rules.proofs.ReplyParts.{sets}
use Rattle.core_rules.proofs.WorkedRuns.{Evaluated, answered, at, nothing_stored, opens, quiet}
use Rattle.session_rules.proofs.Builds.{changed_other, texts_differ}
use Rattle.value_core.proofs.Layers.{num_weight, words_weight}

-- ---- the pipeline

abbrev pub pipeline : Program
pipeline = record {
  version = 1;
  inputs = record { name = codes "head"; value = value.Words (codes "a"); watch = None } ∷ [];
  pools = [];
  clients = [];
  workers = [];
  ops = [];
  nodes = record { name = codes "tip"; term = term.Input (codes "head") } ∷ record { name = codes "both"; term = term.Pair (term.Node (codes "tip")) (term.Return (value.Num 7)) } ∷ [];
}

-- ---- what its nodes come to

-- a text and the number
abbrev pub paired : List ℕ → Value
paired t = value.Pair (value.Words t) (value.Num 7)

paired_weight : (t : List ℕ) → weight_of (paired t) ≡ 1 + ((length t + 1) + 1)
paired_weight t = ap weight_of (sym (value.rolls-Pair (value.Words t) (value.Num 7))) ∙ fold-roll-Value ℕ ℕ outcome_weight_step weight_step (Value-F.Pair (value.Words t) (value.Num 7))
    ∙ (λ i. 1 + (words_weight t i + num_weight 7 i))

-- a text that is light enough
abbrev pub Text : Type 0
Text = (t : List ℕ) × (nat_lt 1048576 (1 + ((length t + 1) + 1)) ≡ false)

-- the state of the pair, by whether it weighs too much
abbrev pair_state : List ℕ → Bool → State
pair_state t heavy = if heavy then Failed 1 (codes "value too large") else Fine (paired t)

module _ (t : Text) (w : World) where
  abbrev inputs : List Value
  inputs = value.Words t.0 ∷ []

  abbrev tip_run : Run
  tip_run = visited (stated (Fine (value.Words t.0)))

  abbrev given : Context
  given = context_of pipeline 1 inputs (Fine (value.Words t.0) ∷ []) w

  node_is : eval given (term.Node (codes "tip")) ≡ term_step given (Term-F.Node (codes "tip"))
  node_is = ap (eval given) (sym (term.rolls-Node (codes "tip"))) ∙ fold-roll-Term Meaning (term_step given) (Term-F.Node (codes "tip"))

  both_is : eval given (term.Pair (term.Node (codes "tip")) (term.Return (value.Num 7))) [] ≡ record { state = Fine (paired t.0); wants = []; ticks = 3 }
  unfolding E.pair_run
  both_is = eval_pair_is given (term.Node (codes "tip")) (term.Return (value.Num 7)) []
      ∙ (λ i. E.pair_run given (node_is i) (return_is given (value.Num 7) i) [])
      ∙ ap (λ (b : Bool). record { state = pair_state t.0 b; wants = []; ticks = 3 }) (ap (nat_lt 1048576) (paired_weight t.0) ∙ t.1)

  pub fresh_is : nodes.fresh pipeline inputs w ≡ record { states = Fine (value.Words t.0) ∷ Fine (paired t.0) ∷ []; wants = []; ticks = 4 }
  unfolding nodes.fresh
  fresh_is =
      let none : FreshRun = record { states = []; wants = []; ticks = 0 } in
      let after : Run → FreshRun = λ r. nodes.run_before r (nodes.run_before (eval (context_of pipeline 1 inputs (r.state ∷ []) w) (term.Pair (term.Node (codes "tip")) (term.Return (value.Num 7))) []) none) in
      ap (λ m. after (m [])) (input_is (context_of pipeline 0 inputs [] w) (codes "head")) ∙ ap (λ r. nodes.run_before tip_run (nodes.run_before r none)) both_is

-- the pipeline with a text
abbrev pub with_text : Text → Evaluated
with_text t = record { program = pipeline; inputs = value.Words t.0 ∷ []; run = λ entry. record { states = Fine (value.Words t.0) ∷ Fine (paired t.0) ∷ []; wants = []; ticks = 4 }; is = fresh_is t }

abbrev pub a : Evaluated
a = with_text (codes "a", refl)

abbrev pub b : Evaluated
b = with_text (codes "b", refl)

abbrev pub c_d : Evaluated
c_d = with_text (codes "c d", refl)

-- ---- versions

-- a version with a text
abbrev pub version : ℕ → List ℕ → CoreState
version n t = record {
  program = pipeline;
  threshold = None;
  now = 0;
  version = n;
  inputs = value.Words t ∷ [];
  rows = empty;
  next = 1;
  jobs = [];
  fair = record { tickets = []; next = []; rates = []; paused = []; hints = empty };
}

pub opening : start pipeline nothing_stored None 0 ≡ Some (version 1 (codes "a"))
opening = opens a None 0 refl refl

-- the input is set to a text
abbrev pub set : List ℕ → What
set t = what.SetInput (codes "head") (value.Words t)

-- which is stored
abbrev pub stored : List ℕ → Delta
stored t = record (next_alone 1) { input = Some (codes "head", printed (value.Words t)) }

-- and both nodes change
abbrev pub setting : ℕ → List ℕ → Done
setting n t = record (quiet n 1) { changed = (0, Fine (value.Words t)) ∷ (1, Fine (paired t)) ∷ []; delta = stored t }

-- the text of a pair
abbrev first_in : Value-F Outcome Value → List ℕ
first_in (Value-F.Pair x y) = text_in x
first_in v = []

abbrev first_text : State → List ℕ
first_text (Fine v) = first_in (out-Value v)
first_text s = []

out_pair : (t : List ℕ) → out-Value (paired t) ≡ Value-F.Pair (value.Words t) (value.Num 7)
out_pair t = ap out-Value (sym (value.rolls-Pair (value.Words t) (value.Num 7))) ∙ out-roll-Value (Value-F.Pair (value.Words t) (value.Num 7))

text_is : (t : List ℕ) → text_in (value.Words t) ≡ t
unfolding V.out-Value C.out
text_is t = refl

first_is : (t : List ℕ) → first_text (Fine (paired t)) ≡ t
first_is t = ap first_in (out_pair t) ∙ text_is t

pairs_differ : (t u : List ℕ) → (t ≡ u → ⊥) → Fine (paired t) ≡ Fine (paired u) → ⊥
pairs_differ t u h e = h (sym (first_is t) ∙ ap first_text e ∙ first_is u)

both_change : (t u : List ℕ) → (t ≡ u → ⊥) → changed_from 0 (Fine (value.Words t) ∷ Fine (paired t) ∷ []) (Fine (value.Words u) ∷ Fine (paired u) ∷ []) ≡ (0, Fine (value.Words u)) ∷ (1, Fine (paired u)) ∷ []
both_change t u h =
    changed_other 0 (Fine (value.Words t)) (Fine (value.Words u)) (Fine (paired t) ∷ []) (Fine (paired u) ∷ []) (texts_differ t u h)
    ∙ ap (λ later. (0, Fine (value.Words u)) ∷ later) (changed_other 1 (Fine (paired t)) (Fine (paired u)) [] [] (pairs_differ t u h))

pub sets_b : step (version 1 (codes "a")) (at 0 (set (codes "b"))) ≡ Accepted (version 2 (codes "b")) (setting 2 (codes "b"))
sets_b = answered a [] (version 1 (codes "a")) b [] _ (sets (codes "head") (codes "a") (codes "b")) refl refl refl refl (both_change (codes "a") (codes "b") (λ e. omega (arith, ap (λ t. slice_index t 0) e)))

pub sets_c_d : step (version 2 (codes "b")) (at 0 (set (codes "c d"))) ≡ Accepted (version 3 (codes "c d")) (setting 3 (codes "c d"))
sets_c_d = answered b [] (version 2 (codes "b")) c_d [] _ (sets (codes "head") (codes "a") (codes "c d")) refl refl refl refl (both_change (codes "b") (codes "c d") (λ e. omega (arith, ap (λ t. slice_index t 0) e)))
