-- Pipelines whose nodes build keys that are written out: what their nodes come to, and which of them changed.
use Rattle.std.proofs.Common.{◌≡◌, ℕ, ◌+◌, Bool, true, false, List, [], ◌∷◌, ◌++◌, map, refl, ap, ◌∙◌}
use Rattle.std.specs.Prelude.{codes, if◌then◌else◌}
use Rattle.value_core.specs.declared.value.Value.{Value}
use Rattle.value_core.specs.declared.value.Value as V
use denote.Hole.Carrier as C
use Rattle.value_core.specs.declared.value.Value.TheVariants as value
use Rattle.value_core.specs.declared.state.State.{State}
use Rattle.value_core.specs.declared.state.State.TheVariants.{Fine, Failed}
use Rattle.value_core.specs.declared.state.Triple.{Triple}
use Rattle.value_core.specs.Codes.{state_code}
use Rattle.value_core.specs.Parts.{text_in}
use Rattle.value_core.specs.Same.{same}
use Rattle.value_core.proofs.Sames.{same_refl, same_true}
use Rattle.term_core.specs.declared.entries.Entry.{Entry}
use Rattle.term_core.specs.declared.program.NodeDecl.{NodeDecl}
use Rattle.term_core.specs.declared.program.Program.{Program}
use Rattle.term_core.specs.declared.program.Term.{Term}
use Rattle.term_core.specs.declared.program.Term.TheVariants as term
use Rattle.term_core.specs.Evaluation.{Context, entry_state, eval, fits, context_of, triple_of}
use Rattle.std.specs.Prelude.{slice_get}
use Rattle.term_core.specs.Evaluation as E
use Rattle.term_core.specs.Fresh.{FreshRun, fresh_from, run_before}
use Rattle.term_core.specs.Runs.{Run, after, stated, visited}
use Rattle.term_core.specs.World.{World, entry_of}
use Rattle.term_core.proofs.Evaluating.{eval_build_is}
use Rattle.core_rules.specs.Replies.{changed_from}
use Rattle.core_rules.proofs.Leaves.{return_is}

-- ---- what a node comes to

-- the run of a build
abbrev pub built_run : ℕ → Triple → (Triple → Entry) → Run
built_run node t entry = record { state = entry_state node value.Words (entry t); wants = t ∷ []; ticks = 2 }

-- a build of a key that is written out
abbrev pub build_of : List ℕ → List ℕ → Term
build_of op key = term.Build op (term.Return (value.Words key))

module _ (given : Context) (op key : List ℕ) where
  -- a run after that of the key
  abbrev preceded : Run → Run
  preceded r = visited (after (visited (stated (Fine (value.Words key)))) (λ s. s) r)

  abbrev triple : Triple
  triple = triple_of given op key []

  layers_come : fits (slice_get given.program.ops triple.op) triple ≡ true → E.build_run given op (λ bound. visited (stated (Fine (value.Words key)))) [] ≡ built_run given.node triple (entry_of given.world)
  unfolding E.build_run E.looked_up V.out-Value C.out
  layers_come short = ap (λ (b : Bool). preceded (if b then E.wanted given value.Words triple else stated (Failed given.node (codes "order too long")))) short

  pub build_is : fits (slice_get given.program.ops triple.op) triple ≡ true → eval given (build_of op key) [] ≡ built_run given.node triple (entry_of given.world)
  build_is short = eval_build_is given op (term.Return (value.Words key)) [] ∙ ap (λ m. E.build_run given op m []) (return_is given (value.Words key)) ∙ layers_come short

-- ---- what all nodes come to

module _ (program : Program) (inputs : List Value) where
  -- a node, and what it wants
  pub record Built : Type 0 where
    pub decl : NodeDecl
    pub triple : Triple
    pub is : (at : ℕ) (earlier : List State) (w : World) → eval (context_of program at inputs earlier w) decl.term [] ≡ built_run at triple (entry_of w)

  -- the runs of some nodes, whose numbers go from one on
  abbrev pub runs_from : ℕ → List Built → (Triple → Entry) → FreshRun
  runs_from at [] entry = record { states = []; wants = []; ticks = 0 }
  runs_from at (b ∷ bs) entry = run_before (built_run at b.triple entry) (runs_from (at + 1) bs entry)

  pub builds_are : (w : World) (at : ℕ) (earlier : List State) (bs : List Built) → fresh_from program inputs w at earlier (map (λ b. b.decl) bs) ≡ runs_from at bs (entry_of w)
  builds_are w at earlier [] = refl
  builds_are w at earlier (b ∷ bs) =
      let r : Run = eval (context_of program at inputs earlier w) b.decl.term [] in
      ap (run_before r) (builds_are w (at + 1) (earlier ++ r.state ∷ []) bs) ∙ ap (λ q. run_before q (runs_from (at + 1) bs (entry_of w))) (b.is at earlier w)

-- ---- which nodes changed

-- a node with the same state
pub changed_same : (at : ℕ) (s : State) (olds news : List State) → changed_from at (s ∷ olds) (s ∷ news) ≡ changed_from (at + 1) olds news
changed_same at s olds news = ap (λ (b : Bool). if b then changed_from (at + 1) olds news else ((at, s) ∷ changed_from (at + 1) olds news)) (same_refl state_code s)

-- a node with another state
pub changed_other : (at : ℕ) (s t : State) (olds news : List State) → (s ≡ t → ⊥) → changed_from at (s ∷ olds) (t ∷ news) ≡ (at, t) ∷ changed_from (at + 1) olds news
changed_other at s t olds news other =
    elim (same state_code s t) as (λ (b : Bool). same state_code s t ≡ b → (if b then changed_from (at + 1) olds news else ((at, t) ∷ changed_from (at + 1) olds news)) ≡ (at, t) ∷ changed_from (at + 1) olds news)
    [ true ↦ λ e. absurd (other (same_true state_code s t e)) | false ↦ λ e. refl ] refl

-- the text of a state
abbrev pub text_shown : State → List ℕ
text_shown (Fine v) = text_in v
text_shown s = []

-- two texts that differ are two states
pub texts_differ : (t u : List ℕ) → (t ≡ u → ⊥) → Fine (value.Words t) ≡ Fine (value.Words u) → ⊥
unfolding V.out-Value C.out
texts_differ t u h e = h (ap text_shown e)
