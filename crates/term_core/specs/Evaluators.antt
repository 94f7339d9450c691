-- What evaluating a term does to the evaluator.
use Rattle.std.specs.Prelude.{◌≡◌, ℕ, ◌+◌, List, ◌++◌}
use Rattle.value_core.specs.declared.state.State.{State}
use Rattle.value_core.specs.declared.state.Triple.{Triple}
use Rattle.term_core.specs.declared.evaluation.Evaluator.{Evaluator}
use Rattle.term_core.specs.Evaluation.{Context, Meaning}
use Rattle.term_core.specs.Runs.{Run}
use Rattle.term_core.specs.declared.fresh.Evaluated.{Evaluated}
use Rattle.term_core.specs.declared.fresh.Fresh.{Fresh}
use Rattle.term_core.specs.Fresh.{FreshRun}
use Rattle.term_core.specs.Views.{context_in}
use Rattle.term_core.specs.World.{World}

-- a meaning in the evaluator's context, under its bound values
abbrev pub within : {E : Type 0} → (E → World) → Evaluator E → (Context → Meaning) → Run
within world e meaning = meaning (context_in world e.context) e.bound

-- an evaluator with more wants
abbrev pub with_wants : {E : Type 0} → List Triple → Evaluator E → Evaluator E
with_wants more e = record e { wants = e.wants ++ more }

-- the run's state is returned, its wants are added at the end, and its ticks are counted
pub record Runs {E : Type 0} (run : Run) (old new : Evaluator E) (begun ended : ℕ) (state : State) : Type 0 where
  pub returned : state ≡ run.state
  pub wanted : new ≡ with_wants run.wants old
  pub counted : ended ≡ begun + run.ticks

-- the run's state and wants are returned, and its ticks are counted
pub record EvaluatesTo (run : Run) (begun ended : ℕ) (evaluated : Evaluated) : Type 0 where
  pub state : evaluated.state ≡ run.state
  pub wants : evaluated.wants ≡ run.wants
  pub ticks : ended ≡ begun + run.ticks

-- the same of all nodes
pub record EvaluatesAll (run : FreshRun) (begun ended : ℕ) (all : Fresh) : Type 0 where
  pub states : all.states ≡ run.states
  pub wants : all.wants ≡ run.wants
  pub ticks : ended ≡ begun + run.ticks
