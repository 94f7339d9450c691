-- The trees of all nodes, and what a new world makes of them.
use Rattle.std.specs.Prelude.{◌≡◌, ℕ, ◌+◌, List, [], ◌∷◌, ◌++◌, Option, Some, None}
use Rattle.value_core.specs.declared.value.Value.{Value}
use Rattle.value_core.specs.declared.state.State.{State}
use Rattle.term_core.specs.Evaluation.{context_of}
use Rattle.term_core.specs.Fresh.{FreshRun}
use Rattle.term_core.specs.World.{World}
use Rattle.term_core.specs.declared.program.NodeDecl.{NodeDecl}
use Rattle.term_core.specs.declared.program.Program.{Program}
use Rattle.visit_rules.specs.Again.{Again, again}
use Rattle.visit_rules.specs.Visits.{all_visits, all_wants, state_of, states}
use Rattle.visit_rules.specs.declared.visit.Visit.{Visit}

-- the trees of several nodes, and how many terms were visited for them
pub record AgainAll : Type 0 where
  pub traces : List Visit
  pub ticks : ℕ

-- the first tree that there was
abbrev pub first_trace : List Visit → Option Visit
first_trace [] = None
first_trace (v ∷ vs) = Some v

-- all but the first
abbrev pub later_traces : List Visit → List Visit
later_traces [] = []
later_traces (v ∷ vs) = vs

-- the nodes in file order from a number on, each over the tree that there was and the states of the earlier ones
abbrev pub again_from : Program → List Value → World → ℕ → List State → List NodeDecl → List Visit → AgainAll
again_from program inputs world at earlier [] olds = record { traces = []; ticks = 0 }
again_from program inputs world at earlier (d ∷ ds) olds =
    let r : Again = again (context_of program at inputs earlier world) d.term (first_trace olds) [] in
    let rest : AgainAll = again_from program inputs world (at + 1) (earlier ++ state_of r.visit ∷ []) ds (later_traces olds) in
    record { traces = r.visit ∷ rest.traces; ticks = r.ticks + rest.ticks }

-- all nodes over the trees that there were
unfoldable pub all_again : Program → List Visit → List Value → World → AgainAll
all_again program olds inputs world = again_from program inputs world 0 [] program.nodes olds

-- the trees of all nodes
unfoldable pub traces : Program → List Value → World → List Visit
traces program inputs world = (again_from program inputs world 0 [] program.nodes []).traces

-- how many terms are visited for a new world
unfoldable pub all_dirty : Program → List Visit → List Value → World → ℕ
all_dirty program olds inputs world = (again_from program inputs world 0 [] program.nodes olds).ticks

-- trees have the states and the wants of fresh evaluation, and as many visits as it has ticks
pub record MatchesFresh (trees : List Visit) (run : FreshRun) : Type 0 where
  pub states : states trees ≡ run.states
  pub wants : all_wants trees ≡ run.wants
  pub instances : all_visits trees ≡ run.ticks
