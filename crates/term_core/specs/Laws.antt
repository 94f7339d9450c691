-- What evaluation depends on.
use Rattle.std.specs.Prelude.{◌≡◌, ℕ, List}
use Rattle.std.specs.List.{AllByRecursion}
use Rattle.value_core.specs.declared.value.Value.{Value}
use Rattle.value_core.specs.declared.state.State.{State}
use Rattle.value_core.specs.declared.state.Triple.{Triple}
use Rattle.term_core.specs.declared.program.Program.{Program}
use Rattle.term_core.specs.Evaluation.{context_of}
use Rattle.term_core.specs.Fresh.{node_run, fresh}
use Rattle.term_core.specs.World.{World, entry_of}

-- two worlds have the same entry for each of these triples
abbrev pub Agree : World → World → List Triple → Type 0
Agree w v = AllByRecursion (λ t. entry_of w t ≡ entry_of v t)

-- worlds that agree on what a node wants give it the same state, wants and visits
abbrev pub NodeIsLocal : Type 0
NodeIsLocal = (program : Program) (node : ℕ) (inputs : List Value) (earlier : List State) (w v : World) →
    Agree w v (node_run (context_of program node inputs earlier w)).wants →
    node_run (context_of program node inputs earlier w) ≡ node_run (context_of program node inputs earlier v)

-- worlds that agree on what all nodes want give them the same states, wants and visits
abbrev pub FreshIsLocal : Type 0
FreshIsLocal = (program : Program) (inputs : List Value) (w v : World) →
    Agree w v (fresh program inputs w).wants → fresh program inputs w ≡ fresh program inputs v
