-- What all nodes come to, evaluated afresh.
use Rattle.std.specs.Prelude.{ℕ, ◌+◌, List, [], ◌∷◌, ◌++◌, Option, Some, None, slice_get}
use Rattle.value_core.specs.declared.value.Value.{Value}
use Rattle.value_core.specs.declared.value.Value.TheVariants as value
use Rattle.value_core.specs.declared.state.State.{State}
use Rattle.value_core.specs.declared.state.State.TheVariants.{Fine}
use Rattle.value_core.specs.declared.state.Triple.{Triple}
use Rattle.term_core.specs.declared.program.Program.{Program}
use Rattle.term_core.specs.declared.program.NodeDecl.{NodeDecl}
use Rattle.term_core.specs.Evaluation.{Context, context_of, eval}
use Rattle.term_core.specs.Runs.{Run, stated}
use Rattle.term_core.specs.World.{World}

-- what the term of a declaration comes to
abbrev pub decl_run : Context → Option NodeDecl → Run
decl_run context None = stated (Fine value.Unit)
decl_run context (Some d) = eval context d.term []

-- what the node's own term comes to
abbrev pub node_run : Context → Run
node_run context = decl_run context (slice_get context.program.nodes context.node)

-- the states of all nodes, their wants in order of evaluation, and how many terms are visited
pub record FreshRun : Type 0 where
  pub states : List State
  pub wants : List Triple
  pub ticks : ℕ

-- one node's run before those of the later ones
abbrev pub run_before : Run → FreshRun → FreshRun
run_before r later = record { states = r.state ∷ later.states; wants = r.wants ++ later.wants; ticks = r.ticks + later.ticks }

-- the nodes in file order from a number on, each over the states of the earlier ones
abbrev pub fresh_from : Program → List Value → World → ℕ → List State → List NodeDecl → FreshRun
fresh_from program inputs world at earlier [] = record { states = []; wants = []; ticks = 0 }
fresh_from program inputs world at earlier (d ∷ ds) =
    let r : Run = eval (context_of program at inputs earlier world) d.term [] in
    run_before r (fresh_from program inputs world (at + 1) (earlier ++ r.state ∷ []) ds)

-- all nodes over these values of the inputs and this world, keeping nothing from before
unfoldable pub fresh : Program → List Value → World → FreshRun
fresh program inputs world = fresh_from program inputs world 0 [] program.nodes
