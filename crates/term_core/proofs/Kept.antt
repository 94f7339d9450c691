-- What the loop over the nodes keeps: what it has so far, with the nodes that are left, comes to what all nodes come to.
use Rattle.std.proofs.Common.{◌≡◌, ℕ, ◌+◌, List, [], ◌∷◌, ◌++◌, drop, append_assoc, arith}
use Rattle.value_core.specs.declared.value.Value.{Value}
use Rattle.value_core.specs.declared.state.State.{State}
use Rattle.value_core.specs.declared.state.Triple.{Triple}
use Rattle.term_core.specs.declared.program.Program.{Program}
use Rattle.term_core.specs.declared.program.NodeDecl.{NodeDecl}
use Rattle.term_core.specs.Evaluation.{context_of, eval}
use Rattle.term_core.specs.Fresh.{fresh_from}
use Rattle.term_core.specs.World.{World}

pub record Kept (program : Program) (inputs : List Value) (world : World) (begun : ℕ) (at : ℕ) (states : List State) (wants : List Triple) (steps : ℕ) : Type 0 where
  pub states_kept : states ++ (fresh_from program inputs world at states (drop at program.nodes)).states ≡ (fresh_from program inputs world 0 [] program.nodes).states
  pub wants_kept : wants ++ (fresh_from program inputs world at states (drop at program.nodes)).wants ≡ (fresh_from program inputs world 0 [] program.nodes).wants
  pub ticks_kept : steps + (fresh_from program inputs world at states (drop at program.nodes)).ticks ≡ begun + (fresh_from program inputs world 0 [] program.nodes).ticks

pub kept_step : {program : Program} {inputs : List Value} {world : World} {begun at : ℕ} {states : List State} {wants : List Triple} {steps : ℕ} →
    Kept program inputs world begun at states wants steps → (d : NodeDecl) (state : State) (more : List Triple) (steps' : ℕ) →
    drop at program.nodes ≡ d ∷ drop (at + 1) program.nodes →
    state ≡ (eval (context_of program at inputs states world) d.term []).state →
    more ≡ (eval (context_of program at inputs states world) d.term []).wants →
    steps' ≡ steps + (eval (context_of program at inputs states world) d.term []).ticks →
    Kept program inputs world begun (at + 1) (states ++ state ∷ []) (wants ++ more) steps'
kept_step {steps = steps} k d state more steps' cons is_state is_more is_steps =
    let s = rw cons at k.states_kept in
    let w = rw cons at k.wants_kept in
    let t = rw cons at k.ticks_kept in
    record {
      states_kept = rw (is_state, append_assoc) s;
      wants_kept = rw (is_state, is_more, append_assoc) w;
      ticks_kept = rw (is_state, is_steps) (omega (arith, t));
    }
