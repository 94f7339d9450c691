-- The trees of all nodes: over the old trees they come to those of the new world, and they tell what fresh evaluation gives.
use Rattle.std.proofs.Common.{◌≡◌, ℕ, suc, ◌+◌, length, List, [], ◌∷◌, ◌++◌, map, sum, Some, None, refl, ap, ◌∙◌, subst}
use Rattle.std.specs.List.{flat_map}
use Rattle.value_core.specs.declared.value.Value.{Value}
use Rattle.value_core.specs.declared.state.State.{State}
use Rattle.term_core.specs.Evaluation.{Context, eval, context_of}
use Rattle.term_core.specs.Fresh.{FreshRun, fresh, fresh_from}
use Rattle.term_core.specs.World.{World}
use Rattle.term_core.specs.declared.program.NodeDecl.{NodeDecl}
use Rattle.term_core.specs.declared.program.Program.{Program}
use Rattle.visit_rules.proofs.Renews.{renews}
use Rattle.visit_rules.proofs.Telling.{Tells, sum-cons, tells}
use Rattle.visit_rules.specs.Again.{Again, again, trace}
use Rattle.visit_rules.specs.Traces.{AgainAll, again_from, all_dirty, traces}
use Rattle.visit_rules.specs.Visits.{all_visits, all_wants, state_of, states, visits_of, wants_of}
use Rattle.visit_rules.specs.declared.visit.Visit.{Visit}

module _ (program : Program) (inputs inputs0 : List Value) (world world0 : World) where
  all_renew : (ds : List NodeDecl) (at : ℕ) (earlier earlier0 : List State) →
      (again_from program inputs world at earlier ds (again_from program inputs0 world0 at earlier0 ds []).traces).traces
      ≡ (again_from program inputs world at earlier ds []).traces
  all_renew [] at earlier earlier0 = refl
  all_renew (d ∷ ds) at earlier earlier0 =
      let given : Context = context_of program at inputs earlier world in
      let given0 : Context = context_of program at inputs0 earlier0 world0 in
      let old : Visit = trace given0 d.term [] in
      let olds : List Visit = (again_from program inputs0 world0 (at + 1) (earlier0 ++ state_of old ∷ []) ds []).traces in
      let e : (again given d.term (Some old) []).visit ≡ trace given d.term [] = renews program at inputs inputs0 earlier earlier0 world world0 d.term [] in
      ap (λ (v : Visit). v ∷ (again_from program inputs world (at + 1) (earlier ++ state_of v ∷ []) ds olds).traces) e
      ∙ ap (λ (vs : List Visit). trace given d.term [] ∷ vs) (all_renew ds (at + 1) (earlier ++ state_of (trace given d.term []) ∷ []) (earlier0 ++ state_of old ∷ []))

-- the trees of a new world, over those of any old world
pub traces_renew : (program : Program) (inputs inputs0 : List Value) (world world0 : World) →
    (again_from program inputs world 0 [] program.nodes (traces program inputs0 world0)).traces ≡ traces program inputs world
unfolding traces
traces_renew program inputs inputs0 world world0 = all_renew program inputs inputs0 world world0 program.nodes 0 [] []

record TellsFresh (f : FreshRun) (a : AgainAll) : Type 0 where
  states : map state_of a.traces ≡ f.states
  wants : flat_map wants_of a.traces ≡ f.wants
  ticks : a.ticks ≡ f.ticks
  count : sum (map visits_of a.traces) ≡ a.ticks

module _ (program : Program) (inputs : List Value) (world : World) where
  all_tell : (ds : List NodeDecl) (at : ℕ) (earlier : List State) → TellsFresh (fresh_from program inputs world at earlier ds) (again_from program inputs world at earlier ds [])
  all_tell [] at earlier = record { states = refl; wants = refl; ticks = refl; count = refl }
  all_tell (d ∷ ds) at earlier =
      let given : Context = context_of program at inputs earlier world in
      let r : Again = again given d.term None [] in
      let t : Tells (eval given d.term []) r = tells given d.term [] in
      let rest : AgainAll = again_from program inputs world (at + 1) (earlier ++ state_of r.visit ∷ []) ds [] in
      let later : TellsFresh (fresh_from program inputs world (at + 1) (earlier ++ (eval given d.term []).state ∷ []) ds) rest =
      subst (λ (s : State). TellsFresh (fresh_from program inputs world (at + 1) (earlier ++ s ∷ []) ds) rest) t.state (all_tell ds (at + 1) (earlier ++ state_of r.visit ∷ []))
      in
      record {
        states = let h = t.state in let k = later.states in cc;
        wants = rw (t.wants, later.wants) refl;
        ticks = rw (t.ticks, later.ticks) refl;
        count = sum-cons (visits_of r.visit) (map visits_of rest.traces) ∙ rw (t.count, later.count) refl;
      }

-- what the trees of all nodes tell
pub record TracesMatch (program : Program) (inputs : List Value) (world : World) : Type 0 where
  pub states : states (traces program inputs world) ≡ (fresh program inputs world).states
  pub wants : all_wants (traces program inputs world) ≡ (fresh program inputs world).wants
  pub visits : all_visits (traces program inputs world) ≡ (fresh program inputs world).ticks
  pub ticks : all_dirty program [] inputs world ≡ (fresh program inputs world).ticks

pub traces_match : (program : Program) (inputs : List Value) (world : World) → TracesMatch program inputs world
unfolding fresh traces all_dirty
traces_match program inputs world =
    let t = all_tell program inputs world program.nodes 0 [] in
    record { states = t.states; wants = t.wants; visits = t.count ∙ t.ticks; ticks = t.ticks }

-- ---- the number of trees

again_length : (p : Program) (inputs : List Value) (world : World) (at : ℕ) (earlier : List State) (ds : List NodeDecl) (olds : List Visit)
    → length (again_from p inputs world at earlier ds olds).traces ≡ length ds
again_length p inputs world at earlier [] olds = refl
again_length p inputs world at earlier (d ∷ ds) olds = ap suc (again_length p inputs world (at + 1) _ ds _)

-- there is a tree for each node
pub each_node : (p : Program) (inputs : List Value) (world : World) → length (traces p inputs world) ≡ length p.nodes
unfolding traces
each_node p inputs world = again_length p inputs world 0 [] p.nodes []
