-- Worlds that agree on what is wanted have the same trees: nothing that was read in the one differs in the other.
use Rattle.std.proofs.Common.{◌≡◌, ℕ, ◌+◌, Bool, true, false, not, ◌&&◌, ◌||◌, List, [], ◌∷◌, ◌++◌, map, None, refl, ap, sym, ◌∙◌, subst}
use Rattle.std.specs.List.{list_all, list_any}
use Rattle.value_core.proofs.Basics.{and_parts}
use Rattle.value_core.specs.Same.{same}
use Rattle.value_core.specs.declared.state.State.{State}
use Rattle.value_core.specs.declared.state.Triple.{Triple}
use Rattle.value_core.specs.declared.value.Value.{Value}
use Rattle.term_core.specs.Codes.{entry_code}
use Rattle.term_core.specs.Evaluation.{Context, context_of}
use Rattle.term_core.specs.Fresh.{fresh}
use Rattle.term_core.specs.Laws.{Agree}
use Rattle.term_core.specs.World.{World}
use Rattle.term_core.specs.declared.program.NodeDecl.{NodeDecl}
use Rattle.term_core.specs.declared.program.Program.{Program}
use Rattle.term_core.specs.declared.program.Term.{Term}
use Rattle.term_core.proofs.Agreeing.{agree_left, agree_right}
use Rattle.engine_rules.proofs.RepliedBefore.{agree_at}
use Rattle.visit_rules.specs.Again.{Again, again, trace}
use Rattle.visit_rules.specs.KnownChanges.{all_read, all_read_step}
use Rattle.visit_rules.specs.Traces.{again_from, traces}
use Rattle.visit_rules.specs.Visits.{Test, all_wants, passes, passes_step, read_differs, state_of, wants_of}
use Rattle.visit_rules.specs.declared.visit.Read.{Read}
use Rattle.visit_rules.specs.declared.visit.Read.TheVariants as read
use Rattle.visit_rules.specs.declared.visit.Visit.{Visit}
use Rattle.visit_rules.specs.declared.visit.Visit.TheOpen.{Visit-F}
use Rattle.visit_rules.specs.declared.visit.Visit.TheViews.{roll-Visit}
use Rattle.visit_rules.specs.declared.visit.Visit.TheFolds.{fold-roll-Visit, ind-Visit, map-Visit}
use Rattle.visit_rules.proofs.AllNodes.{traces_match}
use Rattle.visit_rules.proofs.ChangesRight.{all_read_implied, all_read_together, is_still, still, wanted_by, wanted_in}
use Rattle.visit_rules.proofs.Unchanged.{stays}

-- ---- a test that fails on all that was read passes nowhere

three_none : (a b c : Bool) → a ≡ false → b ≡ false → c ≡ false → (a || (b || c)) ≡ false
three_none a b c h k l = rw (h, k, l) refl

or_none : (a b : Bool) → a ≡ false → b ≡ false → (a || b) ≡ false
or_none a b h k = rw (h, k) refl

is_not : (b : Bool) → not b ≡ true → b ≡ false
is_not true h = absurd cc
is_not false h = refl

module _ (p : Test) where
  abbrev fails : Test
  fails r = not (p r)

  abbrev Quiet : Visit → Type 0
  Quiet v = all_read fails v ≡ true → passes p v ≡ false

  none_pass : (es : List ((v : Visit) × Quiet v)) → list_all (λ b. b) (map (all_read fails) (map (λ e. e.0) es)) ≡ true → list_any (λ b. b) (map (passes p) (map (λ e. e.0) es)) ≡ false
  none_pass [] h = refl
  none_pass (e ∷ es) h = let a = and_parts _ _ h in or_none _ _ (e.1 a.0) (none_pass es a.1)

  quiet_layer : (y : Visit-F ((v : Visit) × Quiet v)) → Quiet (roll-Visit (map-Visit ((v : Visit) × Quiet v) Visit (λ e. e.0) y))
  quiet_layer y h =
      let x : Visit-F Visit = map-Visit ((v : Visit) × Quiet v) Visit (λ e. e.0) y in
      let a = and_parts _ _ (sym (fold-roll-Visit Bool (all_read_step fails) x) ∙ h) in
      let b = and_parts _ _ a.1 in
      fold-roll-Visit Bool (passes_step p) x ∙ three_none _ _ _ (is_not (p x.read) a.0) (none_pass y.parts b.0) (none_pass y.bodies b.1)

  pub quiet : (v : Visit) → Quiet v
  quiet = ind-Visit Quiet (λ x y is. subst (λ (z : Visit-F Visit). Quiet (roll-Visit z)) is (quiet_layer y))

-- ---- one term

module _ (program : Program) (node : ℕ) (inputs : List Value) (earlier : List State) (w v : World) where
  abbrev G : Context
  G = context_of program node inputs earlier v

  abbrev G0 : Context
  G0 = context_of program node inputs earlier w

  -- what was read in the one world, of what is wanted, is the same in the other
  still_there : (ws : List Triple) → Agree w v ws → (r : Read) → (is_still G0 r && wanted_in ws r) ≡ true → is_still G r ≡ true
  still_there ws a read.Nothing h = refl
  still_there ws a (read.Input place val) h = (and_parts _ _ h).0
  still_there ws a (read.Node place s) h = (and_parts _ _ h).0
  still_there ws a (read.Lookup t e) h =
      let k = and_parts _ _ h in
      subst (λ x. not (not (same entry_code x e)) ≡ true) (agree_at w v ws t a k.1) k.0

  same_tree : (t : Term) → Agree w v (wants_of (trace G0 t [])) → again G t None [] ≡ again G0 t None []
  same_tree t a =
      let tree : Visit = trace G0 t [] in
      let read_still : all_read (is_still G) tree ≡ true = all_read_implied (λ r. is_still G0 r && wanted_in (wants_of tree) r) (is_still G) (still_there (wants_of tree) a) tree
      (all_read_together (is_still G0) (wanted_in (wants_of tree)) tree (still G0 t []) (wanted_by tree)) in
      stays program node inputs inputs earlier earlier v w t [] (quiet (read_differs G) tree read_still)

-- ---- all nodes

module _ (program : Program) (inputs : List Value) (w v : World) where
  nodes_agree : (ds : List NodeDecl) (at : ℕ) (earlier : List State) → Agree w v (all_wants (again_from program inputs w at earlier ds []).traces)
      → (again_from program inputs v at earlier ds []).traces ≡ (again_from program inputs w at earlier ds []).traces
  nodes_agree [] at earlier a = refl
  nodes_agree (d ∷ ds) at earlier a =
      let tree : Visit = trace (context_of program at inputs earlier w) d.term [] in
      let rest : List Visit = (again_from program inputs w (at + 1) (earlier ++ state_of tree ∷ []) ds []).traces in
      let here = same_tree program at inputs earlier w v d.term (agree_left w v (wants_of tree) (all_wants rest) a) in
      ap (λ (r : Again). r.visit ∷ (again_from program inputs v (at + 1) (earlier ++ state_of r.visit ∷ []) ds []).traces) here
      ∙ ap (λ (vs : List Visit). tree ∷ vs) (nodes_agree ds (at + 1) (earlier ++ state_of tree ∷ []) (agree_right w v (wants_of tree) (all_wants rest) a))

pub same_trees : (program : Program) (inputs : List Value) (w v : World) → Agree w v (fresh program inputs w).wants → traces program inputs w ≡ traces program inputs v
unfolding traces
same_trees program inputs w v a =
    let t = traces_match program inputs w in
    sym (nodes_agree program inputs w v program.nodes 0 [] (subst (Agree w v) (sym t.wants) a))
