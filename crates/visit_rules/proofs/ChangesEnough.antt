-- The changes that are told are enough: over the trees of another world the news say what differs.
use Rattle.std.proofs.Common.{◌≡◌, ℕ, zero, suc, ◌+◌, Bool, true, false, not, List, [], ◌∷◌, ◌++◌, map, cond, slice_get, Some, None, refl, ap, sym, ◌∙◌, subst}
use Rattle.std.specs.List.{list_all}
use Rattle.value_core.proofs.Sames.{same_refl}
use Rattle.value_core.specs.Codes.{state_code}
use Rattle.value_core.specs.Same.{same}
use Rattle.value_core.specs.declared.value.Value.{Value}
use Rattle.value_core.specs.declared.state.State.{State}
use Rattle.value_core.specs.declared.state.Triple.{Triple}
use Rattle.term_core.specs.Evaluation.{Context, context_of, state_or_unit, value_or_unit}
use Rattle.term_core.specs.World.{World, entry_of}
use Rattle.value_core.specs.Orders.{same_triple}
use Rattle.term_core.specs.declared.entries.Entry.{Entry}
use Rattle.term_core.specs.declared.program.NodeDecl.{NodeDecl}
use Rattle.term_core.specs.declared.program.Program.{Program}
use Rattle.visit_rules.proofs.SameTests.{alike}
use Rattle.value_core.proofs.Basics.{and_both, and_parts, triple_same}
use Rattle.visit_rules.proofs.ChangesRight.{AreRight, all_read_implied, all_through, news_agree, wanted_back, wanted_by, wanted_front, wanted_in}
use Rattle.visit_rules.specs.Again.{Again, again, again_by, trace}
use Rattle.visit_rules.specs.Differences.{CoversChanges}
use Rattle.visit_rules.specs.KnownChanges.{all_read, found_entry, has_moved, is_among, is_moved, is_named, is_other, looked_at, renewed_from, known_to_differ}
use Rattle.visit_rules.specs.Traces.{AgainAll, again_from, traces}
use Rattle.term_core.specs.Codes.{entry_code}
use Rattle.visit_rules.specs.Visits.{all_wants, read_differs, state_of, wants_of}
use Rattle.visit_rules.specs.declared.changes.Looked.{Looked}
use Rattle.visit_rules.specs.declared.changes.Changes.{Changes}
use Rattle.visit_rules.specs.declared.visit.Visit.{Visit}

-- ---- the nodes that have moved

-- of each node, whether its state is another than it was
abbrev Aligned : List Bool → List State → List State → Type 0
Aligned [] [] [] = Unit {0}
Aligned (m ∷ ms) (s ∷ ss) (o ∷ os) = (m ≡ not (same state_code s o)) × Aligned ms ss os
Aligned _ _ _ = ⊥

same_not : (s : State) → false ≡ not (same state_code s s)
same_not s = sym (ap not (same_refl state_code s))

aligned_at : (ms : List Bool) (ss os : List State) → Aligned ms ss os → (n : ℕ) →
    has_moved (slice_get ms n) ≡ not (same state_code (state_or_unit (slice_get ss n)) (state_or_unit (slice_get os n)))
aligned_at [] [] [] a n = same_not (state_or_unit (slice_get {X = State} [] n))
aligned_at (m ∷ ms) (s ∷ ss) (o ∷ os) a zero = a.0
aligned_at (m ∷ ms) (s ∷ ss) (o ∷ os) a (suc n) = aligned_at ms ss os a.1 n
aligned_at [] [] (o ∷ os) a n = absurd a
aligned_at [] (s ∷ ss) os a n = absurd a
aligned_at (m ∷ ms) [] os a n = absurd a
aligned_at (m ∷ ms) (s ∷ ss) [] a n = absurd a

aligned_more : (ms : List Bool) (ss os : List State) → Aligned ms ss os → (m : Bool) (s o : State) → m ≡ not (same state_code s o) → Aligned (ms ++ m ∷ []) (ss ++ s ∷ []) (os ++ o ∷ [])
aligned_more [] [] [] a m s o e = (e, tt)
aligned_more (n ∷ ms) (t ∷ ss) (p ∷ os) a m s o e = (a.0, aligned_more ms ss os a.1 m s o e)
aligned_more [] [] (p ∷ os) a m s o e = absurd a
aligned_more [] (t ∷ ss) os a m s o e = absurd a
aligned_more (n ∷ ms) [] os a m s o e = absurd a
aligned_more (n ∷ ms) (t ∷ ss) [] a m s o e = absurd a

-- ---- the entries that were looked up

module _ (world world0 : World) (ws : List Triple) (t : Triple) (wanted : is_among ws t ≡ true) where
  -- the triples that are looked up, those not told being the same still
  looked_right : (ts : List Triple) → (is_among ts t ≡ false → entry_of world t ≡ entry_of world0 t) →
      is_other (found_entry (looked_at world ws ts) t) (entry_of world0 t) ≡ not (same entry_code (entry_of world t) (entry_of world0 t))
  looked_right [] h = sym (ap (λ (e : Entry). not (same entry_code e (entry_of world0 t))) (h refl) ∙ ap not (same_refl entry_code (entry_of world0 t)))
  looked_right (u ∷ us) h =
      let later : List Looked = looked_at world ws us in
      let this : Looked = record { triple = u; entry = entry_of world u } in
      let goal : List Looked → Type 0 = λ ls. is_other (found_entry ls t) (entry_of world0 t) ≡ not (same entry_code (entry_of world t) (entry_of world0 t)) in
      let found : same_triple u t ≡ true → goal (cond (is_among ws u) (this ∷ later) later) =
      λ e.
      let is : u ≡ t = triple_same u t e in
      let among : is_among ws u ≡ true = ap (is_among ws) is ∙ wanted in
      rw (among, e, is) refl
      in
      let other : same_triple u t ≡ false → goal (cond (is_among ws u) (this ∷ later) later) =
      λ e.
      let rest : goal later = looked_right us (λ k. h (rw (e, k) refl)) in
      elim (is_among ws u) as (λ b. goal (cond b (this ∷ later) later)) [ true ↦ rw e rest | false ↦ rest ]
      in
      let cases : (b : Bool) → same_triple u t ≡ b → goal (cond (is_among ws u) (this ∷ later) later) =
      λ b. elim b as (λ b. same_triple u t ≡ b → goal (cond (is_among ws u) (this ∷ later) later)) [ true ↦ found | false ↦ other ]
      in cases (same_triple u t) refl

-- ---- all nodes

-- the triples that were looked up in several trees are wanted by them
all_wanted : (vs : List Visit) → list_all (λ b. b) (map (all_read (wanted_in (all_wants vs))) vs) ≡ true
all_wanted [] = refl
all_wanted (v ∷ vs) =
    and_both _ _ (all_read_implied (wanted_in (wants_of v)) (wanted_in (wants_of v ++ all_wants vs)) (wanted_front (wants_of v) (all_wants vs)) v (wanted_by v))
    (all_through (wanted_in (all_wants vs)) (wanted_in (wants_of v ++ all_wants vs)) (wanted_back (wants_of v) (all_wants vs)) vs (all_wanted vs))

module _ (program : Program) (named : List ℕ) (triples : List Triple) (inputs inputs0 : List Value) (world world0 : World) (ws : List Triple)
    (same_inputs : (n : ℕ) → is_named named n ≡ false → value_or_unit (slice_get inputs n) ≡ value_or_unit (slice_get inputs0 n))
    (same_entries : (t : Triple) → is_among ws t ≡ true → is_among triples t ≡ false → entry_of world t ≡ entry_of world0 t) where
  abbrev looked : List Looked
  looked = looked_at world ws triples

  nodes_told : (ds : List NodeDecl) (at : ℕ) (moved : List Bool) (earlier earlier0 : List State) → Aligned moved earlier earlier0 →
      list_all (λ b. b) (map (all_read (wanted_in ws)) (again_from program inputs0 world0 at earlier0 ds []).traces) ≡ true →
      renewed_from program named looked inputs world at moved earlier ds (again_from program inputs0 world0 at earlier0 ds []).traces
      ≡ again_from program inputs world at earlier ds (again_from program inputs0 world0 at earlier0 ds []).traces
  nodes_told [] at moved earlier earlier0 a w = refl
  nodes_told (d ∷ ds) at moved earlier earlier0 a w =
      let given : Context = context_of program at inputs earlier world in
      let given0 : Context = context_of program at inputs0 earlier0 world0 in
      let old : Visit = trace given0 d.term [] in
      let olds : List Visit = (again_from program inputs0 world0 (at + 1) (earlier0 ++ state_of old ∷ []) ds []).traces in
      let wanted = and_parts _ _ w in
      let right : AreRight given given0 named looked moved ws = record {
        inputs = same_inputs;
        nodes = aligned_at moved earlier earlier0 a;
        entries = λ t h. looked_right world world0 ws t h triples (same_entries t h);
      } in
      let same_again : again_by (known_to_differ named looked moved inputs) given d.term (Some old) [] ≡ again given d.term (Some old) [] =
      alike (known_to_differ named looked moved inputs) (read_differs given) given d.term (Some old) []
      (news_agree given given0 named looked moved ws right d.term [] wanted.0)
      in
      let r : Again = again given d.term (Some old) [] in
      let s : State = state_of r.visit in
      let rest = nodes_told ds (at + 1) (moved ++ is_moved (Some old) s ∷ []) (earlier ++ s ∷ []) (earlier0 ++ state_of old ∷ [])
      (aligned_more moved earlier earlier0 a (is_moved (Some old) s) s (state_of old) refl) wanted.1
      in
      ap (λ (x : Again). let later : AgainAll = renewed_from program named looked inputs world (at + 1) (moved ++ is_moved (Some old) (state_of x.visit) ∷ []) (earlier ++ state_of x.visit ∷ []) ds olds in
      record { traces = x.visit ∷ later.traces; ticks = x.ticks + later.ticks }) same_again
      ∙ ap (λ (later : AgainAll). record { traces = r.visit ∷ later.traces; ticks = r.ticks + later.ticks }) rest

-- what the news tell of the trees of another world is what differs
pub changes_enough : (program : Program) (trees : List Visit) (changes : Changes) (inputs : List Value) (world : World) → CoversChanges program trees changes inputs world →
    renewed_from program changes.inputs (looked_at world (all_wants trees) changes.triples) inputs world 0 [] [] program.nodes trees ≡ again_from program inputs world 0 [] program.nodes trees
unfolding traces
changes_enough program trees changes inputs world told =
    let olds : List Visit = (again_from program told.was_inputs told.was_world 0 [] program.nodes []).traces in
    let is : olds ≡ trees = sym told.traced in
    subst (λ (vs : List Visit). renewed_from program changes.inputs (looked_at world (all_wants trees) changes.triples) inputs world 0 [] [] program.nodes vs ≡ again_from program inputs world 0 [] program.nodes vs) is
    (nodes_told program changes.inputs changes.triples inputs told.was_inputs world told.was_world (all_wants trees) told.other_inputs told.other_triples program.nodes 0 [] [] [] tt
    (subst (λ (vs : List Visit). list_all (λ b. b) (map (all_read (wanted_in (all_wants trees))) vs) ≡ true) (sym is) (all_wanted trees)))

module _ (program : Program) (named : List ℕ) (looked : List Looked) (inputs : List Value) (world : World) where
  nodes_new : (ds : List NodeDecl) (at : ℕ) (moved : List Bool) (earlier : List State) →
      renewed_from program named looked inputs world at moved earlier ds [] ≡ again_from program inputs world at earlier ds []
  nodes_new [] at moved earlier = refl
  nodes_new (d ∷ ds) at moved earlier =
      let given : Context = context_of program at inputs earlier world in
      let same_again : again_by (known_to_differ named looked moved inputs) given d.term None [] ≡ again given d.term None [] =
      alike (known_to_differ named looked moved inputs) (read_differs given) given d.term None [] tt
      in
      let r : Again = again given d.term None [] in
      let s : State = state_of r.visit in
      ap (λ (x : Again). let later : AgainAll = renewed_from program named looked inputs world (at + 1) (moved ++ is_moved None (state_of x.visit) ∷ []) (earlier ++ state_of x.visit ∷ []) ds [] in
      record { traces = x.visit ∷ later.traces; ticks = x.ticks + later.ticks }) same_again
      ∙ ap (λ (later : AgainAll). record { traces = r.visit ∷ later.traces; ticks = r.ticks + later.ticks }) (nodes_new ds (at + 1) (moved ++ is_moved None s ∷ []) (earlier ++ s ∷ []))

  -- with no trees there is nothing that the news could tell
  pub renewed_new : renewed_from program named looked inputs world 0 [] [] program.nodes [] ≡ again_from program inputs world 0 [] program.nodes []
  renewed_new = nodes_new program.nodes 0 [] []
