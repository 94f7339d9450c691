-- What the loop over the nodes keeps: the trees so far, with those of the nodes that are left, come to those of all nodes.
use Rattle.std.proofs.Common.{◌≡◌, ℕ, zero, suc, ◌+◌, Bool, true, false, not, cond, List, [], ◌∷◌, ◌++◌, drop, get_or, length, slice_get, Some, None, refl, ap, sym, ◌∙◌, append_assoc, arith, add-one, take}
use Rattle.std.proofs.lemmas.List.{append-nil}
use Rattle.std.proofs.Math.Seq.{drop-length}
use Rattle.value_core.specs.Codes.{state_code}
use Rattle.value_core.specs.Same.{same}
use Rattle.visit_rules.specs.Differences.{changed_from, changed_of, moved_from}
use Rattle.value_core.specs.declared.value.Value.{Value}
use Rattle.value_core.specs.declared.state.State.{State}
use Rattle.term_core.specs.Evaluation.{context_of}
use Rattle.term_core.specs.World.{World}
use Rattle.term_core.specs.declared.program.NodeDecl.{NodeDecl}
use Rattle.term_core.specs.declared.program.Program.{Program}
use Rattle.visit_rules.specs.Again.{Again, again_by}
use Rattle.visit_rules.specs.KnownChanges.{is_moved, moved_between, renewed_from, known_to_differ}
use Rattle.visit_rules.specs.Traces.{AgainAll, first_trace, later_traces}
use Rattle.visit_rules.specs.Visits.{state_of, states}
use Rattle.visit_rules.specs.declared.changes.Looked.{Looked}
use Rattle.visit_rules.specs.declared.visit.Visit.{Visit}

pub drop_at : {X : Type 0} (xs : List X) (i : ℕ) (x : X) → slice_get xs i ≡ Some x → drop i xs ≡ x ∷ drop (suc i) xs
drop_at [] i x e = cc
drop_at (y ∷ xs) zero x e = let h : y ≡ x = cc in rw h refl
drop_at (y ∷ xs) (suc i) x e = drop_at xs i x e

pub take_at : {X : Type 0} (xs : List X) (i : ℕ) (x : X) → slice_get xs i ≡ Some x → take (suc i) xs ≡ take i xs ++ x ∷ []
take_at [] i x e = absurd cc
take_at (y ∷ xs) zero x e = let h : y ≡ x = cc in rw h refl
take_at {X = X} (y ∷ xs) (suc i) x e = ap (λ (ys : List X). y ∷ ys) (take_at xs i x e)

first_is : (vs : List Visit) (i : ℕ) → first_trace (drop i vs) ≡ slice_get vs i
first_is [] zero = refl
first_is [] (suc i) = refl
first_is (v ∷ vs) zero = refl
first_is (v ∷ vs) (suc i) = first_is vs i

later_is : (vs : List Visit) (i : ℕ) → later_traces (drop i vs) ≡ drop (suc i) vs
later_is [] zero = refl
later_is [] (suc i) = refl
later_is (v ∷ vs) zero = refl
later_is (v ∷ vs) (suc i) = later_is vs i

module _ (program : Program) (named : List ℕ) (looked : List Looked) (inputs : List Value) (world : World) (olds : List Visit) where
  -- those of the nodes that are left
  abbrev pub left : ℕ → List Bool → List State → AgainAll
  left at moved earlier = renewed_from program named looked inputs world at moved earlier (drop at program.nodes) (drop at olds)

  pub record Kept (begun at : ℕ) (moved : List Bool) (earlier : List State) (made : List Visit) (steps : ℕ) : Type 0 where
    pub traces_kept : made ++ (left at moved earlier).traces ≡ (renewed_from program named looked inputs world 0 [] [] program.nodes olds).traces
    pub states_kept : earlier ++ states (left at moved earlier).traces ≡ states (renewed_from program named looked inputs world 0 [] [] program.nodes olds).traces
    pub ticks_kept : steps + (left at moved earlier).ticks ≡ begun + (renewed_from program named looked inputs world 0 [] [] program.nodes olds).ticks

  pub kept_step : {begun at : ℕ} {moved : List Bool} {earlier : List State} {made : List Visit} {steps : ℕ} → Kept begun at moved earlier made steps →
      (d : NodeDecl) → slice_get program.nodes at ≡ Some d →
      let a : Again = again_by (known_to_differ named looked moved inputs) (context_of program at inputs earlier world) d.term (slice_get olds at) [] in
      (v : Visit) → v ≡ a.visit → (s : State) → s ≡ state_of a.visit → (m : Bool) → m ≡ is_moved (slice_get olds at) s → (steps' : ℕ) → steps' ≡ steps + a.ticks →
      Kept begun (at + 1) (moved ++ m ∷ []) (earlier ++ s ∷ []) (made ++ v ∷ []) steps'
  kept_step {at = at} {steps = steps} k d e v is_v s is_s m is_m steps' is_steps =
      let t = rw (drop_at program.nodes at d e, first_is olds at, later_is olds at, add-one) at k.traces_kept in
      let n = rw (drop_at program.nodes at d e, first_is olds at, later_is olds at, add-one) at k.ticks_kept in
      let ss = rw (drop_at program.nodes at d e, first_is olds at, later_is olds at, add-one) at k.states_kept in
      record {
        traces_kept = rw (is_v, is_m, is_s, add-one, append_assoc) t;
        states_kept = rw (is_m, is_s, add-one, append_assoc) ss;
        ticks_kept = rw (is_m, is_s, is_steps, add-one) (omega (arith, n));
      }

  -- what has come of all nodes
  pub record AllKept (begun : ℕ) (earlier : List State) (made : List Visit) (steps : ℕ) : Type 0 where
    pub traces_kept : made ≡ (renewed_from program named looked inputs world 0 [] [] program.nodes olds).traces
    pub states_kept : earlier ≡ states (renewed_from program named looked inputs world 0 [] [] program.nodes olds).traces
    pub ticks_kept : steps ≡ begun + (renewed_from program named looked inputs world 0 [] [] program.nodes olds).ticks

  pub kept_all : {begun at : ℕ} {moved : List Bool} {earlier : List State} {made : List Visit} {steps : ℕ} → Kept begun at moved earlier made steps →
      at ≡ length program.nodes → AllKept begun earlier made steps
  kept_all {at = at} {moved = moved} {earlier = earlier} {steps = steps} k e =
      let none : drop at program.nodes ≡ [] = rw e (drop-length program.nodes) in
      let t = rw (none, append-nil) at k.traces_kept in
      let n = rw none at k.ticks_kept in
      let ss = rw (none, append-nil) at k.states_kept in
      record { traces_kept = t; states_kept = ss; ticks_kept = omega (arith, n) }

pub moved_more : (olds : List Visit) (ss : List State) (s : State) → moved_between olds (ss ++ s ∷ []) ≡ moved_between olds ss ++ is_moved (slice_get olds (length ss)) s ∷ []
moved_more [] [] s = refl
moved_more (v ∷ vs) [] s = refl
moved_more [] (t ∷ ss) s = ap (λ (ms : List Bool). is_moved None t ∷ ms) (moved_more [] ss s)
moved_more (v ∷ vs) (t ∷ ss) s = ap (λ (ms : List Bool). is_moved (Some v) t ∷ ms) (moved_more vs ss s)

-- ---- the nodes that have moved are those whose state is another

changed_same : (at : ℕ) (olds : List Visit) (ss : List State) → moved_from at (moved_between olds ss) ss ≡ changed_from at (states olds) ss
changed_same at olds [] = refl
changed_same at [] (s ∷ ss) = ap (λ (ns : List (ℕ × State)). (at, s) ∷ ns) (changed_same (suc at) [] ss)
changed_same at (v ∷ vs) (s ∷ ss) =
    let rest = changed_same (suc at) vs ss in
    elim (same state_code s (state_of v)) as (λ b. cond (not b) ((at, s) ∷ moved_from (suc at) (moved_between vs ss) ss) (moved_from (suc at) (moved_between vs ss) ss)
    ≡ cond b (changed_from (suc at) (states vs) ss) ((at, s) ∷ changed_from (suc at) (states vs) ss)) [
      | true ↦ rest
      | false ↦ ap (λ (ns : List (ℕ × State)). (at, s) ∷ ns) rest
    ]

pub changed_is : (olds : List Visit) (ss : List State) → changed_of (moved_between olds ss) ss ≡ changed_from 0 (states olds) ss
changed_is olds ss = changed_same 0 olds ss

moved_none : (at : ℕ) (ss : List State) → moved_from at [] ss ≡ []
moved_none at [] = refl
moved_none at (s ∷ ss) = refl

-- the nodes that have moved from one number on, by whether the first of them has
pub moved_next : (at : ℕ) (ms : List Bool) (ss : List State) (i : ℕ) (s : State) → slice_get ss i ≡ Some s →
    moved_from at (drop i ms) (drop i ss)
    ≡ cond (get_or ms i false) ((at, s) ∷ moved_from (suc at) (drop (suc i) ms) (drop (suc i) ss)) (moved_from (suc at) (drop (suc i) ms) (drop (suc i) ss))
moved_next at ms [] i s e = absurd cc
moved_next at [] (t ∷ ss) zero s e = sym (moved_none (suc at) ss)
moved_next at (m ∷ ms) (t ∷ ss) zero s e = let h : t ≡ s = cc in rw h refl
moved_next at [] (t ∷ ss) (suc i) s e = moved_none at (drop i ss) ∙ sym (moved_none (suc at) (drop (suc i) ss))
moved_next at (m ∷ ms) (t ∷ ss) (suc i) s e = moved_next at ms ss i s e

pub moved_joined : (b : Bool) (ns : List (ℕ × State)) (n : ℕ × State) (rest : List (ℕ × State)) → cond b (ns ++ n ∷ []) ns ++ rest ≡ ns ++ cond b (n ∷ rest) rest
moved_joined true ns n rest = append_assoc ns (n ∷ []) rest
moved_joined false ns n rest = refl
