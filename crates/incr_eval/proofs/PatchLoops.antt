-- What the loops over parts and over items keep: what the patches so far make, with what is left, comes to all.
use Rattle.std.proofs.Common.{◌≡◌, ℕ, zero, suc, ◌+◌, ◌≤◌, List, [], ◌∷◌, ◌++◌, map, drop, length, replicate, Bool, true, false, cond, slice_get, Option, Some, None, refl, ap, append_assoc, arith}
use Rattle.value_core.specs.declared.state.State.{State}
use Rattle.term_core.specs.Evaluation.{Bound, Context}
use Rattle.term_core.specs.declared.program.Term.{Term}
use Rattle.visit_rules.proofs.Telling.{sum-cons}
use Rattle.visit_rules.specs.Again.{Again, again_by, parts_again, ticks_in, unused, visits}
use Rattle.incr_eval.specs.PatchedTrees.{Patching, body_at, patched, patched_bodies, patched_parts}
use Rattle.visit_rules.specs.Visits.{Test, state_of, states}
use Rattle.incr_eval.specs.declared.patch.Patch.{Patch}
use Rattle.visit_rules.specs.declared.visit.Visit.{Visit}

pub drop-nil : {X : Type 0} (n : ℕ) → drop {A = X} n [] ≡ []
drop-nil zero = refl
drop-nil (suc n) = refl

-- what is made, with what is left, comes to all
pub record Comes (made : List Visit) (shown : List State) (steps : ℕ) (left : List Again) (begun : ℕ) (all : List Again) : Type 0 where
  pub visits_kept : made ++ visits left ≡ visits all
  pub states_kept : shown ++ states (visits left) ≡ states (visits all)
  pub ticks_kept : steps + ticks_in left ≡ begun + ticks_in all

pub comes_step : {made : List Visit} {shown : List State} {steps begun : ℕ} {left all : List Again} → Comes made shown steps left begun all →
    (a : Again) (rest : List Again) → left ≡ a ∷ rest → (v : Visit) → v ≡ a.visit → (s : State) → s ≡ state_of a.visit →
    (steps' : ℕ) → steps' ≡ steps + a.ticks → Comes (made ++ v ∷ []) (shown ++ s ∷ []) steps' rest begun all
comes_step {steps = steps} k a rest is v is_v s is_s steps' is_steps =
    let vs = rw is at k.visits_kept in
    let ss = rw is at k.states_kept in
    let ts = rw (is, sum-cons a.ticks (map (λ x. x.ticks) rest)) at k.ticks_kept in
    record { visits_kept = rw (is_v, append_assoc) vs; states_kept = rw (is_s, append_assoc) ss; ticks_kept = rw is_steps (omega (arith, ts)) }

-- the patches so far make this of the parts that there were, and one more makes one visit more
pub parts_more : (fs : List Patching) (f : Patching) (olds : List Visit) → patched_parts (fs ++ f ∷ []) olds ≡ patched_parts fs olds ++ f (slice_get olds (length fs)) ∷ []
parts_more [] f [] = refl
parts_more [] f (v ∷ vs) = refl
parts_more (g ∷ fs) f [] = ap (λ (ws : List Visit). g None ∷ ws) (parts_more fs f [])
parts_more (g ∷ fs) f (v ∷ vs) = ap (λ (ws : List Visit). g (Some v) ∷ ws) (parts_more fs f vs)

pub bodies_more : (fs : List Patching) (f : Patching) (from : List (Option ℕ)) (o : Option ℕ) (olds : List Visit) → length fs ≡ length from →
    patched_bodies (fs ++ f ∷ []) (from ++ o ∷ []) olds ≡ patched_bodies fs from olds ++ f (body_at olds o) ∷ []
bodies_more [] f [] o olds h = refl
bodies_more [] f (p ∷ from) o olds h = absurd (omega arith)
bodies_more (g ∷ fs) f [] o olds h = absurd (omega arith)
bodies_more (g ∷ fs) f (p ∷ from) o olds h = ap (λ (ws : List Visit). g (body_at olds p) ∷ ws) (bodies_more fs f from o olds (omega arith))

pub map_more : (ps : List Patch) (p : Patch) → map patched (ps ++ p ∷ []) ≡ map patched ps ++ patched p ∷ []
map_more [] p = refl
map_more (q ∷ ps) p = ap (λ (fs : List Patching). patched q ∷ fs) (map_more ps p)

pub length-patches : (ps : List Patch) → length (map patched ps) ≡ length ps
length-patches [] = refl
length-patches (p ∷ ps) = ap suc (length-patches ps)

pub parts_cons : (test : Test) (given : Context) (ps : List Term) (olds : List Visit) (bound : Bound) (i : ℕ) (p : Term) → slice_get ps i ≡ Some p →
    parts_again (map (again_by test given) (drop i ps)) (drop i olds) bound
    ≡ again_by test given p (slice_get olds i) bound ∷ parts_again (map (again_by test given) (drop (suc i) ps)) (drop (suc i) olds) bound
parts_cons test given [] olds bound i p e = cc
parts_cons test given (q ∷ ps) [] bound zero p e = let h : q ≡ p = cc in rw h refl
parts_cons test given (q ∷ ps) (v ∷ vs) bound zero p e = let h : q ≡ p = cc in rw h refl
parts_cons test given (q ∷ ps) [] bound (suc i) p e = rw (drop-nil i) at (parts_cons test given ps [] bound i p e)
parts_cons test given (q ∷ ps) (v ∷ vs) bound (suc i) p e = parts_cons test given ps vs bound i p e

pub unused_none : {X : Type 0} (n : ℕ) (xs : List X) → length xs ≤ n → unused (replicate n false) xs ≡ xs
unused_none zero [] h = refl
unused_none zero (x ∷ xs) h = absurd (omega arith)
unused_none (suc n) [] h = refl
unused_none {X = X} (suc n) (x ∷ xs) h = ap (λ (ys : List X). x ∷ ys) (unused_none n xs (omega arith))

pub comes_none : {made : List Visit} {shown : List State} (begun : ℕ) (all : List Again) → made ≡ [] → shown ≡ [] → Comes made shown begun all begun all
comes_none begun all e f = record { visits_kept = rw e refl; states_kept = rw f refl; ticks_kept = refl }

pub body_at_cond : (olds : List Visit) (b : Bool) (p : ℕ) → body_at olds (cond b (Some p) None) ≡ cond b (slice_get olds p) None
body_at_cond olds true p = refl
body_at_cond olds false p = refl
