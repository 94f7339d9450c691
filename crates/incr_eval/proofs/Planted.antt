-- A tree is in a pool once its parts, its bodies and what it keeps were put there.
use Rattle.std.proofs.Common.{◌≡◌, ℕ, ◌+◌, Bool, true, List, [], ◌∷◌, ◌++◌, map, sum, take, Option, Some, None, is_some, option_map, slice_get, refl, ap, ◌∙◌, add-one, arith}
use Rattle.std.proofs.lemmas.List.{map-append}
use Rattle.std.proofs.lemmas.List.Folds.{list_all-append}
use Rattle.std.specs.FinMap.{get}
use Rattle.std.specs.List.{list_all}
use Rattle.scope_pool.specs.Region.{Region, ScopedItem, item_at}
use Rattle.visit_rules.proofs.Telling.{sum-cons}
use Rattle.incr_eval.proofs.PoolGrowth.{grown_trans, trees_stay}
use Rattle.value_core.proofs.Basics.{and_both}
use Rattle.visit_rules.proofs.ChangesRight.{all_both}
use Rattle.visit_rules.proofs.NodesLoop.{take_at}
use Rattle.incr_eval.specs.PatchedTrees.{visit_of}
use Rattle.incr_eval.specs.Pooled.{ArePlanted, IsGrown, IsPlanted, seen, seen_step, is_pooled, pooled_step}
use Rattle.visit_rules.specs.Visits.{all_visits, bodies_of, parts_of, visits_of}
use Rattle.visit_rules.specs.declared.instance.Instance.{Instance}
use Rattle.incr_eval.specs.declared.twig.Twig.{Twig}
use Rattle.incr_eval.specs.declared.twig.Twig.TheOpen.{Twig-F}
use Rattle.incr_eval.specs.declared.twig.Twig.TheViews.{roll-Twig}
use Rattle.incr_eval.specs.declared.twig.Twig.TheFolds.{fold-roll-Twig}
use Rattle.visit_rules.specs.declared.visit.Visit.{Visit}

live_by : (o : Option (ScopedItem Instance)) (i : Instance) → option_map (λ (x : ScopedItem Instance). x.item) o ≡ Some i → is_some o ≡ true
live_by None i e = absurd cc
live_by (Some x) i e = refl

-- a tree, put into a pool after its parts and its bodies
pub planted : (r1 r2 r : Region Instance) (v : Visit) (i : Instance) (x : Twig-F Twig) →
    ArePlanted r1 x.parts (parts_of v) → IsGrown r1 r2 → ArePlanted r2 x.bodies (bodies_of v) → IsGrown r2 r →
    item_at r x.place.number ≡ Some i → visit_of i (parts_of v) (bodies_of v) ≡ v → IsPlanted r (roll-Twig x) v
planted r1 r2 r v i x ps g bs h e whole =
    let parts = trees_stay r1 r (grown_trans r1 r2 r g h) x.parts ps.pooled in
    let bodies = trees_stay r2 r h x.bodies bs.pooled in
    let parts_shown : map (seen r) x.parts ≡ parts_of v = parts.seen ∙ ps.shown in
    let bodies_shown : map (seen r) x.bodies ≡ bodies_of v = bodies.seen ∙ bs.shown in
    record {
      pooled = fold-roll-Twig Bool (pooled_step r) x ∙ all_both _ _ _ (live_by (get r.items x.place.number) i e) parts.stand bodies.stand;
      shown = fold-roll-Twig Visit (seen_step r) x ∙ rw (e, parts_shown, bodies_shown) whole;
    }

-- one tree more
pub planted_more : (r r' : Region Instance) (ts : List Twig) (t : Twig) (vs : List Visit) (v : Visit) →
    ArePlanted r ts vs → IsGrown r r' → IsPlanted r' t v → ArePlanted r' (ts ++ t ∷ []) (vs ++ v ∷ [])
planted_more r r' ts t vs v ps g p =
    let before = trees_stay r r' g ts ps.pooled in
    record {
      pooled = ap (list_all (λ b. b)) (map-append (is_pooled r') ts (t ∷ [])) ∙ (list_all-append (λ b. b) (map (is_pooled r') ts) (map (is_pooled r') (t ∷ [])) ∙ and_both _ _ before.stand (and_both _ _ p.pooled refl));
      shown = map-append (seen r') ts (t ∷ []) ∙ rw (before.seen, ps.shown, p.shown) refl;
    }

sum_more : (vs : List Visit) (v : Visit) → sum (map visits_of (vs ++ v ∷ [])) ≡ sum (map visits_of vs) + visits_of v
sum_more [] v = let h = sum-cons (visits_of v) [] in omega (arith, h)
sum_more (w ∷ vs) v =
    let h = sum-cons (visits_of w) (map visits_of (vs ++ v ∷ [])) in
    let k = sum-cons (visits_of w) (map visits_of vs) in
    let r = sum_more vs v in
    omega (arith, h, k, r)

pub visits_more : (vs : List Visit) (v : Visit) → all_visits (vs ++ v ∷ []) ≡ all_visits vs + visits_of v
visits_more vs v = sum_more vs v

-- one part more
pub planted_next : (r r' : Region Instance) (ts : List Twig) (t : Twig) (vs : List Visit) (i : ℕ) (v : Visit) →
    ArePlanted r ts (take i vs) → IsGrown r r' → IsPlanted r' t v → slice_get vs i ≡ Some v → ArePlanted r' (ts ++ t ∷ []) (take (i + 1) vs)
planted_next r r' ts t vs i v ps g p e = rw (add-one, take_at vs i v e) (planted_more r r' ts t (take i vs) v ps g p)

pub visits_next : (vs : List Visit) (i : ℕ) (v : Visit) → slice_get vs i ≡ Some v → all_visits (take (i + 1) vs) ≡ all_visits (take i vs) + visits_of v
visits_next vs i v e = rw (add-one, take_at vs i v e) (visits_more (take i vs) v)
