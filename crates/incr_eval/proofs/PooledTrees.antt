-- A tree that is in a pool, by its place and its parts.
use Rattle.std.proofs.Common.{◌≡◌, ℕ, zero, suc, ◌<◌, ◌≤◌, Bool, true, List, [], ◌∷◌, map, sum, slice_get, Option, Some, None, IsSome, option_map, refl, ap, sym, ◌∙◌, subst, arith}
use Rattle.std.specs.List.{list_all}
use Rattle.std.specs.FinMap.{get}
use Rattle.value_core.proofs.Basics.{and_parts}
use Rattle.scope_pool.specs.Region.{IsLive, Region, ScopedItem, item_at}
use Rattle.incr_eval.specs.PatchedTrees.{visit_of}
use Rattle.incr_eval.specs.Pooled.{seen, seen_step, is_pooled, pooled_step, visit_at}
use Rattle.visit_rules.specs.declared.instance.Instance.{Instance}
use Rattle.incr_eval.specs.declared.twig.Twig.{Twig}
use Rattle.incr_eval.specs.declared.twig.Twig.TheViews.{out-Twig}
use Rattle.incr_eval.specs.declared.twig.Twig.TheFolds.{fold_out-Twig}
use Rattle.visit_rules.specs.declared.visit.Visit.{Visit}
use Rattle.visit_rules.specs.declared.visit.Visit.TheOpen.{Visit-F}
use Rattle.visit_rules.specs.declared.visit.Visit.TheViews.{out-Visit, out-roll-Visit, roll-Visit, roll-out-Visit}
use Rattle.visit_rules.specs.declared.visit.Visit.TheFolds.{fold_out-Visit}
use Rattle.visit_rules.specs.Visits.{visits_of, visits_step}
use Rattle.visit_rules.proofs.Telling.{sum-cons}

pub record Stands (r : Region Instance) (t : Twig) : Type 0 where
  pub place : IsLive r (out-Twig t).place.number
  pub parts : list_all (λ b. b) (map (is_pooled r) (out-Twig t).parts) ≡ true
  pub bodies : list_all (λ b. b) (map (is_pooled r) (out-Twig t).bodies) ≡ true

pub stands_told : (r : Region Instance) (t : Twig) → is_pooled r t ≡ true → Stands r t
stands_told r t h =
    let a = and_parts _ _ (sym (fold_out-Twig Bool (pooled_step r) t) ∙ h) in
    let b = and_parts _ _ a.1 in
    record { place = a.0; parts = b.0; bodies = b.1 }

pub seen_told : (r : Region Instance) (t : Twig) (i : Instance) → item_at r (out-Twig t).place.number ≡ Some i →
    seen r t ≡ visit_of i (map (seen r) (out-Twig t).parts) (map (seen r) (out-Twig t).bodies)
seen_told r t i e = fold_out-Twig Visit (seen_step r) t ∙ ap (λ (o : Option Instance). visit_at o (map (seen r) (out-Twig t).parts) (map (seen r) (out-Twig t).bodies)) e

pub all_at : {A : Type 0} (p : A → Bool) (xs : List A) (i : ℕ) (x : A) → list_all (λ b. b) (map p xs) ≡ true → slice_get xs i ≡ Some x → p x ≡ true
all_at p [] i x h e = absurd cc
all_at p (y ∷ xs) zero x h e = let k : y ≡ x = cc in subst (λ z. p z ≡ true) k (and_parts _ _ h).0
all_at p (y ∷ xs) (suc i) x h e = all_at p xs i x (and_parts _ _ h).1 e

pub map_at : {A B : Type 0} (f : A → B) (xs : List A) (i : ℕ) (x : A) → slice_get xs i ≡ Some x → slice_get (map f xs) i ≡ Some (f x)
map_at f [] i x e = absurd cc
map_at f (y ∷ xs) zero x e = let k : y ≡ x = cc in ap (λ z. Some (f z)) k
map_at f (y ∷ xs) (suc i) x e = map_at f xs i x e

sum_at : (xs : List ℕ) (i : ℕ) (x : ℕ) → slice_get xs i ≡ Some x → x ≤ sum xs
sum_at [] i x e = absurd cc
sum_at (y ∷ xs) zero x e = let k : y ≡ x = cc in let h = sum-cons y xs in omega (arith, k, h)
sum_at (y ∷ xs) (suc i) x e = let h = sum-cons y xs in let k = sum_at xs i x e in omega (arith, h, k)

pub part_smaller : (v : Visit) (i : ℕ) (p : Visit) → slice_get (out-Visit v).parts i ≡ Some p → visits_of p < visits_of v
part_smaller v i p e =
    let k = sum_at (map visits_of (out-Visit v).parts) i (visits_of p) (map_at visits_of _ i p e) in
    let h = fold_out-Visit ℕ visits_step v in
    omega (arith, k, h)

pub body_smaller : (v : Visit) (i : ℕ) (p : Visit) → slice_get (out-Visit v).bodies i ≡ Some p → visits_of p < visits_of v
body_smaller v i p e =
    let k = sum_at (map visits_of (out-Visit v).bodies) i (visits_of p) (map_at visits_of _ i p e) in
    let h = fold_out-Visit ℕ visits_step v in
    omega (arith, k, h)

item_of : (o : Option (ScopedItem Instance)) → IsSome o → (i : Instance) × (option_map (λ (x : ScopedItem Instance). x.item) o ≡ Some i)
item_of None h = absurd cc
item_of (Some x) h = (x.item, refl)

-- what is seen of a tree that is in a pool
pub record Shown (r : Region Instance) (t : Twig) (v : Visit) : Type 0 where
  pub place : IsLive r (out-Twig t).place.number
  pub parts : (out-Visit v).parts ≡ map (seen r) (out-Twig t).parts
  pub bodies : (out-Visit v).bodies ≡ map (seen r) (out-Twig t).bodies
  pub state : (i : Instance) → item_at r (out-Twig t).place.number ≡ Some i → (out-Visit v).state ≡ i.state
  pub read : (i : Instance) → item_at r (out-Twig t).place.number ≡ Some i → (out-Visit v).read ≡ i.read
  pub items : (i : Instance) → item_at r (out-Twig t).place.number ≡ Some i → (out-Visit v).items ≡ i.items

pub shown : (r : Region Instance) (t : Twig) (v : Visit) → is_pooled r t ≡ true → seen r t ≡ v → Shown r t v
shown r t v s e =
    let told : Stands r t = stands_told r t s in
    let item = item_of (get r.items (out-Twig t).place.number) told.place in
    let opened : (i : Instance) → item_at r (out-Twig t).place.number ≡ Some i →
    out-Visit v ≡ record { state = i.state; read = i.read; items = i.items; parts = map (seen r) (out-Twig t).parts; bodies = map (seen r) (out-Twig t).bodies } =
    λ i is. ap out-Visit (sym e ∙ seen_told r t i is) ∙ out-roll-Visit _
    in
    record {
      place = told.place;
      parts = ap (λ (x : Visit-F Visit). x.parts) (opened item.0 item.1);
      bodies = ap (λ (x : Visit-F Visit). x.bodies) (opened item.0 item.1);
      state = λ i is. ap (λ (x : Visit-F Visit). x.state) (opened i is);
      read = λ i is. ap (λ (x : Visit-F Visit). x.read) (opened i is);
      items = λ i is. ap (λ (x : Visit-F Visit). x.items) (opened i is);
    }

-- a tree is the visit that is made of what it keeps
pub seen_again : (v : Visit) (i : Instance) → (out-Visit v).state ≡ i.state → (out-Visit v).read ≡ i.read → (out-Visit v).items ≡ i.items →
    visit_of i (out-Visit v).parts (out-Visit v).bodies ≡ v
seen_again v i s r t =
    ap roll-Visit (λ k. record { state = sym s k; read = sym r k; items = sym t k; parts = (out-Visit v).parts; bodies = (out-Visit v).bodies }) ∙ roll-out-Visit v
