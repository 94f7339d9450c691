-- The trees whose data is in a pool.
use Rattle.std.specs.Prelude.{◌≡◌, ℕ, Bool, true, ◌&&◌, List, map, Option, Some, None, is_some}
use Rattle.std.specs.FinMap.{get}
use Rattle.std.specs.List.{list_all}
use Rattle.scope_pool.specs.Region.{IsOpen, Region, item_at}
use Rattle.incr_eval.specs.PatchedTrees.{no_visit, visit_of}
use Rattle.visit_rules.specs.declared.instance.Instance.{Instance}
use Rattle.incr_eval.specs.declared.twig.Twig.{Twig}
use Rattle.incr_eval.specs.declared.twig.Twig.TheOpen.{Twig-F}
use Rattle.incr_eval.specs.declared.twig.Twig.TheFolds.{fold-Twig}
use Rattle.visit_rules.specs.declared.visit.Visit.{Visit}

-- a visit with the item at a place
abbrev pub visit_at : Option Instance → List Visit → List Visit → Visit
visit_at (Some i) parts bodies = visit_of i parts bodies
visit_at None parts bodies = no_visit

-- one layer of the tree that is seen
abbrev pub seen_step : Region Instance → Twig-F Visit → Visit
seen_step r x = visit_at (item_at r x.place.number) x.parts x.bodies

-- the tree that is seen in a pool
abbrev pub seen : Region Instance → Twig → Visit
seen r = fold-Twig Visit (seen_step r)

-- whether there is an item at a place
abbrev pub is_live : Region Instance → ℕ → Bool
is_live r place = is_some (get r.items place)

-- whether there is an item at the place of one visit and of each below it, by whether there is for those below
abbrev pub pooled_step : Region Instance → Twig-F Bool → Bool
pooled_step r x = is_live r x.place.number && (list_all (λ b. b) x.parts && list_all (λ b. b) x.bodies)

-- whether there is an item at each place of a tree
abbrev pub is_pooled : Region Instance → Twig → Bool
is_pooled r = fold-Twig Bool (pooled_step r)

-- whether there is one at each place of several trees
abbrev pub all_pooled : Region Instance → List Twig → Bool
all_pooled r ts = list_all (λ b. b) (map (is_pooled r) ts)

-- a tree is in a pool, and is seen as a visit
pub record IsPlanted (r : Region Instance) (t : Twig) (v : Visit) : Type 0 where
  pub pooled : is_pooled r t ≡ true
  pub shown : seen r t ≡ v

-- several trees are in a pool, and are seen as visits
pub record ArePlanted (r : Region Instance) (ts : List Twig) (vs : List Visit) : Type 0 where
  pub pooled : all_pooled r ts ≡ true
  pub shown : map (seen r) ts ≡ vs

-- what was in the pool still is, and what was open still is
pub record IsGrown (r r' : Region Instance) : Type 0 where
  pub items : (place : ℕ) → is_live r place ≡ true → get r'.items place ≡ get r.items place
  pub scopes : (scope : ℕ) → IsOpen r.scopes scope → IsOpen r'.scopes scope
