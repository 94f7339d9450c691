-- A pool that has grown shows each tree that was in it as before.
use Rattle.std.proofs.Common.{◌≡◌, ℕ, ◌+◌, Bool, true, false, ◌||◌, ◌==◌, List, [], ◌∷◌, map, cond, Option, Some, None, is_some, option_map, refl, ap, sym, ◌∙◌, subst, arith}
use Rattle.std.proofs.lemmas.Bool.Decides.{nat_tests}
use Rattle.std.specs.Cmp.{nat_cmp_total}
use Rattle.std.specs.FinMap.{get, get-insert, len, len-insert}
use Rattle.std.specs.List.{list_all}
use Rattle.std.specs.Ordering.{eq_by_cmp, nat_cmp}
use Rattle.scope_pool.proofs.StandingLaws.{eq_same}
use Rattle.scope_pool.specs.Region.{IsOpen, Region, ScopedItem, item_at, opened, put_at}
use Rattle.value_core.proofs.Basics.{and_both, and_parts}
use Rattle.visit_rules.proofs.ChangesRight.{all_both}
use Rattle.incr_eval.specs.Pooled.{IsGrown, is_live, seen, seen_step, is_pooled, pooled_step}
use Rattle.visit_rules.specs.declared.instance.Instance.{Instance}
use Rattle.incr_eval.specs.declared.twig.Twig.{Twig}
use Rattle.incr_eval.specs.declared.twig.Twig.TheOpen.{Twig-F}
use Rattle.incr_eval.specs.declared.twig.Twig.TheViews.{roll-Twig}
use Rattle.incr_eval.specs.declared.twig.Twig.TheFolds.{fold-roll-Twig, ind-Twig, map-Twig}
use Rattle.visit_rules.specs.declared.visit.Visit.{Visit}

pub grown_same : (r r' : Region Instance) → r'.items ≡ r.items → r'.scopes ≡ r.scopes → IsGrown r r'
grown_same r r' e f = record { items = λ p h. ap (λ m. get m p) e; scopes = λ s h. subst (λ ss. IsOpen ss s) (sym f) h }

pub grown_trans : (a b c : Region Instance) → IsGrown a b → IsGrown b c → IsGrown a c
grown_trans a b c g h = record {
  items = λ p l. let e = g.items p l in h.items p (ap (λ (o : Option (ScopedItem Instance)). is_some o) e ∙ l) ∙ e;
  scopes = λ s o. h.scopes s (g.scopes s o);
}

module _ (r r' : Region Instance) (grown : IsGrown r r') where
  pub live_stays : (place : ℕ) → is_live r place ≡ true → is_live r' place ≡ true
  live_stays place h = ap (λ (o : Option (ScopedItem Instance)). is_some o) (grown.items place h) ∙ h

  pub record Stays (t : Twig) : Type 0 where
    pub is_pooled : is_pooled r' t ≡ true
    pub seen : seen r' t ≡ seen r t

  abbrev StaysAt : Twig → Type 0
  StaysAt t = is_pooled r t ≡ true → Stays t

  pub record AllStay (ts : List Twig) : Type 0 where
    pub stand : list_all (λ b. b) (map (is_pooled r') ts) ≡ true
    pub seen : map (seen r') ts ≡ map (seen r) ts

  all_stay : (es : List ((t : Twig) × StaysAt t)) → list_all (λ b. b) (map (is_pooled r) (map (λ e. e.0) es)) ≡ true → AllStay (map (λ e. e.0) es)
  all_stay [] h = record { stand = refl; seen = refl }
  all_stay (e ∷ es) h =
      let a = and_parts _ _ h in
      let here = e.1 a.0 in
      let rest = all_stay es a.1 in
      record { stand = and_both _ _ here.is_pooled rest.stand; seen = let x = here.seen in let y = rest.seen in cc }

  stays_layer : (y : Twig-F ((t : Twig) × StaysAt t)) → StaysAt (roll-Twig (map-Twig ((t : Twig) × StaysAt t) Twig (λ e. e.0) y))
  stays_layer y h =
      let x : Twig-F Twig = map-Twig ((t : Twig) × StaysAt t) Twig (λ e. e.0) y in
      let a = and_parts _ _ (sym (fold-roll-Twig Bool (pooled_step r) x) ∙ h) in
      let b = and_parts _ _ a.1 in
      let parts : AllStay x.parts = all_stay y.parts b.0 in
      let bodies : AllStay x.bodies = all_stay y.bodies b.1 in
      let item : item_at r' x.place.number ≡ item_at r x.place.number = ap (λ (o : Option (ScopedItem Instance)). option_map (λ (i : ScopedItem Instance). i.item) o) (grown.items x.place.number a.0) in
      record {
        is_pooled = fold-roll-Twig Bool (pooled_step r') x ∙ all_both _ _ _ (live_stays x.place.number a.0) parts.stand bodies.stand;
        seen = fold-roll-Twig Visit (seen_step r') x ∙ (rw (item, parts.seen, bodies.seen) refl ∙ sym (fold-roll-Twig Visit (seen_step r) x));
      }

  -- a tree that was in the pool still is, and is seen as before
  pub tree_stays : (t : Twig) → StaysAt t
  tree_stays = ind-Twig StaysAt (λ x y is. subst (λ (z : Twig-F Twig). StaysAt (roll-Twig z)) is (stays_layer y))

  pub trees_stay : (ts : List Twig) → list_all (λ b. b) (map (is_pooled r) ts) ≡ true → AllStay ts
  trees_stay [] h = record { stand = refl; seen = refl }
  trees_stay (t ∷ ts) h =
      let a = and_parts _ _ h in
      let here = tree_stays t a.0 in
      let rest = trees_stay ts a.1 in
      record { stand = and_both _ _ here.is_pooled rest.stand; seen = let x = here.seen in let y = rest.seen in cc }

equal : (m n : ℕ) → eq_by_cmp nat_cmp m n ≡ true → m ≡ n
equal m n e = grind (arith, nat_tests)

module _ (r : Region Instance) (place scope : ℕ) (item : Instance) (vacant : get r.items place ≡ None) where
  abbrev x : ScopedItem Instance
  x = record { scope = scope; item = item }

  pub item_put : item_at (put_at r place scope item) place ≡ Some item
  item_put = ap (λ (o : Option (ScopedItem Instance)). option_map (λ (i : ScopedItem Instance). i.item) o)
      (get-insert nat_cmp_total r.items place x place ∙ ap (λ (b : Bool). cond b (Some x) (get r.items place)) (eq_same place))

  pub grown_put : IsGrown r (put_at r place scope item)
  grown_put = record {
    items = λ p h.
        let cases : (b : Bool) → eq_by_cmp nat_cmp p place ≡ b → cond b (Some x) (get r.items p) ≡ get r.items p =
        λ b. elim b as (λ b. eq_by_cmp nat_cmp p place ≡ b → cond b (Some x) (get r.items p) ≡ get r.items p) [
          | true ↦ λ e. let none : get r.items p ≡ None = ap (get r.items) (equal p place e) ∙ vacant in
              let gone : false ≡ true = sym (ap (λ (o : Option (ScopedItem Instance)). is_some o) none) ∙ h in absurd cc
          | false ↦ λ e. refl
        ]
        in get-insert nat_cmp_total r.items place x p ∙ cases (eq_by_cmp nat_cmp p place) refl;
    scopes = λ s h. h;
  }

or-true : (b : Bool) → (b || true) ≡ true
or-true true = refl
or-true false = refl

pub grown_opened : (r : Region Instance) (name : ℕ) (parent : Option ℕ) → IsGrown r (opened r name parent)
grown_opened r name parent = record { items = λ p h. refl; scopes = λ s h. rw h (or-true (name == s)) }

pub len_put : (r : Region Instance) (place scope : ℕ) (item : Instance) → get r.items place ≡ None → len (put_at r place scope item).items ≡ len r.items + 1
len_put r place scope item vacant =
    let e = len-insert nat_cmp_total r.items place (record { scope = scope; item = item }) in
    rw vacant at e
