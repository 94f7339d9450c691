-- Finite maps of a few entries, written out.
use Rattle.std.proofs.Common.{◌≡◌, Bool, true, false, cond, List, [], ◌∷◌, Option, Some, None, refl, sym, ◌∙◌}
use Rattle.std.specs.declared.cmp.Ordering.{Ordering}
use Rattle.std.specs.Cmp.{IsTotalOrder}
use Rattle.std.specs.Ordering.{eq_by_cmp}
use Rattle.std.specs.FinMap.{IsAntisymmetric, empty, from_entries, remove, get-empty, get-from_entries, get-remove, same_map}
use Rattle.std.specs.FinMap.Entries.{find}

asked_twice : {X : Type 0} (b : Bool) (x y : X) (o : Option X) → cond b (Some x) (cond b (Some y) o) ≡ cond b (Some x) o
asked_twice true x y o = refl
asked_twice false x y o = refl

none_either : {X : Type 0} (b : Bool) → cond {A = Option X} b None None ≡ None
none_either true = refl
none_either false = refl

none_left : {X : Type 0} (b : Bool) (x : X) → cond b None (cond b (Some x) None) ≡ None
none_left true x = refl
none_left false x = refl

module _ {K X : Type 0} {R : K → K → Ordering} (total : IsTotalOrder R) (tells : IsAntisymmetric R) where
  -- of two values of a key the one put last stands
  pub put_over : (k : K) (new old : X) (es : List (K × X)) → from_entries {R = R} ((k, new) ∷ (k, old) ∷ es) ≡ from_entries ((k, new) ∷ es)
  put_over k new old es = same_map total tells _ _ (λ q. get-from_entries total ((k, new) ∷ (k, old) ∷ es) q ∙ asked_twice (eq_by_cmp R q k) new old (find R q es) ∙ sym (get-from_entries total ((k, new) ∷ es) q))

  -- where nothing stands, nothing is taken out
  pub none_out : (k : K) → remove (empty {X = X} {R = R}) k ≡ empty
  none_out k = same_map total tells _ _ (λ q. get-remove total empty k q ∙ (λ i. cond (eq_by_cmp R q k) None (get-empty {X = X} R q i)) ∙ none_either (eq_by_cmp R q k) ∙ sym (get-empty R q))

  -- the only entry is taken out
  pub one_out : (k : K) (v : X) → remove (from_entries {R = R} ((k, v) ∷ [])) k ≡ empty
  one_out k v = same_map total tells _ _ (λ q. get-remove total (from_entries ((k, v) ∷ [])) k q ∙ (λ i. cond (eq_by_cmp R q k) None (get-from_entries total ((k, v) ∷ []) q i)) ∙ none_left (eq_by_cmp R q k) v ∙ sym (get-empty R q))
