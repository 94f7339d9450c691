-- Whether a visit or one below it passes a test, by its read and by those below it in order.
use Rattle.std.proofs.Common.{◌≡◌, ℕ, zero, suc, ◌+◌, Bool, true, false, ◌||◌, List, [], ◌∷◌, drop, slice_get, Some, refl, ap, ◌∙◌, add-one}
use Rattle.std.specs.List.{list_any}
use Rattle.value_core.proofs.Basics.{any_mapped}
use Rattle.visit_rules.specs.Visits.{Test, bodies_of, parts_of, passes, passes_step}
use Rattle.visit_rules.specs.declared.visit.Visit.{Visit}
use Rattle.visit_rules.specs.declared.visit.Visit.TheViews.{out-Visit}
use Rattle.visit_rules.specs.declared.visit.Visit.TheFolds.{fold_out-Visit}

pub passes_is : (test : Test) (v : Visit) → passes test v ≡ (test (out-Visit v).read || (list_any (passes test) (parts_of v) || list_any (passes test) (bodies_of v)))
passes_is test v = fold_out-Visit Bool (passes_step test) v ∙ rw (any_mapped (passes test) (parts_of v), any_mapped (passes test) (bodies_of v)) refl

any_at : {A : Type 0} (p : A → Bool) (xs : List A) (i : ℕ) (x : A) → slice_get xs i ≡ Some x → list_any p (drop i xs) ≡ (p x || list_any p (drop (suc i) xs))
any_at p [] i x e = absurd cc
any_at p (y ∷ xs) zero x e = let k : y ≡ x = cc in ap (λ z. p z || list_any p xs) k
any_at p (y ∷ xs) (suc i) x e = any_at p xs i x e

-- where one passes
pub any_found : {A : Type 0} (p : A → Bool) (xs : List A) (i : ℕ) (x : A) → slice_get xs i ≡ Some x → p x ≡ true → list_any p (drop i xs) ≡ true
any_found p xs i x e t = any_at p xs i x e ∙ rw t refl

-- where one doesn't pass
pub any_left : {A : Type 0} (p : A → Bool) (xs : List A) (i : ℕ) (x : A) → slice_get xs i ≡ Some x → p x ≡ false → list_any p (drop i xs) ≡ list_any p (drop (i + 1) xs)
any_left p xs i x e f = rw add-one (any_at p xs i x e ∙ rw f refl)
