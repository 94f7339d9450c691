-- Small laws of options, choices, lists and triples.
use Rattle.std.proofs.Common.{◌≡◌, Bool, true, false, cond, ◌&&◌, ◌||◌, ◌⊎◌, inl, inr, List, [], ◌∷◌, ◌++◌, Option, Some, None, refl}
use Rattle.std.proofs.lemmas.Bool.{cond_both}
use Rattle.std.specs.Prelude.{filter, ◌==◌, option_and_then}
use Rattle.std.specs.List.{AllByRecursion, find, list_any}

pub then_some : {A B : Type 0} (f : A → Option B) (o : Option A) (y : B) → option_and_then f o ≡ Some y → (x : A) × (o ≡ Some x) × (f x ≡ Some y)
then_some f None y e = let h : ⊥ = cc in absurd h
then_some f (Some x) y e = (x, refl, e)

pub second_choice : {A : Type 0} (b c : Bool) (x y z : A) → cond b (Some x) (cond c (Some y) None) ≡ Some z → (x ≡ z) ⊎ ((b ≡ false) × ((c ≡ true) × (y ≡ z)))
second_choice true c x y z e = inl cc
second_choice false true x y z e = inr (refl, (refl, cc))
second_choice false false x y z e = let h : ⊥ = cc in absurd h

pub any-append : {X : Type 0} (p : X → Bool) (xs ys : List X) → list_any p (xs ++ ys) ≡ (list_any p xs || list_any p ys)
any-append p [] ys = refl
any-append p (x ∷ xs) ys = elim (p x) as (λ b. (b || list_any p (xs ++ ys)) ≡ ((b || list_any p xs) || list_any p ys)) [ true ↦ refl | false ↦ any-append p xs ys ]

pub find-push : {X : Type 0} (p : X → Bool) (xs : List X) (y x : X) → find p xs ≡ Some x → find p (xs ++ y ∷ []) ≡ Some x
find-push p [] y x e = let h : ⊥ = cc in absurd h
find-push p (w ∷ xs) y x e = elim (p w) as (λ b. cond b (Some w) (find p xs) ≡ Some x → cond b (Some w) (find p (xs ++ y ∷ [])) ≡ Some x) [ true ↦ λ h. h | false ↦ find-push p xs y x ] e

pub find-push_new : {X : Type 0} (p : X → Bool) (xs : List X) (y : X) → find p xs ≡ None → find p (xs ++ y ∷ []) ≡ cond (p y) (Some y) None
find-push_new p [] y e = refl
find-push_new p (w ∷ xs) y e = elim (p w) as (λ b. cond b (Some w) (find p xs) ≡ None → cond b (Some w) (find p (xs ++ y ∷ [])) ≡ cond (p y) (Some y) None) [ true ↦ (λ h. let k : ⊥ = cc in absurd k) | false ↦ find-push_new p xs y ] e

-- ---- all of a list

pub filter_passes : {X : Type 0} (q : X → Bool) (xs : List X) → AllByRecursion (λ x. q x ≡ true) (filter q xs)
filter_passes q [] = tt
filter_passes q (x ∷ xs) = elim (q x) as (λ b. q x ≡ b → AllByRecursion (λ x. q x ≡ true) (cond b (x ∷ filter q xs) (filter q xs))) [ true ↦ λ e. (e, filter_passes q xs) | false ↦ λ e. filter_passes q xs ] refl

pub all_filter : {X : Type 0} (P : X → Type 0) (q : X → Bool) (xs : List X) → AllByRecursion P xs → AllByRecursion P (filter q xs)
all_filter P q [] h = tt
all_filter P q (x ∷ xs) h = cond_both (q x) (x ∷ filter q xs) (filter q xs) (AllByRecursion P) (λ _. (h.0, all_filter P q xs h.1)) (λ _. all_filter P q xs h.1)

pub all_push : {X : Type 0} (P : X → Type 0) (xs : List X) (x : X) → AllByRecursion P xs → P x → AllByRecursion P (xs ++ x ∷ [])
all_push P [] x h p = (p, tt)
all_push P (y ∷ xs) x h p = (h.0, all_push P xs x h.1 p)
