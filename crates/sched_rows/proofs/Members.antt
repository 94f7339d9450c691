-- What is in a list that is made from others.
use Rattle.std.proofs.Common.{◌≡◌, ◌⊎◌, ℕ, zero, suc, ◌+◌, ◌<◌, ◌≤◌, Bool, true, false, List, [], ◌∷◌, map, Some, None, min, refl, sym, ap, subst, ◌∙◌, inl, inr, ℤ, pos, negsuc, ◌+ℤ◌, ◌≤ℤ◌, ◌<ℤ◌, arith}
use Rattle.std.proofs.lemmas.Bool.{cases_Bool, cases_lt, false≢true, or_cases, or_left, or_right}
use Rattle.std.proofs.lemmas.Int.{by_lt_z}
use Rattle.std.proofs.lemmas.Option.{none-some, same_Some}
use Rattle.std.specs.List.{filter, list_any, range_with_len}
use Rattle.std.specs.Option.{option_map_or}
use Rattle.jiff_core.proofs.SignedLemmas.{signed_arith}
use Rattle.sched_rows.specs.Instants.{run_of, times_of}
use Rattle.sched_rows.specs.Validity.{least}

-- x is one of the list's items
abbrev pub IsIn : {X : Type 0} → X → List X → Type 0
IsIn x [] = ⊥
IsIn x (y ∷ ys) = (x ≡ y) ⊎ IsIn x ys

-- a test that an item passes
pub any_found : {X : Type 0} (p : X → Bool) (xs : List X) → list_any p xs ≡ true → (x : X) × IsIn x xs × (p x ≡ true)
any_found p [] h = absurd (false≢true h)
any_found p (x ∷ xs) h = elim (or_cases (p x) (list_any p xs) h) [
  | inl here ↦ (x, inl refl, here)
  | inr later ↦ let f = any_found p xs later in (f.0, inr f.1, f.2)
]

pub any_in : {X : Type 0} (p : X → Bool) (xs : List X) (x : X) → IsIn x xs → p x ≡ true → list_any p xs ≡ true
any_in p [] x h is = absurd h
any_in p (y ∷ ys) x (inl e) is = or_left (p y) (list_any p ys) (ap p (sym e) ∙ is)
any_in p (y ∷ ys) x (inr h) is = or_right (p y) (list_any p ys) (any_in p ys x h is)

-- a test that none passes
pub none_in : {X : Type 0} (p : X → Bool) (xs : List X) → ((x : X) → IsIn x xs → p x ≡ true → ⊥) → list_any p xs ≡ false
none_in p xs none = elim (cases_Bool (list_any p xs)) [
  | inl t ↦ let f = any_found p xs t in absurd (none f.0 f.1 f.2)
  | inr f ↦ f
]

-- a list made by a function
pub map_in : {X Y : Type 0} (f : X → Y) (xs : List X) (x : X) → IsIn x xs → IsIn (f x) (map f xs)
map_in f [] x h = h
map_in f (y ∷ ys) x (inl e) = inl (ap f e)
map_in f (y ∷ ys) x (inr h) = inr (map_in f ys x h)

pub map_found : {X Y : Type 0} (f : X → Y) (xs : List X) (y : Y) → IsIn y (map f xs) → (x : X) × IsIn x xs × (y ≡ f x)
map_found f [] y h = absurd h
map_found f (x ∷ xs) y (inl e) = (x, inl refl, e)
map_found f (x ∷ xs) y (inr h) = let r = map_found f xs y h in (r.0, inr r.1, r.2)

-- the items that pass a test
pub filter_in : {X : Type 0} (p : X → Bool) (xs : List X) (x : X) → IsIn x xs → p x ≡ true → IsIn x (filter p xs)
filter_in p [] x h is = h
filter_in p (y ∷ ys) x (inl e) is = rw (ap p (sym e) ∙ is) (inl e)
filter_in p (y ∷ ys) x (inr h) is = elim (cases_Bool (p y)) [
  | inl t ↦ rw t (inr (filter_in p ys x h is))
  | inr f ↦ rw f (filter_in p ys x h is)
]

pub filter_found : {X : Type 0} (p : X → Bool) (xs : List X) (x : X) → IsIn x (filter p xs) → IsIn x xs × (p x ≡ true)
filter_found p [] x h = absurd h
filter_found p (y ∷ ys) x h = elim (cases_Bool (p y)) [
  | inl t ↦ elim (rw t at h) [
    | inl e ↦ (inl e, ap p e ∙ t)
    | inr r ↦ let q = filter_found p ys x r in (inr q.0, q.1)
  ]
  | inr f ↦ let q = filter_found p ys x (rw f at h) in (inr q.0, q.1)
]

-- whole numbers one after another
pub run_in : (z first : ℤ) (n : ℕ) → first ≤ℤ z → z <ℤ (first +ℤ pos n) → IsIn z (run_of first n)
unfolding run_of
run_in z first zero low high = absurd (omega (arith, signed_arith))
run_in z first (suc n) low high = by_lt_z first z
    (λ more. inr (run_in z (first +ℤ pos 1) n (omega (arith, signed_arith)) (omega (arith, signed_arith))))
    (λ no_more. inl (omega (arith, signed_arith)))

pub run_found : (z first : ℤ) (n : ℕ) → IsIn z (run_of first n) → (first ≤ℤ z) × (z <ℤ (first +ℤ pos n))
unfolding run_of
run_found z first zero h = absurd h
run_found z first (suc n) (inl e) = (omega (arith, signed_arith), omega (arith, signed_arith))
run_found z first (suc n) (inr h) = let r = run_found z (first +ℤ pos 1) n h in (omega (arith, signed_arith), omega (arith, signed_arith))

pub range_in : (x first n : ℕ) → first ≤ x → x < first + n → IsIn x (range_with_len first n)
range_in x first zero low high = absurd (omega arith)
range_in x first (suc n) low high = elim (cases_lt first x) [
  | inl more ↦ inr (range_in x (first + 1) n (omega arith) (omega arith))
  | inr no_more ↦ inl (omega arith)
]

pub range_found : (x first n : ℕ) → IsIn x (range_with_len first n) → (first ≤ x) × (x < first + n)
range_found x first zero h = absurd h
range_found x first (suc n) (inl e) = (omega arith, omega arith)
range_found x first (suc n) (inr h) = let r = range_found x (first + 1) n h in (omega arith, omega arith)

-- times
pub time_in : (t : ℕ) (zs : List ℤ) → IsIn (pos t) zs → IsIn t (times_of zs)
time_in t [] h = h
time_in t (z ∷ zs) (inl e) = rw (← e) (inl refl)
time_in t (z ∷ zs) (inr h) = elim z as (λ z. IsIn t (times_of (z ∷ zs))) [
  | pos n ↦ inr (time_in t zs h)
  | negsuc n ↦ time_in t zs h
]

pub time_found : (t : ℕ) (zs : List ℤ) → IsIn t (times_of zs) → IsIn (pos t) zs
time_found t [] h = h
time_found t (pos n ∷ zs) (inl e) = inl (ap pos e)
time_found t (pos n ∷ zs) (inr h) = inr (time_found t zs h)
time_found t (negsuc n ∷ zs) h = inr (time_found t zs h)

-- the least of some numbers is one of them, and none is below it
least_of : (x : ℕ) (xs : List ℕ) → (t : ℕ) × (least (x ∷ xs) ≡ Some t) × IsIn t (x ∷ xs) × ((u : ℕ) → IsIn u (x ∷ xs) → t ≤ u)
least_of x [] = (x, refl, inl refl, λ u h. elim h [ inl e ↦ omega arith | inr none ↦ absurd none ])
least_of x (y ∷ ys) =
    let r = least_of y ys in
    elim (cases_lt r.0 x) [
      | inl below ↦ (r.0, ap (λ o. Some (option_map_or (min x) o x)) r.1 ∙ ap Some (omega arith), inr r.2, λ u h. elim h [ inl e ↦ omega arith | inr more ↦ r.3 u more ])
      | inr above ↦ (x, ap (λ o. Some (option_map_or (min x) o x)) r.1 ∙ ap Some (omega arith), inl refl, λ u h. elim h [ inl e ↦ omega arith | inr more ↦ omega (arith, r.3 u more) ])
    ]

pub least_is : (xs : List ℕ) (t : ℕ) → IsIn t xs → ((u : ℕ) → IsIn u xs → t ≤ u) → least xs ≡ Some t
least_is [] t h low = absurd h
least_is (x ∷ xs) t h low =
    let r = least_of x xs in
    r.1 ∙ ap Some (omega (arith, low r.0 r.2, r.3 t h))

pub least_none : (xs : List ℕ) → ((u : ℕ) → IsIn u xs → ⊥) → least xs ≡ None
least_none [] none = refl
least_none (x ∷ xs) none = absurd (none x (inl refl))

pub least_found : (xs : List ℕ) (t : ℕ) → least xs ≡ Some t → IsIn t xs × ((u : ℕ) → IsIn u xs → t ≤ u)
least_found [] t e = absurd (none-some t e)
least_found (x ∷ xs) t e =
    let r = least_of x xs in
    let same : r.0 ≡ t = same_Some r.0 t (sym r.1 ∙ e) in
    (subst (λ (v : ℕ). IsIn v (x ∷ xs)) same r.2, λ u h. omega (arith, r.3 u h))

pub least_nothing : (xs : List ℕ) (u : ℕ) → least xs ≡ None → IsIn u xs → ⊥
least_nothing [] u e h = h
least_nothing (x ∷ xs) u e h = none-some _ (sym e)
