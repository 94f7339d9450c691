-- What stands at the places, as a list and as a map.
use Rattle.std.proofs.Common.{◌≡◌, ℕ, zero, suc, ◌+◌, ◌<◌, List, [], ◌∷◌, length, map, count_by, is_some, set, Option, Some, None, slice_index_or, true, false, cond, refl, ap, sym, ◌∙◌, arith, not, Bool, option_map, IsSome, Result, Ok, Err, OnErr, subst}
use Rattle.std.specs.FinMap.{get, insert, len, retain_keys, get-insert, get-empty, get-retain_keys, len-empty, len-insert, same_map, nat_cmp-IsAntisymmetric, contains_key}
use Rattle.std.specs.Ordering.{nat_cmp, eq_by_cmp}
use Rattle.std.specs.Cmp.{nat_cmp_total}
use Rattle.std.proofs.lemmas.Grind.{common_steps}
use Rattle.std.proofs.lemmas.Bool.Decides.{nat_tests}
use Rattle.scope_pool.specs.Layout.{standing, standing_from, left_by, with_item}
use Rattle.scope_pool.specs.Region.{ScopedItem, exchanged, is_within, OpenScope}

false-ne-true : false ≡ true → ⊥
false-ne-true h = cc

pub eq_same : (n : ℕ) → eq_by_cmp nat_cmp n n ≡ true
eq_same n = grind (arith, nat_tests)

eq_other : (m n : ℕ) → m < n → eq_by_cmp nat_cmp m n ≡ false
eq_other m n h = grind (arith, nat_tests)

eq_above : (m n : ℕ) → n < m → eq_by_cmp nat_cmp m n ≡ false
eq_above m n h = grind (arith, nat_tests)

eq_more : (m n : ℕ) → eq_by_cmp nat_cmp (suc m) (suc n) ≡ eq_by_cmp nat_cmp m n
eq_more m n = grind (arith, nat_tests)

module _ {A : Type 0} where
  none_below : (xs : List (Option A)) (n q : ℕ) → q < n → get (standing_from n xs) q ≡ None
  none_below [] n q h = get-empty nat_cmp q
  none_below (None ∷ xs) n q h = none_below xs (suc n) q (omega arith)
  none_below (Some x ∷ xs) n q h =
      get-insert nat_cmp_total (standing_from (suc n) xs) n x q
      ∙ ap (λ b. cond b (Some x) (get (standing_from (suc n) xs) q)) (eq_other q n h)
      ∙ none_below xs (suc n) q (omega arith)

  get_from : (xs : List (Option A)) (n k q : ℕ) → q ≡ n + k → get (standing_from n xs) q ≡ slice_index_or xs k None
  get_from [] n k q e = get-empty nat_cmp q
  get_from (None ∷ xs) n zero q e = none_below xs (suc n) q (omega arith)
  get_from (None ∷ xs) n (suc k) q e = get_from xs (suc n) k q (omega arith)
  get_from (Some x ∷ xs) n zero q e =
      let here : q ≡ n = omega arith in
      let same : eq_by_cmp nat_cmp q n ≡ true = rw here (eq_same n) in
      get-insert nat_cmp_total (standing_from (suc n) xs) n x q
      ∙ ap (λ b. cond b (Some x) (get (standing_from (suc n) xs) q)) same
  get_from (Some x ∷ xs) n (suc k) q e =
      get-insert nat_cmp_total (standing_from (suc n) xs) n x q
      ∙ ap (λ b. cond b (Some x) (get (standing_from (suc n) xs) q)) (eq_above q n (omega arith))
      ∙ get_from xs (suc n) k q (omega arith)

  -- the map has at each place what the list has there
  pub get_standing : (xs : List (Option A)) (place : ℕ) → get (standing xs) place ≡ slice_index_or xs place None
  get_standing xs place = get_from xs 0 place place (omega arith)

  -- lists that have the same at each place are one map
  pub standing_same : (xs ys : List (Option A)) → ((place : ℕ) → slice_index_or xs place None ≡ slice_index_or ys place None) → standing xs ≡ standing ys
  standing_same xs ys same = same_map nat_cmp_total nat_cmp-IsAntisymmetric (standing xs) (standing ys) (λ q. get_standing xs q ∙ same q ∙ sym (get_standing ys q))

  index_set : (xs : List (Option A)) (n : ℕ) (x : Option A) (q : ℕ) → n < length xs → slice_index_or (set xs n x) q None ≡ cond (eq_by_cmp nat_cmp q n) x (slice_index_or xs q None)
  index_set [] n x q h = absurd (omega arith)
  index_set (y ∷ xs) zero x zero h = refl
  index_set (y ∷ xs) zero x (suc q) h = ap (λ b. cond b x (slice_index_or xs q None)) (sym (eq_above (suc q) zero (omega arith)))
  index_set (y ∷ xs) (suc n) x zero h = ap (λ b. cond b x y) (sym (eq_other zero (suc n) (omega arith)))
  index_set (y ∷ xs) (suc n) x (suc q) h = index_set xs n x q (omega arith) ∙ ap (λ b. cond b x (slice_index_or xs q None)) (sym (eq_more q n))

  -- an item at a place of the list is one at that place of the map
  pub standing_set : (xs : List (Option A)) (n : ℕ) (x : A) → n < length xs → standing (set xs n (Some x)) ≡ insert (standing xs) n x
  standing_set xs n x h = same_map nat_cmp_total nat_cmp-IsAntisymmetric _ _ (λ q.
      get_standing (set xs n (Some x)) q ∙ index_set xs n (Some x) q h
      ∙ ap (λ o. cond (eq_by_cmp nat_cmp q n) (Some x) o) (sym (get_standing xs q)) ∙ sym (get-insert nat_cmp_total (standing xs) n x q))

  len_from : (xs : List (Option A)) (n : ℕ) → len (standing_from n xs) ≡ count_by is_some xs
  len_from [] n = len-empty nat_cmp A
  len_from (None ∷ xs) n = len_from xs (suc n)
  len_from (Some x ∷ xs) n =
      let fresh : contains_key (standing_from (suc n) xs) n ≡ false = ap is_some (none_below xs (suc n) n (omega arith)) in
      let e = len-insert nat_cmp_total (standing_from (suc n) xs) n x in
      let f = len_from xs (suc n) in
      e ∙ ap (λ b. cond b (len (standing_from (suc n) xs)) (len (standing_from (suc n) xs) + 1)) fresh ∙ grind (arith, common_steps, f)

  -- the map has as many items as the list
  pub len_standing : (xs : List (Option A)) → len (standing xs) ≡ count_by is_some xs
  len_standing xs = len_from xs 0

module _ {A : Type 0} where
  pub left_at : (gone : ℕ → Bool) (xs : List (Option (ScopedItem A))) (q : ℕ) → slice_index_or (map (left_by gone) xs) q None ≡ left_by gone (slice_index_or xs q None)
  left_at gone [] q = refl
  left_at gone (x ∷ xs) zero = refl
  left_at gone (x ∷ xs) (suc q) = left_at gone xs q

  -- whether the scope of an item goes
  abbrev goes : (ℕ → Bool) → Option (ScopedItem A) → Bool
  goes gone None = false
  goes gone (Some x) = gone x.scope

  left_if : (gone : ℕ → Bool) (o : Option (ScopedItem A)) → left_by gone o ≡ cond (not (goes gone o)) o None
  left_if gone None = refl
  left_if gone (Some x) = elim (gone x.scope) as (λ b. cond b None (Some x) ≡ cond (not b) (Some x) None) [ true ↦ refl | false ↦ refl ]

  goes_within : (outer : ℕ) (scopes : List OpenScope) (o : Option (ScopedItem A)) → goes (λ n. is_within outer (Some n) scopes) o ≡ is_within outer (option_map (λ x. x.scope) o) scopes
  goes_within outer scopes None = refl
  goes_within outer scopes (Some x) = refl

  -- the items that are left of a list are those whose scopes stay
  pub standing_left : (outer : ℕ) (scopes : List OpenScope) (xs : List (Option (ScopedItem A))) →
      standing (map (left_by (λ n. is_within outer (Some n) scopes)) xs)
      ≡ retain_keys (standing xs) (λ place. not (is_within outer (option_map (λ x. x.scope) (get (standing xs) place)) scopes))
  standing_left outer scopes xs =
      let gone : ℕ → Bool = λ n. is_within outer (Some n) scopes in
      let keeps : ℕ → Bool = λ place. not (is_within outer (option_map (λ x. x.scope) (get (standing xs) place)) scopes) in
      same_map nat_cmp_total nat_cmp-IsAntisymmetric _ _ (λ q.
      get_standing (map (left_by gone) xs) q ∙ left_at gone xs q ∙ ap (left_by gone) (sym (get_standing xs q))
      ∙ left_if gone (get (standing xs) q)
      ∙ ap (λ b. cond (not b) (get (standing xs) q) None) (goes_within outer scopes (get (standing xs) q))
      ∙ sym (get-retain_keys (standing xs) keeps q (λ x e. ap keeps (sym (nat_cmp-IsAntisymmetric q x e)))))

  inside : (xs : List (Option (ScopedItem A))) (n : ℕ) (x : ScopedItem A) → slice_index_or xs n None ≡ Some x → n < length xs
  inside [] n x e = cc
  inside (y ∷ xs) zero x e = omega arith
  inside (y ∷ xs) (suc n) x e = let h = inside xs n x e in omega (arith, h)

  exchanged_at : (xs : List (Option (ScopedItem A))) (n : ℕ) (item : A) (o : Option (ScopedItem A)) → slice_index_or xs n None ≡ o → IsSome o →
      standing (set xs n (option_map (with_item item) o)) ≡ exchanged (standing xs) n item o
  exchanged_at xs n item None e some = absurd (false-ne-true some)
  exchanged_at xs n item (Some x) e some = standing_set xs n (with_item item x) (inside xs n x e)

  -- another item at a place of the list is one at that place of the map
  pub standing_exchanged : (xs : List (Option (ScopedItem A))) (n : ℕ) (item : A) → IsSome (slice_index_or xs n None) →
      standing (set xs n (option_map (with_item item) (slice_index_or xs n None))) ≡ exchanged (standing xs) n item (get (standing xs) n)
  standing_exchanged xs n item some =
      exchanged_at xs n item (slice_index_or xs n None) refl some ∙ ap (exchanged (standing xs) n item) (sym (get_standing xs n))

module _ {A : Type 0} where
  index_here : (xs : List (Option (ScopedItem A))) (n : ℕ) (x : Option (ScopedItem A)) → n < length xs → slice_index_or (set xs n x) n None ≡ x
  index_here [] n x h = absurd (omega arith)
  index_here (y ∷ xs) zero x h = refl
  index_here (y ∷ xs) (suc n) x h = index_here xs n x (omega arith)

  live_here : (xs : List (Option (ScopedItem A))) (n : ℕ) (x : Option (ScopedItem A)) → n < length xs → IsSome x → IsSome (get (standing (set xs n x)) n)
  live_here xs n x h some = subst IsSome (sym (get_standing (set xs n x) n ∙ index_here xs n x h)) some

  -- a place is live once an item was put there
  pub live_put : (xs : List (Option (ScopedItem A))) (n : ℕ) (x : ScopedItem A) → n < length xs → IsSome (get (standing (set xs n (Some x))) n)
  live_put xs n x h = live_here xs n (Some x) h refl

  live_with : (xs : List (Option (ScopedItem A))) (n : ℕ) (item : A) (o : Option (ScopedItem A)) → slice_index_or xs n None ≡ o → IsSome o → IsSome (get (standing (set xs n (option_map (with_item item) o))) n)
  live_with xs n item None e some = absurd (false-ne-true some)
  live_with xs n item (Some x) e some = live_put xs n (with_item item x) (inside xs n x e)

  -- a live place is live with another item
  pub live_exchanged : (xs : List (Option (ScopedItem A))) (n : ℕ) (item : A) → IsSome (slice_index_or xs n None) →
      IsSome (get (standing (set xs n (option_map (with_item item) (slice_index_or xs n None)))) n)
  live_exchanged xs n item some = live_with xs n item (slice_index_or xs n None) refl some

-- what holds anyway holds after an error
pub any_err : {T E P : Type 0} (r : Result T E) → P → OnErr r P
any_err (Ok x) p = tt
any_err (Err e) p = p
