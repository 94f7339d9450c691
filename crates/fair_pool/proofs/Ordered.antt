-- Lists in an order: where an item has its rank, what it is to put one there and to take it away.
use Rattle.std.proofs.Common.{◌≡◌, ℕ, zero, suc, ◌+◌, ◌<◌, ◌≤◌, Bool, true, false, cond, List, [], ◌∷◌, map, length, get_or, set, refl, sym, ap, ◌∙◌, subst, arith}
use Rattle.std.proofs.lemmas.Bool.{cond_both, false≢true, true≢false}
use Rattle.std.proofs.lemmas.List.{set-get_or}
use Rattle.std.specs.Prelude.{filter, insert, remove}
use Rattle.std.specs.List.{AllByRecursion}
use Rattle.std.specs.List.Sorted.{IsPartitionedBy, IsPartitionPoint}
use Rattle.fair_pool.specs.Order.{leading, placed, displaced, in_order, IsInOrder, Rises}

-- what a test of which of two comes before has to keep: two are not before each other, and not to come before is passed on
pub record IsBefore {X : Type 0} (before : X → X → Bool) : Type 0 where
  pub asym : (a b : X) → before a b ≡ true → before b a ≡ false
  pub upto : (a b c : X) → before b a ≡ false → before c b ≡ false → before c a ≡ false

module _ {X : Type 0} where
  -- what holds of all, holds of all of which it is told
  pub all_since : (P Q : X → Type 0) → ((x : X) → P x → Q x) → (xs : List X) → AllByRecursion P xs → AllByRecursion Q xs
  all_since P Q f [] a = tt
  all_since P Q f (x ∷ xs) a = (f x a.0, all_since P Q f xs a.1)

  pub all_at : (P : X → Type 0) (xs : List X) → AllByRecursion P xs → (i : ℕ) (d : X) → i < length xs → P (get_or xs i d)
  all_at P [] a i d l = absurd (omega arith)
  all_at P (x ∷ xs) a zero d l = a.0
  all_at P (x ∷ xs) a (suc i) d l = all_at P xs a.1 i d (omega arith)

  pub all_filter : (P : X → Type 0) (p : X → Bool) (xs : List X) → AllByRecursion P xs → AllByRecursion P (filter p xs)
  all_filter P p [] a = tt
  all_filter P p (x ∷ xs) a = cond_both (p x) (x ∷ filter p xs) (filter p xs) (AllByRecursion P) (λ _. (a.0, all_filter P p xs a.1)) (λ _. all_filter P p xs a.1)

  -- ---- how many at the front pass

  pub leading_within : (p : X → Bool) (xs : List X) → leading p xs ≤ length xs
  leading_within p [] = omega arith
  leading_within p (x ∷ xs) = cond_both (p x) (suc (leading p xs)) zero (λ n. n ≤ suc (length xs)) (λ _. let h = leading_within p xs in omega arith) (λ _. omega arith)

  -- where a search by halving ends
  pub leading_found : (p : X → Bool) (xs : List X) (i : ℕ) → i ≤ length xs → IsPartitionPoint (λ y. p y ≡ true) (λ y. p y ≡ false) xs i → i ≡ leading p xs
  leading_found p [] i l h = omega arith
  leading_found p (x ∷ xs) zero l h = sym (ap (λ b. cond b (suc (leading p xs)) zero) (h.1 0 x (omega arith) (omega arith)))
  leading_found p (x ∷ xs) (suc i) l h =
      ap suc (leading_found p xs i (omega arith) (λ k d a b. h.0 (suc k) d (omega arith) (omega arith), λ k d a b. h.1 (suc k) d (omega arith) (omega arith)))
      ∙ sym (ap (λ b. cond b (suc (leading p xs)) zero) (h.0 0 x (omega arith) (omega arith)))

  module _ (before : X → X → Bool) where
    pub placed_insert : (k : X) (xs : List X) → placed before k xs ≡ insert xs (leading (λ x. before x k) xs) k
    placed_insert k [] = refl
    placed_insert k (x ∷ xs) = elim (before x k) as (λ b. cond b (x ∷ placed before k xs) (k ∷ x ∷ xs) ≡ insert (x ∷ xs) (cond b (suc (leading (λ y. before y k) xs)) zero) k) [
      | true ↦ ap (λ ys. x ∷ ys) (placed_insert k xs)
      | false ↦ refl
    ]

    pub displaced_remove : (k : X) (xs : List X) → leading (λ x. before x k) xs < length xs → displaced before k xs ≡ remove xs (leading (λ x. before x k) xs)
    displaced_remove k [] = λ l. refl
    displaced_remove k (x ∷ xs) = elim (before x k) as (λ b. cond b (suc (leading (λ y. before y k) xs)) zero < suc (length xs) → cond b (x ∷ displaced before k xs) xs ≡ remove (x ∷ xs) (cond b (suc (leading (λ y. before y k) xs)) zero)) [
      | true ↦ λ l. ap (λ ys. x ∷ ys) (displaced_remove k xs (omega arith))
      | false ↦ λ l. refl
    ]

    pub all_placed : (P : X → Type 0) (k : X) (xs : List X) → P k → AllByRecursion P xs → AllByRecursion P (placed before k xs)
    all_placed P k [] h a = (h, tt)
    all_placed P k (x ∷ xs) h a = cond_both (before x k) (x ∷ placed before k xs) (k ∷ x ∷ xs) (AllByRecursion P) (λ _. (a.0, all_placed P k xs h a.1)) (λ _. (h, a))

    pub all_in_order : (P : X → Type 0) (xs : List X) → AllByRecursion P xs → AllByRecursion P (in_order before xs)
    all_in_order P [] a = tt
    all_in_order P (x ∷ xs) a = all_placed P x (in_order before xs) a.0 (all_in_order P xs a.1)

    pub all_displaced : (P : X → Type 0) (k : X) (xs : List X) → AllByRecursion P xs → AllByRecursion P (displaced before k xs)
    all_displaced P k [] a = tt
    all_displaced P k (x ∷ xs) a = cond_both (before x k) (x ∷ displaced before k xs) xs (AllByRecursion P) (λ _. (a.0, all_displaced P k xs a.1)) (λ _. a.1)

    pub length_placed : (k : X) (xs : List X) → length (placed before k xs) ≡ length xs + 1
    length_placed k [] = refl
    length_placed k (x ∷ xs) = cond_both (before x k) (x ∷ placed before k xs) (k ∷ x ∷ xs) (λ ys. length ys ≡ suc (length xs) + 1) (λ _. let h = length_placed k xs in omega arith) (λ _. omega arith)

    pub length_in_order : (xs : List X) → length (in_order before xs) ≡ length xs
    length_in_order [] = refl
    length_in_order (x ∷ xs) = length_placed x (in_order before xs) ∙ (let h = length_in_order xs in omega arith)

    module _ (o : IsBefore before) where
      pub not_itself : (k : X) → before k k ≡ false
      not_itself k = elim (before k k) as (λ b. before k k ≡ b → b ≡ false) [ true ↦ λ e. absurd (true≢false (sym e ∙ o.asym k k e)) | false ↦ λ e. refl ] refl

      pub chains : (a b c : X) → before a b ≡ true → before b c ≡ true → before a c ≡ true
      chains a b c p q = elim (before a c) as (λ t. before a c ≡ t → t ≡ true) [
        | true ↦ λ e. refl
        | false ↦ λ e. absurd (false≢true (sym (o.upto c a b e (o.asym a b p)) ∙ q))
      ] refl

      -- what is put in and taken away again
      pub displaced-placed : (k : X) (xs : List X) → displaced before k (placed before k xs) ≡ xs
      displaced-placed k [] = ap (λ b. cond b (k ∷ []) []) (not_itself k)
      displaced-placed k (x ∷ xs) = elim (before x k) as (λ b. before x k ≡ b → displaced before k (cond b (x ∷ placed before k xs) (k ∷ x ∷ xs)) ≡ x ∷ xs) [
        | true ↦ λ e. ap (λ b. cond b (x ∷ displaced before k (placed before k xs)) (placed before k xs)) e ∙ ap (λ ys. x ∷ ys) (displaced-placed k xs)
        | false ↦ λ e. ap (λ b. cond b (k ∷ displaced before k (x ∷ xs)) (x ∷ xs)) (not_itself k)
      ] refl

      pub leading-placed : (k : X) (xs : List X) → leading (λ x. before x k) (placed before k xs) < length (placed before k xs)
      leading-placed k [] = subst (λ b. cond b 1 zero < 1) (sym (not_itself k)) (omega arith)
      leading-placed k (x ∷ xs) = elim (before x k) as (λ b. before x k ≡ b → leading (λ x. before x k) (cond b (x ∷ placed before k xs) (k ∷ x ∷ xs)) < length (cond b (x ∷ placed before k xs) (k ∷ x ∷ xs))) [
        | true ↦ λ e. subst (λ b. cond b (suc (leading (λ x. before x k) (placed before k xs))) zero < suc (length (placed before k xs))) (sym e) (let h = leading-placed k xs in omega arith)
        | false ↦ λ e. subst (λ b. cond b (suc (leading (λ x. before x k) (x ∷ xs))) zero < suc (suc (length xs))) (sym (not_itself k)) (omega arith)
      ] refl

      placed_both : (a b x : X) (xs : List X) → before a b ≡ true → placed before a (placed before b xs) ≡ placed before b (placed before a xs) → (s t : Bool) → before x a ≡ s → before x b ≡ t →
          placed before a (cond t (x ∷ placed before b xs) (b ∷ x ∷ xs)) ≡ placed before b (cond s (x ∷ placed before a xs) (a ∷ x ∷ xs))
      placed_both a b x xs e rest true true p q =
          ap (λ t. cond t (x ∷ placed before a (placed before b xs)) (a ∷ x ∷ placed before b xs)) p ∙ ap (λ ys. x ∷ ys) rest
          ∙ sym (ap (λ t. cond t (x ∷ placed before b (placed before a xs)) (b ∷ x ∷ placed before a xs)) q)
      placed_both a b x xs e rest true false p q = absurd (true≢false (sym (chains x a b p e) ∙ q))
      placed_both a b x xs e rest false true p q =
          ap (λ t. cond t (x ∷ placed before a (placed before b xs)) (a ∷ x ∷ placed before b xs)) p
          ∙ sym (ap (λ t. cond t (a ∷ placed before b (x ∷ xs)) (b ∷ a ∷ x ∷ xs)) e ∙ ap (λ t. a ∷ cond t (x ∷ placed before b xs) (b ∷ x ∷ xs)) q)
      placed_both a b x xs e rest false false p q =
          ap (λ t. cond t (b ∷ placed before a (x ∷ xs)) (a ∷ b ∷ x ∷ xs)) (o.asym a b e)
          ∙ sym (ap (λ t. cond t (a ∷ placed before b (x ∷ xs)) (b ∷ a ∷ x ∷ xs)) e ∙ ap (λ t. a ∷ cond t (x ∷ placed before b xs) (b ∷ x ∷ xs)) q)

      -- two items can be put in one after the other either way, where one of them comes before the other
      pub placed-placed : (a b : X) (xs : List X) → before a b ≡ true → placed before a (placed before b xs) ≡ placed before b (placed before a xs)
      placed-placed a b [] e = ap (λ t. cond t (b ∷ a ∷ []) (a ∷ b ∷ [])) (o.asym a b e) ∙ sym (ap (λ t. cond t (a ∷ b ∷ []) (b ∷ a ∷ [])) e)
      placed-placed a b (x ∷ xs) e = placed_both a b x xs e (placed-placed a b xs e) (before x a) (before x b) refl refl

      in_order_all : (k x : X) (xs : List X) → before x k ≡ false → AllByRecursion (λ y. before y x ≡ false) xs → AllByRecursion (λ y. before y k ≡ false) xs
      in_order_all k x xs e = all_since (λ y. before y x ≡ false) (λ y. before y k ≡ false) (λ y h. o.upto k x y e h) xs

      -- an item put in its place keeps the order
      pub IsInOrder-placed : (k : X) (xs : List X) → IsInOrder before xs → IsInOrder before (placed before k xs)
      IsInOrder-placed k [] h = (tt, tt)
      IsInOrder-placed k (x ∷ xs) h = cond_both (before x k) (x ∷ placed before k xs) (k ∷ x ∷ xs) (IsInOrder before)
          (λ e. (all_placed (λ y. before y x ≡ false) k xs (o.asym x k e) h.0, IsInOrder-placed k xs h.1))
          (λ e. ((e, in_order_all k x xs e h.0), h))

      pub IsInOrder-in_order : (xs : List X) → IsInOrder before (in_order before xs)
      IsInOrder-in_order [] = tt
      IsInOrder-in_order (x ∷ xs) = IsInOrder-placed x (in_order before xs) (IsInOrder-in_order xs)

      pub IsInOrder-displaced : (k : X) (xs : List X) → IsInOrder before xs → IsInOrder before (displaced before k xs)
      IsInOrder-displaced k [] h = tt
      IsInOrder-displaced k (x ∷ xs) h = cond_both (before x k) (x ∷ displaced before k xs) xs (IsInOrder before)
          (λ e. (all_displaced (λ y. before y x ≡ false) k xs h.0, IsInOrder-displaced k xs h.1)) (λ e. h.1)

      -- what a search by halving asks
      pub parted : (k : X) (xs : List X) → IsInOrder before xs → IsPartitionedBy (λ x. before x k) xs
      parted k [] h i j d l m e = absurd (omega arith)
      parted k (x ∷ xs) h zero zero d l m e = e
      parted k (x ∷ xs) h zero (suc j) d l m e = elim (before x k) as (λ t. before x k ≡ t → t ≡ true) [
        | true ↦ λ p. refl
        | false ↦ λ p. absurd (false≢true (sym (o.upto k x (get_or xs j d) p (all_at (λ y. before y x ≡ false) xs h.0 j d (omega arith))) ∙ e))
      ] refl
      parted k (x ∷ xs) h (suc i) zero d l m e = absurd (omega arith)
      parted k (x ∷ xs) h (suc i) (suc j) d l m e = parted k xs h.1 i j d (omega arith) (omega arith) e

      pub IsInOrder-Rises : (xs : List X) → Rises before xs → IsInOrder before xs
      IsInOrder-Rises [] h = tt
      IsInOrder-Rises (x ∷ xs) h = (all_since (λ y. before x y ≡ true) (λ y. before y x ≡ false) (λ y e. o.asym x y e) xs h.0, IsInOrder-Rises xs h.1)

      -- an item put in its place, where it comes before or after each of the others
      pub Rises-placed : (k : X) (xs : List X) → AllByRecursion (λ x. before x k ≡ false → before k x ≡ true) xs → Rises before xs → Rises before (placed before k xs)
      Rises-placed k [] a h = (tt, tt)
      Rises-placed k (x ∷ xs) a h = cond_both (before x k) (x ∷ placed before k xs) (k ∷ x ∷ xs) (Rises before)
          (λ e. (all_placed (λ y. before x y ≡ true) k xs e h.0, Rises-placed k xs a.1 h.1))
          (λ e. ((a.0 e, all_since (λ y. before x y ≡ true) (λ y. before k y ≡ true) (λ y f. chains k x y (a.0 e) f) xs h.0), h))

    pub Rises-filter : (p : X → Bool) (xs : List X) → Rises before xs → Rises before (filter p xs)
    Rises-filter p [] h = tt
    Rises-filter p (x ∷ xs) h = cond_both (p x) (x ∷ filter p xs) (filter p xs) (Rises before) (λ _. (all_filter (λ y. before x y ≡ true) p xs h.0, Rises-filter p xs h.1)) (λ _. Rises-filter p xs h.1)

  -- ---- an item taken away and put in again, or another in its place
  pub remove_more : (x : X) (xs : List X) (i : ℕ) → remove (x ∷ xs) (suc i) ≡ x ∷ remove xs i
  remove_more x xs i = refl

  pub insert-remove : (xs : List X) (i : ℕ) (y : X) → i < length xs → insert (remove xs i) i y ≡ set xs i y
  insert-remove [] i y l = absurd (omega arith)
  insert-remove (x ∷ xs) zero y l = refl
  insert-remove (x ∷ xs) (suc i) y l = ap (λ ys. x ∷ ys) (insert-remove xs i y (omega arith))

  pub restored : (xs : List X) (i : ℕ) (d : X) → i < length xs → insert (remove xs i) i (get_or xs i d) ≡ xs
  restored xs i d l = insert-remove xs i (get_or xs i d) l ∙ set-get_or xs i d

-- the same through a function that keeps which of two comes before
pub map-placed : {X Y : Type 0} (b : X → X → Bool) (c : Y → Y → Bool) (f : X → Y) → ((x y : X) → c (f x) (f y) ≡ b x y) → (k : X) (xs : List X) → map f (placed b k xs) ≡ placed c (f k) (map f xs)
map-placed b c f same k [] = refl
map-placed b c f same k (x ∷ xs) = elim (b x k) as (λ t. b x k ≡ t → map f (cond t (x ∷ placed b k xs) (k ∷ x ∷ xs)) ≡ cond (c (f x) (f k)) (f x ∷ placed c (f k) (map f xs)) (f k ∷ f x ∷ map f xs)) [
  | true ↦ λ e. ap (λ ys. f x ∷ ys) (map-placed b c f same k xs) ∙ sym (ap (λ t. cond t (f x ∷ placed c (f k) (map f xs)) (f k ∷ f x ∷ map f xs)) (same x k ∙ e))
  | false ↦ λ e. sym (ap (λ t. cond t (f x ∷ placed c (f k) (map f xs)) (f k ∷ f x ∷ map f xs)) (same x k ∙ e))
] refl
