-- Lists of numbers whose pairs rise: one more, one less, and the pair at each index.
use Rattle.std.proofs.Common.{◌≡◌, ℕ, zero, suc, ◌<◌, ◌≤◌, List, [], ◌∷◌, drop, map, length, get_or, refl, ap, arith}
use Rattle.std.specs.List.{AllByRecursion, insert, remove}
use Rattle.std.specs.declared.cmp.Ordering.TheVariants.{Less, Greater}
use Rattle.dep_index.specs.inside.Layout.{Rises, order_of}
use Rattle.dep_index.specs.Pairs.{Link}
use Rattle.dep_index.specs.declared.pair.By.{By}
use Rattle.dep_index.proofs.LinkOrder.{turned}

module _ {X : Type 0} (P : X → Type 0) where
  pub all_at : (xs : List X) → AllByRecursion P xs → (i : ℕ) (d : X) → i < length xs → P (get_or xs i d)
  all_at [] a i d l = absurd (omega arith)
  all_at (x ∷ xs) a zero d l = a.0
  all_at (x ∷ xs) a (suc i) d l = all_at xs a.1 i d (omega arith)

  pub all_from : (d : X) (xs : List X) → ((i : ℕ) → i < length xs → P (get_or xs i d)) → AllByRecursion P xs
  all_from d [] f = tt
  all_from d (x ∷ xs) f = (f 0 (omega arith), all_from d xs (λ i l. f (suc i) (omega arith)))

  pub all_insert : (xs : List X) (i : ℕ) (x : X) → P x → AllByRecursion P xs → AllByRecursion P (insert xs i x)
  all_insert [] zero x h a = (h, tt)
  all_insert [] (suc i) x h a = (h, tt)
  all_insert (y ∷ ys) zero x h a = (h, a)
  all_insert (y ∷ ys) (suc i) x h a = (a.0, all_insert ys i x h a.1)

  pub all_remove : (xs : List X) (i : ℕ) → AllByRecursion P xs → AllByRecursion P (remove xs i)
  all_remove [] zero a = tt
  all_remove [] (suc i) a = tt
  all_remove (y ∷ ys) zero a = a.1
  all_remove (y ∷ ys) (suc i) a = (a.0, all_remove ys i a.1)

module _ {X : Type 0} (f : ℕ → X) where
  pub map-insert : (ns : List ℕ) (i n : ℕ) → map f (insert ns i n) ≡ insert (map f ns) i (f n)
  map-insert [] zero n = refl
  map-insert [] (suc i) n = refl
  map-insert (m ∷ ns) zero n = refl
  map-insert (m ∷ ns) (suc i) n = ap (λ xs. f m ∷ xs) (map-insert ns i n)

  pub map-remove : (ns : List ℕ) (i : ℕ) → map f (remove ns i) ≡ remove (map f ns) i
  map-remove [] zero = refl
  map-remove [] (suc i) = refl
  map-remove (m ∷ ns) zero = refl
  map-remove (m ∷ ns) (suc i) = ap (λ xs. f m ∷ xs) (map-remove ns i)

  pub map-at : (ns : List ℕ) (i d : ℕ) (e : X) → i < length ns → get_or (map f ns) i e ≡ f (get_or ns i d)
  map-at [] i d e l = absurd (omega arith)
  map-at (n ∷ ns) zero d e l = refl
  map-at (n ∷ ns) (suc i) d e l = map-at ns i d e (omega arith)

  pub map-length : (ns : List ℕ) → length (map f ns) ≡ length ns
  map-length [] = refl
  map-length (n ∷ ns) = ap suc (map-length ns)

module _ (by : By) where
  -- the pairs rise from index to index
  pub rising_at : (ls : List Link) (i j : ℕ) (d : Link) → Rises by ls → i < j → j < length ls → order_of by (get_or ls i d) (get_or ls j d) ≡ Less
  rising_at [] i j d h less within = absurd (omega arith)
  rising_at (l ∷ ls) i zero d h less within = absurd (omega arith)
  rising_at (l ∷ ls) zero (suc j) d h less within = all_at (λ m. order_of by l m ≡ Less) ls h.0 j d (omega arith)
  rising_at (l ∷ ls) (suc i) (suc j) d h less within = rising_at ls i j d h.1 (omega arith) (omega arith)

  pub rising_remove : (ls : List Link) (i : ℕ) → Rises by ls → Rises by (remove ls i)
  rising_remove [] zero h = tt
  rising_remove [] (suc i) h = tt
  rising_remove (l ∷ ls) zero h = h.1
  rising_remove (l ∷ ls) (suc i) h = (all_remove (λ m. order_of by l m ≡ Less) ls i h.0, rising_remove ls i h.1)

  pub rising_drop : (ls : List Link) (i : ℕ) → Rises by ls → Rises by (drop i ls)
  rising_drop [] zero h = tt
  rising_drop [] (suc i) h = tt
  rising_drop (l ∷ ls) zero h = h
  rising_drop (l ∷ ls) (suc i) h = rising_drop ls i h.1

  -- a pair between those below it and those above it
  pub rising_insert : (l : Link) (ls : List Link) (i : ℕ) → Rises by ls → i ≤ length ls
      → ((j : ℕ) → j < i → order_of by (get_or ls j l) l ≡ Less)
      → ((j : ℕ) → i ≤ j → j < length ls → order_of by (get_or ls j l) l ≡ Greater)
      → Rises by (insert ls i l)
  rising_insert l [] zero h within before behind = (tt, tt)
  rising_insert l [] (suc i) h within before behind = absurd (omega arith)
  rising_insert l (m ∷ ls) zero h within before behind =
      (all_from (λ k. order_of by l k ≡ Less) l (m ∷ ls) (λ j k. turned by (get_or (m ∷ ls) j l) l (behind j (omega arith) k)), h)
  rising_insert l (m ∷ ls) (suc i) h within before behind = (
    all_insert (λ k. order_of by m k ≡ Less) ls i l (before 0 (omega arith)) h.0,
    rising_insert l ls i h.1 (omega arith) (λ j k. before (suc j) (omega arith)) (λ j k q. behind (suc j) (omega arith) (omega arith)),
  )
