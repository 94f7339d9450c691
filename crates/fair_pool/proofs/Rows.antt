-- Tickets in a row behind blanks.
use Rattle.std.proofs.Common.{◌≡◌, ℕ, zero, suc, ◌+◌, ◌≤◌, List, [], ◌∷◌, length, drop, refl, ap, arith}
use Rattle.std.specs.Prelude.{insert, remove}

module _ {X : Type 0} where
  insert_past : (b : ℕ) (xs : List X) (n i : ℕ) (x : X) → n ≡ b + i → b ≤ length xs → drop b (insert xs n x) ≡ insert (drop b xs) i x
  insert_past zero xs n i x e l = ap (λ m. insert xs m x) (omega arith)
  insert_past (suc b) [] n i x e l = absurd (omega arith)
  insert_past (suc b) (y ∷ xs) zero i x e l = absurd (omega arith)
  insert_past (suc b) (y ∷ xs) (suc n) i x e l = insert_past b xs n i x (omega arith) (omega arith)

  remove_past : (b : ℕ) (xs : List X) (n i : ℕ) → n ≡ b + i → b ≤ length xs → drop b (remove xs n) ≡ remove (drop b xs) i
  remove_past zero xs n i e l = ap (remove xs) (omega arith)
  remove_past (suc b) [] n i e l = absurd (omega arith)
  remove_past (suc b) (y ∷ xs) zero i e l = absurd (omega arith)
  remove_past (suc b) (y ∷ xs) (suc n) i e l = remove_past b xs n i (omega arith) (omega arith)

  pub drop-insert : (b : ℕ) (xs : List X) (i : ℕ) (x : X) → b ≤ length xs → drop b (insert xs (b + i) x) ≡ insert (drop b xs) i x
  drop-insert b xs i x = insert_past b xs (b + i) i x refl

  pub drop-remove : (b : ℕ) (xs : List X) (i : ℕ) → b ≤ length xs → drop b (remove xs (b + i)) ≡ remove (drop b xs) i
  drop-remove b xs i = remove_past b xs (b + i) i refl
