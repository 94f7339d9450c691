-- What stands at a place of a list after an edit.
use Rattle.std.proofs.Common.{◌≡◌, ◌≢◌, ℕ, zero, suc, ◌<◌, ◌≤◌, List, [], ◌∷◌, length, set, Some, refl, ap, arith}
use Rattle.std.specs.List.{insert, remove, slice_get}

pub slice_get-insert_below : {X : Type 0} (xs : List X) (i : ℕ) (x : X) (k : ℕ) → k < i → i ≤ length xs → slice_get (insert xs i x) k ≡ slice_get xs k
slice_get-insert_below [] i x k less within = absurd (omega arith)
slice_get-insert_below (y ∷ ys) zero x k less within = absurd (omega arith)
slice_get-insert_below (y ∷ ys) (suc i) x zero less within = refl
slice_get-insert_below (y ∷ ys) (suc i) x (suc k) less within = slice_get-insert_below ys i x k (omega arith) (omega arith)

pub slice_get-insert_at : {X : Type 0} (xs : List X) (i : ℕ) (x : X) → i ≤ length xs → slice_get (insert xs i x) i ≡ Some x
slice_get-insert_at [] zero x within = refl
slice_get-insert_at [] (suc i) x within = absurd (omega arith)
slice_get-insert_at (y ∷ ys) zero x within = refl
slice_get-insert_at (y ∷ ys) (suc i) x within = slice_get-insert_at ys i x (omega arith)

pub slice_get-insert_above : {X : Type 0} (xs : List X) (i : ℕ) (x : X) (k : ℕ) → i ≤ k → i ≤ length xs → slice_get (insert xs i x) (suc k) ≡ slice_get xs k
slice_get-insert_above [] zero x k more within = refl
slice_get-insert_above [] (suc i) x k more within = absurd (omega arith)
slice_get-insert_above (y ∷ ys) zero x k more within = refl
slice_get-insert_above (y ∷ ys) (suc i) x zero more within = absurd (omega arith)
slice_get-insert_above (y ∷ ys) (suc i) x (suc k) more within = slice_get-insert_above ys i x k (omega arith) (omega arith)

pub slice_get-remove_below : {X : Type 0} (xs : List X) (i k : ℕ) → k < i → slice_get (remove xs i) k ≡ slice_get xs k
slice_get-remove_below [] zero k less = refl
slice_get-remove_below [] (suc i) k less = refl
slice_get-remove_below (y ∷ ys) zero k less = absurd (omega arith)
slice_get-remove_below (y ∷ ys) (suc i) zero less = refl
slice_get-remove_below (y ∷ ys) (suc i) (suc k) less = slice_get-remove_below ys i k (omega arith)

pub slice_get-remove_above : {X : Type 0} (xs : List X) (i k : ℕ) → i ≤ k → slice_get (remove xs i) k ≡ slice_get xs (suc k)
slice_get-remove_above [] zero k more = refl
slice_get-remove_above [] (suc i) k more = refl
slice_get-remove_above (y ∷ ys) zero k more = refl
slice_get-remove_above (y ∷ ys) (suc i) zero more = absurd (omega arith)
slice_get-remove_above (y ∷ ys) (suc i) (suc k) more = slice_get-remove_above ys i k (omega arith)

pub slice_get-set_same : {X : Type 0} (xs : List X) (i : ℕ) (x : X) → i < length xs → slice_get (set xs i x) i ≡ Some x
slice_get-set_same [] i x within = absurd (omega arith)
slice_get-set_same (y ∷ ys) zero x within = refl
slice_get-set_same (y ∷ ys) (suc i) x within = slice_get-set_same ys i x (omega arith)

pub slice_get-set_other : {X : Type 0} (xs : List X) (i : ℕ) (x : X) (k : ℕ) → k ≢ i → slice_get (set xs i x) k ≡ slice_get xs k
slice_get-set_other [] zero x k apart = refl
slice_get-set_other [] (suc i) x k apart = refl
slice_get-set_other (y ∷ ys) zero x zero apart = absurd (apart refl)
slice_get-set_other (y ∷ ys) zero x (suc k) apart = refl
slice_get-set_other (y ∷ ys) (suc i) x zero apart = refl
slice_get-set_other (y ∷ ys) (suc i) x (suc k) apart = slice_get-set_other ys i x k (λ e. apart (ap suc e))
