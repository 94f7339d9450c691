-- Lists in an order, which is told by a test of whether an item comes before another.
use Rattle.std.specs.Prelude.{◌≡◌, ℕ, zero, suc, Bool, true, false, if◌then◌else◌, List, [], ◌∷◌}
use Rattle.std.specs.List.{AllByRecursion}

-- how many items at the front pass a test
abbrev pub leading : {X : Type 0} → (X → Bool) → List X → ℕ
leading test [] = zero
leading test (x ∷ xs) = if test x then suc (leading test xs) else zero

-- the list with an item put in front of the first that doesn't come before it
abbrev pub placed : {X : Type 0} → (X → X → Bool) → X → List X → List X
placed before k [] = k ∷ []
placed before k (x ∷ xs) = if before x k then x ∷ placed before k xs else k ∷ x ∷ xs

-- the list without the first item that doesn't come before another
abbrev pub displaced : {X : Type 0} → (X → X → Bool) → X → List X → List X
displaced before k [] = []
displaced before k (x ∷ xs) = if before x k then x ∷ displaced before k xs else xs

-- the items, each in its place
abbrev pub in_order : {X : Type 0} → (X → X → Bool) → List X → List X
in_order before [] = []
in_order before (x ∷ xs) = placed before x (in_order before xs)

-- no item comes before an earlier one
abbrev pub IsInOrder : {X : Type 0} → (X → X → Bool) → List X → Type 0
IsInOrder before [] = Unit {0}
IsInOrder before (x ∷ xs) = AllByRecursion (λ y. before y x ≡ false) xs × IsInOrder before xs

-- each item comes before each later one
abbrev pub Rises : {X : Type 0} → (X → X → Bool) → List X → Type 0
Rises before [] = Unit {0}
Rises before (x ∷ xs) = AllByRecursion (λ y. before x y ≡ true) xs × Rises before xs
