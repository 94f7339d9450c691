-- A loop that writes f of each item over it.
use Rattle.std.proofs.Common.{◌≡◌, ℕ, ◌+◌, ◌-◌, ◌<◌, ◌≤◌, List, ◌++◌, map, take, drop, length, get_or, set, ap, ◌∙◌, arith}
use Rattle.std.proofs.lemmas.List.{append-nil, drop_all, get_or-append_right, get_or-drop, get_or_default, length-map, length-take-le, take_all}
use Rattle.std.proofs.lemmas.List.Edits.{map_over_more}

-- the item that comes next is still the old one
pub mapped_next : {X : Type 0} (f : X → X) (xs ys : List X) (i : ℕ) (d : X) → i < length xs → ys ≡ map f (take i xs) ++ drop i xs → get_or ys i d ≡ get_or xs i d
mapped_next f xs ys i d within is =
    let long : length (map f (take i xs)) ≡ i = length-map (take i xs) f ∙ length-take-le i xs (omega arith) in
    ap (λ l. get_or l i d) is ∙ get_or-append_right (map f (take i xs)) (drop i xs) i i d long (omega arith) ∙ get_or-drop i xs (i - i) d ∙ ap (λ n. get_or xs n d) (omega arith)

-- one more
pub mapped_more : {X : Type 0} (f : X → X) (xs ys : List X) (i : ℕ) (d w : X) → i < length xs → length ys ≡ length xs → ys ≡ map f (take i xs) ++ drop i xs → w ≡ f (get_or ys i d) → set ys i w ≡ map f (take (i + 1) xs) ++ drop (i + 1) xs
mapped_more f xs ys i d w within long is w_is =
    ap (set ys i) w_is ∙ map_over_more f xs ys i (get_or ys i d) within is (get_or_default ys i d (get_or ys i d) (omega arith))

-- all
pub mapped_all : {X : Type 0} (f : X → X) (xs ys : List X) (i : ℕ) → length xs ≤ i → ys ≡ map f (take i xs) ++ drop i xs → ys ≡ map f xs
mapped_all f xs ys i past is = is ∙ (λ k. map f (take_all i xs past k) ++ drop_all i xs past k) ∙ append-nil (map f xs)
