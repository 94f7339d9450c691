-- What a change of a slot does to the layout of a pool.
use Rattle.std.proofs.Common.{◌≡◌, ℕ, zero, suc, Option, sym, ◌<◌, ◌≤◌, List, [], ◌∷◌, ◌++◌, length, map, count_by, is_some, IsSome, get_or, set, None, slice_index, slice_index_or, true, false, refl, ap, ◌∙◌, arith, cond, length-append, option_map, take, drop}
use Rattle.std.proofs.Math.ListN.{length-set}
use Rattle.std.proofs.lemmas.Grind.{common_steps}
use Rattle.std.proofs.lemmas.List.Sums.{sum_by-set}
use Rattle.scope_pool.specs.Layout.{held_in, is_held, link_in, slot_with, slot_item, with_item, IsLaidOut}
use Rattle.scope_pool.specs.declared.slots.Slot.{Slot}
use Rattle.scope_pool.specs.declared.slots.Slot.TheVariants.{Vacant, Held}

pub false-ne-true : false ≡ true → ⊥
false-ne-true h = cc

abbrev held_one : {T : Type 0} → Slot T → ℕ
held_one x = cond (is_held x) 1 0

module _ {T : Type 0} where
  pub laid_out-added : (slots : List (Slot T)) (vacant : List ℕ) (k n : ℕ) → k ≡ length vacant → n ≡ length slots → IsLaidOut slots vacant →
      IsLaidOut (slots ++ Vacant k ∷ []) (vacant ++ n ∷ [])
  laid_out-added slots vacant m n e f l = record {
    within = λ k h. grind (arith, common_steps, l.within k);
    stacked = λ k h d. grind (arith, common_steps, l.within k, l.stacked k);
    counted = grind (arith, common_steps, l.counted);
  }

  pub laid_out-put : (slots : List (Slot T)) (vacant : List ℕ) (n : ℕ) (scope : ℕ) (before : Option ℕ) (item : T) → IsLaidOut slots (vacant ++ n ∷ []) →
      IsLaidOut (set slots n (Held scope before item)) vacant
  laid_out-put slots vacant n scope before item l =
      let last : slice_index (vacant ++ n ∷ []) (length vacant) ≡ n = grind (arith, common_steps) in
      let inside : n < length slots = grind (arith, common_steps, l.within (length vacant)) in
      let free : (d : Slot T) → get_or slots n d ≡ Vacant (length vacant) = λ d. grind (arith, common_steps, l.stacked (length vacant)) in
      record {
        within = λ k h. grind (arith, common_steps, l.within k);
        stacked = λ k h d. grind (arith, common_steps, l.within k, l.stacked k, free d);
        counted =
            let e = rw (free (Vacant 0)) at (sum_by-set {X = Slot T} (held_one {T = T}) slots n (Held scope before item) (Vacant 0) inside) in
            omega (arith, e, l.counted, length-append vacant (n ∷ []), length-set slots n (Held scope before item));
      }

  pub held_with : (s : Slot T) (x : T) → is_held (slot_with x s) ≡ is_held s
  held_with (Vacant k) x = refl
  held_with (Held scope before y) x = refl

  pub laid_out-set : (slots : List (Slot T)) (vacant : List ℕ) (n : ℕ) (x : T) (old : Slot T) → IsLaidOut slots vacant →
      n < length slots → ((d : Slot T) → get_or slots n d ≡ old) → is_held old ≡ true → IsLaidOut (set slots n (slot_with x old)) vacant
  laid_out-set slots vacant n x old l inside is held = record {
    within = λ k h. grind (arith, common_steps, l.within k);
    stacked = λ k h d. grind (arith, common_steps, l.within k, l.stacked k, is d);
    counted =
        let e = rw (is (Vacant 0), held_with old x, held) at (sum_by-set {X = Slot T} (held_one {T = T}) slots n (slot_with x old) (Vacant 0) inside) in
        omega (arith, e, l.counted, length-set slots n (slot_with x old));
  }

  pub laid_out-vacated : (slots : List (Slot T)) (vacant : List ℕ) (m n : ℕ) → m ≡ length vacant → IsLaidOut slots vacant →
      n < length slots → ((d : Slot T) → is_held (get_or slots n d) ≡ true) → IsLaidOut (set slots n (Vacant m)) (vacant ++ n ∷ [])
  laid_out-vacated slots vacant m n is l inside held = record {
    within = λ k h. grind (arith, common_steps, l.within k);
    stacked = λ k h d. grind (arith, common_steps, l.within k, l.stacked k, held d);
    counted =
        let e = rw (held (Vacant 0)) at (sum_by-set {X = Slot T} (held_one {T = T}) slots n (Vacant m) (Vacant 0) inside) in
        omega (arith, e, l.counted, length-append vacant (n ∷ []), length-set slots n (Vacant m));
  }

  -- a vacant slot at the end changes nothing that is seen
  pub seen-added : (slots : List (Slot T)) (k place : ℕ) →
      slice_index_or (map (held_in {T = T}) (slots ++ Vacant k ∷ [])) place None ≡ slice_index_or (map (held_in {T = T}) slots) place None
  seen-added [] k zero = refl
  seen-added [] k (suc n) = refl
  seen-added (s ∷ ss) k zero = refl
  seen-added (s ∷ ss) k (suc n) = seen-added ss k n

  pub held_in-set : (slots : List (Slot T)) (n : ℕ) (x : Slot T) → map (held_in {T = T}) (set slots n x) ≡ set (map (held_in {T = T}) slots) n (held_in x)
  held_in-set [] n x = refl
  held_in-set (s ∷ ss) zero x = refl
  held_in-set (s ∷ ss) (suc n) x = ap (λ xs. held_in s ∷ xs) (held_in-set ss n x)

  pub held_in-at : (slots : List (Slot T)) (n : ℕ) (d : Slot T) → n < length slots → slice_index_or (map (held_in {T = T}) slots) n None ≡ held_in (get_or slots n d)
  held_in-at [] n d h = absurd (omega arith)
  held_in-at (s ∷ ss) zero d h = refl
  held_in-at (s ∷ ss) (suc n) d h = held_in-at ss n d (omega arith)

  -- what is seen at a place is what its slot holds
  pub live_slot : (slots : List (Slot T)) (n : ℕ) → IsSome (slice_index_or (map (held_in {T = T}) slots) n None) →
      (n < length slots) × ((d : Slot T) → is_held (get_or slots n d) ≡ true)
  live_slot [] n h = absurd (false-ne-true h)
  live_slot (Vacant k ∷ ss) zero h = absurd (false-ne-true h)
  live_slot (Held scope before x ∷ ss) zero h = (omega arith, λ d. refl)
  live_slot (s ∷ ss) (suc n) h = let r = live_slot ss n h in (omega (arith, r.0), r.1)

  pub held_in_with : (s : Slot T) (x : T) → held_in (slot_with x s) ≡ option_map (with_item x) (held_in s)
  held_in_with (Vacant k) x = refl
  held_in_with (Held scope before y) x = refl

  pub item_of_slot : (s : Slot T) → option_map (λ y. y.item) (held_in s) ≡ slot_item s
  item_of_slot (Vacant k) = refl
  item_of_slot (Held scope before y) = refl

-- the first so many changed
abbrev pub partly : {X : Type 0} → (X → X) → ℕ → List X → List X
partly f i xs = map f (take i xs) ++ drop i xs

pub partly-more : {X : Type 0} (f : X → X) (xs : List X) (i : ℕ) (d : X) → i < length xs → set (partly f i xs) i (f (get_or (partly f i xs) i d)) ≡ partly f (suc i) xs
partly-more f [] i d h = absurd (omega arith)
partly-more f (x ∷ xs) zero d h = refl
partly-more f (x ∷ xs) (suc i) d h = ap (λ ys. f x ∷ ys) (partly-more f xs i d (omega arith))

pub partly-all : {X : Type 0} (f : X → X) (xs : List X) (i : ℕ) → length xs ≤ i → partly f i xs ≡ map f xs
partly-all f [] zero h = refl
partly-all f [] (suc i) h = refl
partly-all f (x ∷ xs) zero h = absurd (omega arith)
partly-all f (x ∷ xs) (suc i) h = ap (λ ys. f x ∷ ys) (partly-all f xs i (omega arith))

module _ {T : Type 0} where
  -- the slot that is used next is seen as empty
  pub last_vacant : (slots : List (Slot T)) (vacant : List ℕ) (n : ℕ) → IsLaidOut slots (vacant ++ n ∷ []) →
      slice_index_or (map (held_in {T = T}) slots) n None ≡ None
  last_vacant slots vacant n l =
      let last : slice_index (vacant ++ n ∷ []) (length vacant) ≡ n = grind (arith, common_steps) in
      let inside : n < length slots = grind (arith, common_steps, l.within (length vacant)) in
      let free : (d : Slot T) → get_or slots n d ≡ Vacant (length vacant) = λ d. grind (arith, common_steps, l.stacked (length vacant)) in
      held_in-at slots n (Vacant 0) inside ∙ ap (held_in {T = T}) (free (Vacant 0))

module _ {T : Type 0} where
  -- as many items are seen as slots are held
  pub count_held : (slots : List (Slot T)) → count_by is_some (map (held_in {T = T}) slots) ≡ count_by is_held slots
  count_held [] = refl
  count_held (Vacant k ∷ ss) = count_held ss
  count_held (Held scope before x ∷ ss) = let e = count_held ss in grind (arith, common_steps, e)

-- ---- chains

module _ {T : Type 0} where
  pub link-added : (slots : List (Slot T)) (k place : ℕ) →
      slice_index_or (map (link_in {T = T}) (slots ++ Vacant k ∷ [])) place None ≡ slice_index_or (map (link_in {T = T}) slots) place None
  link-added [] k zero = refl
  link-added [] k (suc n) = refl
  link-added (s ∷ ss) k zero = refl
  link-added (s ∷ ss) k (suc n) = link-added ss k n

  pub link_in-set : (slots : List (Slot T)) (n : ℕ) (x : Slot T) → map (link_in {T = T}) (set slots n x) ≡ set (map (link_in {T = T}) slots) n (link_in x)
  link_in-set [] n x = refl
  link_in-set (s ∷ ss) zero x = refl
  link_in-set (s ∷ ss) (suc n) x = ap (λ xs. link_in s ∷ xs) (link_in-set ss n x)

  pub link_in-at : (slots : List (Slot T)) (n : ℕ) (d : Slot T) → n < length slots → slice_index_or (map (link_in {T = T}) slots) n None ≡ link_in (get_or slots n d)
  link_in-at [] n d h = absurd (omega arith)
  link_in-at (s ∷ ss) zero d h = refl
  link_in-at (s ∷ ss) (suc n) d h = link_in-at ss n d (omega arith)

  link_with : (s : Slot T) (x : T) → link_in (slot_with x s) ≡ link_in s
  link_with (Vacant k) x = refl
  link_with (Held scope before y) x = refl

  -- another item in a slot leaves its chain
  pub link-exchanged : (slots : List (Slot T)) (n : ℕ) (x : T) (old : Slot T) → ((d : Slot T) → get_or slots n d ≡ old) → (place : ℕ) →
      slice_index_or (map (link_in {T = T}) (set slots n (slot_with x old))) place None ≡ slice_index_or (map (link_in {T = T}) slots) place None
  link-exchanged [] n x old is place = refl
  link-exchanged (s ∷ ss) zero x old is zero = link_with old x ∙ ap (link_in {T = T}) (sym (is s))
  link-exchanged (s ∷ ss) zero x old is (suc place) = refl
  link-exchanged (s ∷ ss) (suc n) x old is zero = refl
  link-exchanged (s ∷ ss) (suc n) x old is (suc place) = link-exchanged ss n x old is place

  -- a vacant slot is in no chain
  pub link_none : (slots : List (Slot T)) (n : ℕ) → slice_index_or (map (held_in {T = T}) slots) n None ≡ None → slice_index_or (map (link_in {T = T}) slots) n None ≡ None
  link_none [] n h = refl
  link_none (Vacant k ∷ ss) zero h = refl
  link_none (Held scope before x ∷ ss) zero h = cc
  link_none (s ∷ ss) (suc n) h = link_none ss n h

  -- the scope of a slot in a chain is that of its item
  pub scope_linked : (slots : List (Slot T)) (n : ℕ) → option_map (λ l. l.scope) (slice_index_or (map (link_in {T = T}) slots) n None) ≡ option_map (λ x. x.scope) (slice_index_or (map (held_in {T = T}) slots) n None)
  scope_linked [] n = refl
  scope_linked (Vacant k ∷ ss) zero = refl
  scope_linked (Held scope before x ∷ ss) zero = refl
  scope_linked (s ∷ ss) (suc n) = scope_linked ss n
