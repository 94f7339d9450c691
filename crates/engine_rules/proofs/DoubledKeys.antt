-- The new conflicts are found from the wanted triples in order.
use Rattle.std.proofs.Common.{◌≡◌, ℕ, ◌≤◌, Bool, true, false, cond, not, ◌&&◌, ◌||◌, List, [], ◌∷◌, map, length, refl, ap, sym, ◌∙◌, subst, arith, Less, Equal, Greater}
use Rattle.std.proofs.lemmas.Bool.{and_parts, and_from, both_ways, cond_both, eq-eqb, eqb-true, false_from_ne_true, lt-ltb, ltb-true, or_left, or_right}
use Rattle.std.specs.Prelude.{◌==◌, filter, nat_lt, if◌then◌else◌}
use Rattle.std.specs.Cmp.{IsTotalOrder, Equal-is, on_total, then_total, nat_cmp_total, tied_then}
use Rattle.std.specs.Cmp.Lexicographic.{bytes_decides, nat_list_cmp_total}
use Rattle.std.specs.FinMap.{nat_cmp-IsAntisymmetric, slice_cmp-IsAntisymmetric}
use Rattle.std.specs.FinMap.Entries.{by_order}
use Rattle.std.specs.List.{AllByRecursion, list_any}
use Rattle.std.specs.Ordering.{is_eq, is_le, is_lt, nat_cmp, ordering_reverse, ordering_then}
use Rattle.std.specs.declared.cmp.Ordering.{Ordering}
use Rattle.std.specs.Str.{bytes_eq}
use Rattle.value_core.specs.declared.state.Triple.{Triple}
use Rattle.value_core.specs.Orders.{bytes_cmp}
use Rattle.term_core.specs.Counts.{count_of}
use Rattle.core_rules.specs.Settling.{on_key}
use Rattle.term_core.specs.Counts.{in_order, is_wanted, with_triple}
use Rattle.value_core.specs.Orders.{triple_cmp}
use Rattle.core_rules.specs.Replies.{conflicted, keys_of, new_conflicts}
use Rattle.core_rules.proofs.Settling.{count_wanted, counted_first, counted_later}
use Rattle.engine_rules.proofs.KeptRows.{all_in_order}
use Rattle.engine_rules.specs.Conflicts.{AreCounted, InOrder, OpKey, begins, counted, doubled, doubled_from, from_key, keys_in, not_among, triples_of, op_key, op_key_cmp, same_key}

-- ---- lists

filter_like : {X : Type 0} (p q : X → Bool) (xs : List X) → AllByRecursion (λ x. p x ≡ q x) xs → filter p xs ≡ filter q xs
filter_like p q [] h = refl
filter_like p q (x ∷ xs) h = λ i. cond (h.0 i) (x ∷ filter_like p q xs h.1 i) (filter_like p q xs h.1 i)

all_alike : {X : Type 0} (P : X → Type 0) (xs : List X) → ((x : X) → P x) → AllByRecursion P xs
all_alike P [] h = tt
all_alike P (x ∷ xs) h = (h x, all_alike P xs h)

all_then : {X : Type 0} (P Q : X → Type 0) (xs : List X) → ((x : X) → P x → Q x) → AllByRecursion P xs → AllByRecursion Q xs
all_then P Q [] h a = tt
all_then P Q (x ∷ xs) h a = (h x a.0, all_then P Q xs h a.1)

all_kept : {X : Type 0} (P : X → Type 0) (p : X → Bool) (xs : List X) → AllByRecursion P xs → AllByRecursion P (filter p xs)
all_kept P p [] h = tt
all_kept P p (x ∷ xs) h = cond_both (p x) (x ∷ filter p xs) (filter p xs) (AllByRecursion P) (λ _. (h.0, all_kept P p xs h.1)) (λ _. all_kept P p xs h.1)

filter_twice : {X : Type 0} (p q : X → Bool) (xs : List X) → filter (λ x. p x && q x) xs ≡ filter q (filter p xs)
filter_twice p q [] = refl
filter_twice p q (x ∷ xs) = elim (p x) as (λ b. cond (b && q x) (x ∷ filter (λ x. p x && q x) xs) (filter (λ x. p x && q x) xs) ≡ filter q (cond b (x ∷ filter p xs) (filter p xs))) [
  | true ↦ ap (λ ys. cond (q x) (x ∷ ys) ys) (filter_twice p q xs)
  | false ↦ filter_twice p q xs
]

-- ---- the orders

key_total : IsTotalOrder op_key_cmp
key_total = then_total (on_total (λ k. k.0) nat_cmp_total) (on_total (λ k. k.1) nat_list_cmp_total)

triple_total : IsTotalOrder triple_cmp
triple_total = then_total (on_total (λ t. t.op) nat_cmp_total) (then_total (on_total (λ t. t.key) nat_list_cmp_total) (on_total (λ t. t.value) nat_list_cmp_total))

key_same : (k l : OpKey) → same_key k l ≡ true → k ≡ l
key_same k l e =
    let h = and_parts (l.0 == k.0) (bytes_eq l.1 k.1) e in
    let p : l.0 ≡ k.0 = eqb-true l.0 k.0 h.0 in
    let q : l.1 ≡ k.1 = (bytes_decides l.1 k.1).0 h.1 in
    λ i. (sym p i, sym q i)

key_itself : (k l : OpKey) → k ≡ l → same_key k l ≡ true
key_itself k l e = and_from (l.0 == k.0) (bytes_eq l.1 k.1) (eq-eqb l.0 k.0 (sym (ap (λ m. m.0) e))) ((bytes_decides l.1 k.1).1 (sym (ap (λ m. m.1) e)))

keys_tie : (k l : OpKey) → op_key_cmp k l ≡ Equal → k ≡ l
keys_tie k l e =
    let h = and_parts (is_eq (nat_cmp k.0 l.0)) (is_eq (bytes_cmp k.1 l.1)) (tied_then (nat_cmp k.0 l.0) (bytes_cmp k.1 l.1) ∙ ap is_eq e) in
    let p = nat_cmp-IsAntisymmetric k.0 l.0 ((Equal-is (nat_cmp k.0 l.0)).0 h.0) in
    let q = slice_cmp-IsAntisymmetric nat_cmp-IsAntisymmetric k.1 l.1 ((Equal-is (bytes_cmp k.1 l.1)).0 h.1) in
    λ i. (p i, q i)

not_less_itself : (k : OpKey) → op_key_cmp k k ≡ Less → ⊥
not_less_itself k e =
    let back : Less ≡ Greater = sym e ∙ key_total.antisymm k k ∙ ap ordering_reverse e in
    let z : ⊥ = cc in z

-- a lesser key is another one
less_other : (k l : OpKey) → op_key_cmp k l ≡ Less → same_key k l ≡ false
less_other k l e = false_from_ne_true (same_key k l) (λ h. absurd (not_less_itself k (ap (op_key_cmp k) (key_same k l h) ∙ e)))

less_other_back : (k l : OpKey) → op_key_cmp k l ≡ Less → same_key l k ≡ false
less_other_back k l e = false_from_ne_true (same_key l k) (λ h. absurd (not_less_itself k (ap (op_key_cmp k) (sym (key_same l k h)) ∙ e)))

-- ---- keys in order, each perhaps more than once

abbrev NoneAbove : OpKey → List OpKey → Type 0
NoneAbove k ls = AllByRecursion (λ l. is_le (op_key_cmp k l) ≡ true) ls

abbrev NonFalling : List OpKey → Type 0
NonFalling [] = Unit {0}
NonFalling (k ∷ ks) = NoneAbove k ks × NonFalling ks

-- all are greater
abbrev AllAbove : OpKey → List OpKey → Type 0
AllAbove k ls = AllByRecursion (λ l. op_key_cmp k l ≡ Less) ls

abbrev Rises : List OpKey → Type 0
Rises [] = Unit {0}
Rises (k ∷ ks) = AllAbove k ks × Rises ks

less_or_same : (o : Ordering) → is_le o ≡ true → is_eq o ≡ false → o ≡ Less
less_or_same Less h e = refl
less_or_same Equal h e = let z : ⊥ = cc in absurd z
less_or_same Greater h e = let z : ⊥ = cc in absurd z

other_less : (k l : OpKey) → is_le (op_key_cmp k l) ≡ true → same_key k l ≡ false → op_key_cmp k l ≡ Less
other_less k l h e = less_or_same (op_key_cmp k l) h (false_from_ne_true (is_eq (op_key_cmp k l)) (λ t.
    both_ways (same_key k l) e (key_itself k l (keys_tie k l ((Equal-is (op_key_cmp k l)).0 t)))))

through : (k l m : OpKey) → op_key_cmp k l ≡ Less → (o : Ordering) → op_key_cmp l m ≡ o → is_le o ≡ true → op_key_cmp k m ≡ Less
through k l m e Less f h = key_total.trans k l m e f
through k l m e Equal f h = ap (op_key_cmp k) (sym (keys_tie l m f)) ∙ e
through k l m e Greater f h = let z : ⊥ = cc in absurd z

-- where the first is another one, all are greater
all_above : (k : OpKey) (ls : List OpKey) → NoneAbove k ls → NonFalling ls → begins k ls ≡ false → AllAbove k ls
all_above k [] h r e = tt
all_above k (l ∷ ls) h r e =
    let first : op_key_cmp k l ≡ Less = other_less k l h.0 e in
    (first, all_then (λ m. is_le (op_key_cmp l m) ≡ true) (λ m. op_key_cmp k m ≡ Less) ls (λ m p. through k l m first (op_key_cmp l m) refl p) r.0)

none_same : (k : OpKey) (ls : List OpKey) → AllAbove k ls → filter (same_key k) ls ≡ []
none_same k [] h = refl
none_same k (l ∷ ls) h = ap (λ b. cond b (l ∷ filter (same_key k) ls) (filter (same_key k) ls)) (less_other k l h.0) ∙ none_same k ls h.1

-- ---- each key at its last place

abbrev last_each : List OpKey → List OpKey
last_each [] = []
last_each (k ∷ ks) = if nat_lt 0 (length (filter (same_key k) ks)) then last_each ks else k ∷ last_each ks

all_last : (P : OpKey → Type 0) (ks : List OpKey) → AllByRecursion P ks → AllByRecursion P (last_each ks)
all_last P [] h = tt
all_last P (k ∷ ks) h = cond_both (nat_lt 0 (length (filter (same_key k) ks))) (last_each ks) (k ∷ last_each ks) (AllByRecursion P) (λ _. all_last P ks h.1) (λ _. (h.0, all_last P ks h.1))

-- whether a key stands twice
abbrev twice : List OpKey → OpKey → Bool
twice ks k = nat_lt 1 (length (filter (same_key k) ks))

begins_one : (k : OpKey) (ks : List OpKey) → begins k ks ≡ true → nat_lt 0 (length (filter (same_key k) ks)) ≡ true
begins_one k [] e = let z : ⊥ = cc in absurd z
begins_one k (l ∷ ls) e = ap (λ b. nat_lt 0 (length (cond b (l ∷ filter (same_key k) ls) (filter (same_key k) ls)))) e ∙ lt-ltb 0 (length (l ∷ filter (same_key k) ls)) (omega arith)

begins_two : (k : OpKey) (ks : List OpKey) → begins k ks ≡ true → nat_lt 1 (length (k ∷ filter (same_key k) ks)) ≡ true
begins_two k [] e = let z : ⊥ = cc in absurd z
begins_two k (l ∷ ls) e = ap (λ b. nat_lt 1 (length (k ∷ cond b (l ∷ filter (same_key k) ls) (filter (same_key k) ls)))) e ∙ lt-ltb 1 (length (k ∷ l ∷ filter (same_key k) ls)) (omega arith)

begins_as : (k m : OpKey) (ks : List OpKey) → begins k ks ≡ true → same_key m k ≡ false → begins m ks ≡ false
begins_as k m [] e f = let z : ⊥ = cc in absurd z
begins_as k m (l ∷ ls) e f = ap (same_key m) (sym (key_same k l e)) ∙ f

and_no : (b : Bool) → (b && false) ≡ false
and_no true = refl
and_no false = refl

and_yes : (b : Bool) → (b && true) ≡ b
and_yes true = refl
and_yes false = refl

or_no : (b : Bool) → (b || false) ≡ b
or_no true = refl
or_no false = refl

-- whether a key stands twice, or once more before
abbrev again : Bool → List OpKey → OpKey → Bool
again before ks k = (before && begins k ks) || twice ks k

again_same : (before : Bool) (k m : OpKey) (ks : List OpKey) → begins k ks ≡ true → again true ks m ≡ again before (k ∷ ks) m
again_same before k m ks e = elim (same_key m k) as (λ b. same_key m k ≡ b → again true ks m ≡ again before (k ∷ ks) m) [
  | true ↦ λ is.
      let same : m ≡ k = key_same m k is in
      let left : again true ks m ≡ true = or_left (begins m ks) (twice ks m) (ap (λ x. begins x ks) same ∙ e) in
      let right : twice (k ∷ ks) m ≡ true = ap (λ b. nat_lt 1 (length (cond b (k ∷ filter (same_key m) ks) (filter (same_key m) ks)))) is ∙ ap (λ x. nat_lt 1 (length (k ∷ filter (same_key x) ks))) same ∙ begins_two k ks e in
      left ∙ sym (or_right (before && same_key m k) (twice (k ∷ ks) m) right)
  | false ↦ λ is.
      ap (λ b. b || twice ks m) (begins_as k m ks e is)
      ∙ ap (λ b. b || twice ks m) (sym (and_no before))
      ∙ sym (λ i. (before && is i) || nat_lt 1 (length (cond (is i) (k ∷ filter (same_key m) ks) (filter (same_key m) ks))))
] refl

again_other : (before : Bool) (k m : OpKey) (ks : List OpKey) → op_key_cmp k m ≡ Less → again before (k ∷ ks) m ≡ again false ks m
again_other before k m ks e =
    let is : same_key m k ≡ false = less_other_back k m e in
    (λ i. (before && is i) || nat_lt 1 (length (cond (is i) (k ∷ filter (same_key m) ks) (filter (same_key m) ks)))) ∙ ap (λ b. b || twice ks m) (and_no before)

again_first : (before : Bool) (k : OpKey) (ks : List OpKey) → AllAbove k ks → again before (k ∷ ks) k ≡ before
again_first before k ks h =
    let is : same_key k k ≡ true = key_itself k k refl in
    (λ i. (before && is i) || nat_lt 1 (length (cond (is i) (k ∷ none_same k ks h i) (none_same k ks h i)))) ∙ ap (λ b. b || false) (and_yes before) ∙ or_no before

doubled_are : (before : Bool) (ks : List OpKey) → NonFalling ks → doubled_from before ks ≡ filter (again before ks) (last_each ks)
doubled_are before [] r = refl
doubled_are before (k ∷ ks) r = elim (begins k ks) as (λ b. begins k ks ≡ b →
    (if b then doubled_from true ks else (if before then k ∷ doubled_from false ks else doubled_from false ks)) ≡ filter (again before (k ∷ ks)) (last_each (k ∷ ks))) [
      | true ↦ λ e. doubled_are true ks r.1
          ∙ filter_like (again true ks) (again before (k ∷ ks)) (last_each ks) (all_alike (λ m. again true ks m ≡ again before (k ∷ ks) m) (last_each ks) (λ m. again_same before k m ks e))
          ∙ sym (ap (λ b. filter (again before (k ∷ ks)) (if b then last_each ks else k ∷ last_each ks)) (begins_one k ks e))
      | false ↦ λ e.
          let above : AllAbove k ks = all_above k ks r.0 r.1 e in
          let rest : doubled_from false ks ≡ filter (again before (k ∷ ks)) (last_each ks) = doubled_are false ks r.1
          ∙ sym (filter_like (again before (k ∷ ks)) (again false ks) (last_each ks) (all_then (λ m. op_key_cmp k m ≡ Less) (λ m. again before (k ∷ ks) m ≡ again false ks m) (last_each ks) (λ m p. again_other before k m ks p) (all_last (λ m. op_key_cmp k m ≡ Less) ks above))) in
          ap (λ xs. if before then k ∷ xs else xs) rest
          ∙ sym (ap (λ b. cond b (k ∷ filter (again before (k ∷ ks)) (last_each ks)) (filter (again before (k ∷ ks)) (last_each ks))) (again_first before k ks above))
          ∙ sym (ap (λ ls. filter (again before (k ∷ ks)) (if nat_lt 0 (length ls) then last_each ks else k ∷ last_each ks)) (none_same k ks above))
    ] refl

-- ---- keys that are not among others

rises_last : (ks : List OpKey) → NonFalling ks → Rises (last_each ks)
rises_last [] r = tt
rises_last (k ∷ ks) r = elim (begins k ks) as (λ b. begins k ks ≡ b → Rises (last_each (k ∷ ks))) [
  | true ↦ λ e. subst (λ b. Rises (if b then last_each ks else k ∷ last_each ks)) (sym (begins_one k ks e)) (rises_last ks r.1)
  | false ↦ λ e.
      let above : AllAbove k ks = all_above k ks r.0 r.1 e in
      subst (λ ls. Rises (if nat_lt 0 (length ls) then last_each ks else k ∷ last_each ks)) (sym (none_same k ks above)) (all_last (λ m. op_key_cmp k m ≡ Less) ks above, rises_last ks r.1)
] refl

rises_kept : (p : OpKey → Bool) (ks : List OpKey) → Rises ks → Rises (filter p ks)
rises_kept p [] r = tt
rises_kept p (k ∷ ks) r = cond_both (p k) (k ∷ filter p ks) (filter p ks) Rises (λ _. (all_kept (λ m. op_key_cmp k m ≡ Less) p ks r.0, rises_kept p ks r.1)) (λ _. rises_kept p ks r.1)

-- whether a key is among some
abbrev among : List OpKey → OpKey → Bool
among ls k = list_any (same_key k) ls

none_among : (k : OpKey) (ls : List OpKey) → AllAbove k ls → among ls k ≡ false
none_among k [] h = refl
none_among k (l ∷ ls) h = ap (λ b. b || among ls k) (less_other k l h.0) ∙ none_among k ls h.1

rises_from : (k : OpKey) (ls : List OpKey) → Rises ls → Rises (from_key k ls)
rises_from k [] r = tt
rises_from k (l ∷ ls) r = cond_both (is_lt (op_key_cmp l k)) (from_key k ls) (l ∷ ls) Rises (λ _. rises_from k ls r.1) (λ _. r)

is_less : (o : Ordering) → is_lt o ≡ true → o ≡ Less
is_less Less e = refl
is_less Equal e = let z : ⊥ = cc in absurd z
is_less Greater e = let z : ⊥ = cc in absurd z

behind : (k l : OpKey) (o : Ordering) → op_key_cmp l k ≡ o → is_lt o ≡ false → is_le (op_key_cmp k l) ≡ true
behind k l Less e f = let z : ⊥ = cc in absurd z
behind k l Equal e f = ap (λ o. is_le o) (key_total.antisymm k l ∙ ap ordering_reverse e)
behind k l Greater e f = ap (λ o. is_le o) (key_total.antisymm k l ∙ ap ordering_reverse e)

-- a key is among others where it begins those from it on
found_first : (k : OpKey) (ls : List OpKey) → Rises ls → among ls k ≡ begins k (from_key k ls)
found_first k [] r = refl
found_first k (l ∷ ls) r = elim (is_lt (op_key_cmp l k)) as (λ b. is_lt (op_key_cmp l k) ≡ b → among (l ∷ ls) k ≡ begins k (if b then from_key k ls else l ∷ ls)) [
  | true ↦ λ e. ap (λ b. b || among ls k) (less_other_back l k (is_less (op_key_cmp l k) e)) ∙ found_first k ls r.1
  | false ↦ λ e. elim (same_key k l) as (λ b. same_key k l ≡ b → (b || among ls k) ≡ b) [
    | true ↦ λ is. refl
    | false ↦ λ is.
        let first : op_key_cmp k l ≡ Less = other_less k l (behind k l (op_key_cmp l k) refl e) is in
        none_among k ls (all_then (λ m. op_key_cmp l m ≡ Less) (λ m. op_key_cmp k m ≡ Less) ls (λ m p. key_total.trans k l m first p) r.0)
  ] refl
] refl

-- a greater key is among others where it is among those from a lesser one on
found_later : (k m : OpKey) (ls : List OpKey) → op_key_cmp k m ≡ Less → among (from_key k ls) m ≡ among ls m
found_later k m [] p = refl
found_later k m (l ∷ ls) p = elim (is_lt (op_key_cmp l k)) as (λ b. is_lt (op_key_cmp l k) ≡ b → among (if b then from_key k ls else l ∷ ls) m ≡ among (l ∷ ls) m) [
  | true ↦ λ e. found_later k m ls p ∙ sym (ap (λ b. b || among ls m) (less_other_back l m (key_total.trans l k m (is_less (op_key_cmp l k) e) p)))
  | false ↦ λ e. refl
] refl

left_out : (old ks : List OpKey) → Rises old → Rises ks → not_among old ks ≡ filter (λ k. not (among old k)) ks
left_out old [] r s = refl
left_out old (k ∷ ks) r s =
    let rest : not_among (from_key k old) ks ≡ filter (λ m. not (among old m)) ks = left_out (from_key k old) ks (rises_from k old r) s.1
    ∙ filter_like (λ m. not (among (from_key k old) m)) (λ m. not (among old m)) ks (all_then (λ m. op_key_cmp k m ≡ Less) (λ m. not (among (from_key k old) m) ≡ not (among old m)) ks (λ m p. ap not (found_later k m old p)) s.0) in
    ap (λ xs. if begins k (from_key k old) then xs else k ∷ xs) rest
    ∙ ap (λ b. if b then filter (λ m. not (among old m)) ks else k ∷ filter (λ m. not (among old m)) ks) (sym (found_first k old r))
    ∙ elim (among old k) as (λ b. (if b then filter (λ m. not (among old m)) ks else k ∷ filter (λ m. not (among old m)) ks) ≡ cond (not b) (k ∷ filter (λ m. not (among old m)) ks) (filter (λ m. not (among old m)) ks)) [ true ↦ refl | false ↦ refl ]

-- ---- the doubled ones are those that stand twice

among_last : (k : OpKey) (ks : List OpKey) → among (last_each ks) k ≡ among ks k
among_last k [] = refl
among_last k (l ∷ ls) = elim (nat_lt 0 (length (filter (same_key l) ls))) as (λ b. nat_lt 0 (length (filter (same_key l) ls)) ≡ b → among (if b then last_each ls else l ∷ last_each ls) k ≡ (same_key k l || among ls k)) [
  | true ↦ λ e. among_last k ls ∙ elim (same_key k l) as (λ b. same_key k l ≡ b → among ls k ≡ (b || among ls k)) [
    | true ↦ λ is. ap (among ls) (key_same k l is) ∙ stands l ls e
    | false ↦ λ is. refl
  ] refl
  | false ↦ λ e. ap (λ b. same_key k l || b) (among_last k ls)
] refl
  where
    stands : (l : OpKey) (ls : List OpKey) → nat_lt 0 (length (filter (same_key l) ls)) ≡ true → among ls l ≡ true
    stands l [] e = let z : ⊥ = cc in absurd z
    stands l (m ∷ ms) e = elim (same_key l m) as (λ b. nat_lt 0 (length (cond b (m ∷ filter (same_key l) ms) (filter (same_key l) ms))) ≡ true → (b || among ms l) ≡ true) [
      | true ↦ λ h. refl
      | false ↦ λ h. stands l ms h
    ] e

among_kept : (p : OpKey → Bool) (k : OpKey) (ks : List OpKey) → among (filter p ks) k ≡ (p k && among ks k)
among_kept p k [] = sym (and_no (p k))
among_kept p k (l ∷ ls) = elim (same_key k l) as (λ b. same_key k l ≡ b → among (filter p (l ∷ ls)) k ≡ (p k && (b || among ls k))) [
  | true ↦ λ is. elim (p l) as (λ b. p l ≡ b → among (cond b (l ∷ filter p ls) (filter p ls)) k ≡ (p k && true)) [
    | true ↦ λ e. ap (λ b. b || among (filter p ls) k) is ∙ sym (ap (λ x. p x && true) (key_same k l is) ∙ ap (λ b. b && true) e)
    | false ↦ λ e. among_kept p k ls ∙ ap (λ b. b && among ls k) (ap p (key_same k l is) ∙ e) ∙ sym (ap (λ b. b && true) (ap p (key_same k l is) ∙ e))
  ] refl
  | false ↦ λ is. elim (p l) as (λ b. among (cond b (l ∷ filter p ls) (filter p ls)) k ≡ (p k && among ls k)) [
    | true ↦ ap (λ b. b || among (filter p ls) k) is ∙ among_kept p k ls
    | false ↦ among_kept p k ls
  ]
] refl

twice_among : (ks : List OpKey) (k : OpKey) → twice ks k ≡ true → among ks k ≡ true
twice_among [] k e = let z : ⊥ = cc in absurd z
twice_among (l ∷ ls) k e = elim (same_key k l) as (λ b. nat_lt 1 (length (cond b (l ∷ filter (same_key k) ls) (filter (same_key k) ls))) ≡ true → (b || among ls k) ≡ true) [
  | true ↦ λ h. refl
  | false ↦ λ h. twice_among ls k h
] e

among_doubled : (ks : List OpKey) (k : OpKey) → NonFalling ks → among (doubled_from false ks) k ≡ twice ks k
among_doubled ks k r = ap (λ ls. among ls k) (doubled_are false ks r) ∙ among_kept (twice ks) k (last_each ks) ∙ ap (λ b. twice ks k && b) (among_last k ks)
    ∙ elim (twice ks k) as (λ b. twice ks k ≡ b → (b && among ks k) ≡ b) [ true ↦ λ e. twice_among ks k e | false ↦ λ e. refl ] refl

rises_doubled : (ks : List OpKey) → NonFalling ks → Rises (doubled_from false ks)
rises_doubled ks r = subst Rises (sym (doubled_are false ks r)) (rises_kept (twice ks) (last_each ks) (rises_last ks r))

-- ---- triples in order

above_with : (t u : Triple) (us : List Triple) → triple_cmp t u ≡ Less → AllByRecursion (λ v. triple_cmp t v ≡ Less) us → AllByRecursion (λ v. triple_cmp t v ≡ Less) (with_triple u us)
above_with t u [] p h = (p, tt)
above_with t u (v ∷ us) p h = elim (triple_cmp u v) as (λ o. AllByRecursion (λ w. triple_cmp t w ≡ Less) (by_order o (u ∷ v ∷ us) (v ∷ us) (v ∷ with_triple u us))) [
  | Less ↦ (p, h)
  | Equal ↦ h
  | Greater ↦ (h.0, above_with t u us p h.1)
]

ordered_with : (t : Triple) (us : List Triple) → InOrder us → InOrder (with_triple t us)
ordered_with t [] r = (tt, tt)
ordered_with t (u ∷ us) r = elim (triple_cmp t u) as (λ o. triple_cmp t u ≡ o → InOrder (by_order o (t ∷ u ∷ us) (u ∷ us) (u ∷ with_triple t us))) [
  | Less ↦ λ e. ((e, all_then (λ v. triple_cmp u v ≡ Less) (λ v. triple_cmp t v ≡ Less) us (λ v p. triple_total.trans t u v e p) r.0), r)
  | Equal ↦ λ e. r
  | Greater ↦ λ e. (above_with u t us (triple_total.antisymm u t ∙ ap ordering_reverse e) r.0, ordered_with t us r.1)
] refl

pub ordered : (ts : List Triple) → InOrder (in_order ts)
ordered [] = tt
ordered (t ∷ ts) = ordered_with t (in_order ts) (ordered ts)

first_parts : (a b c : Ordering) → ordering_then a (ordering_then b c) ≡ Less → is_le (ordering_then a b) ≡ true
first_parts Less b c e = refl
first_parts Equal Less c e = refl
first_parts Equal Equal c e = refl
first_parts Equal Greater c e = let z : ⊥ = cc in absurd z
first_parts Greater b c e = let z : ⊥ = cc in absurd z

none_above : (t : Triple) (ts : List Triple) → AllByRecursion (λ u. triple_cmp t u ≡ Less) ts → NoneAbove (op_key t) (map op_key ts)
none_above t [] h = tt
none_above t (u ∷ us) h = (first_parts (nat_cmp t.op u.op) (bytes_cmp t.key u.key) (bytes_cmp t.value u.value) h.0, none_above t us h.1)

keys_ordered : (ts : List Triple) → InOrder ts → NonFalling (map op_key ts)
keys_ordered [] r = tt
keys_ordered (t ∷ ts) r = (none_above t ts r.0, keys_ordered ts r.1)

-- ---- triples by their keys

lengths_on : (k : OpKey) (ts : List Triple) → length (filter (on_key k.0 k.1) ts) ≡ length (filter (same_key k) (map op_key ts))
lengths_on k [] = refl
lengths_on k (t ∷ ts) = elim (on_key k.0 k.1 t) as (λ b. length (cond b (t ∷ filter (on_key k.0 k.1) ts) (filter (on_key k.0 k.1) ts)) ≡ length (cond b (op_key t ∷ filter (same_key k) (map op_key ts)) (filter (same_key k) (map op_key ts)))) [
  | true ↦ let h = lengths_on k ts in omega (arith, h)
  | false ↦ lengths_on k ts
]

keys_are : (ts : List Triple) → keys_of ts ≡ last_each (map op_key ts)
keys_are [] = refl
keys_are (t ∷ ts) = λ i. if nat_lt 0 (lengths_on (op_key t) ts i) then keys_are ts i else op_key t ∷ keys_are ts i

pub conflicts_by_order : (old new : List Triple) → new_conflicts old new ≡ not_among (doubled (in_order old)) (doubled (in_order new))
conflicts_by_order old new =
    let olds : List OpKey = map op_key (in_order old) in
    let news : List OpKey = map op_key (in_order new) in
    let r : NonFalling olds = keys_ordered (in_order old) (ordered old) in
    let s : NonFalling news = keys_ordered (in_order new) (ordered new) in
    ap (filter (λ k. conflicted new k.0 k.1 && not (conflicted old k.0 k.1))) (keys_are (in_order new))
    ∙ filter_like (λ k. conflicted new k.0 k.1 && not (conflicted old k.0 k.1)) (λ k. twice news k && not (among (doubled_from false olds) k)) (last_each news)
    (all_alike (λ k. (conflicted new k.0 k.1 && not (conflicted old k.0 k.1)) ≡ (twice news k && not (among (doubled_from false olds) k))) (last_each news)
    (λ k. λ i. nat_lt 1 (lengths_on k (in_order new) i) && not ((ap (nat_lt 1) (lengths_on k (in_order old)) ∙ sym (among_doubled olds k r)) i)))
    ∙ filter_twice (twice news) (λ k. not (among (doubled_from false olds) k)) (last_each news)
    ∙ ap (filter (λ k. not (among (doubled_from false olds) k))) (sym (doubled_are false news s))
    ∙ sym (left_out (doubled_from false olds) (doubled_from false news) (rises_doubled olds r) (rises_doubled news s))

-- the keys of counted triples are those of their triples
keys_in_are : (cs : List (Triple × ℕ)) → keys_in cs ≡ map op_key (triples_of cs)
keys_in_are [] = refl
keys_in_are (c ∷ cs) = ap (λ ks. op_key c.0 ∷ ks) (keys_in_are cs)

-- what one pass over counted triples finds are the new conflicts of what they count
pub found_new : (old new : List (Triple × ℕ)) (ws us : List Triple) → triples_of old ≡ in_order ws → triples_of new ≡ in_order us →
    not_among (doubled_from false (keys_in old)) (doubled_from false (keys_in new)) ≡ new_conflicts ws us
found_new old new ws us p q =
    (λ i. not_among (doubled_from false (keys_in_are old i)) (doubled_from false (keys_in_are new i)))
    ∙ (λ i. not_among (doubled (p i)) (doubled (q i)))
    ∙ sym (conflicts_by_order ws us)

-- ---- counted triples

triples_counted : (ws ts : List Triple) → triples_of (map (λ t. (t, count_of ws t)) ts) ≡ ts
triples_counted ws [] = refl
triples_counted ws (t ∷ ts) = ap (λ us. t ∷ us) (triples_counted ws ts)

all_wanted_more : (u : Triple) (ws ts : List Triple) → AllByRecursion (λ t. is_wanted ws t ≡ true) ts → AllByRecursion (λ t. is_wanted (u ∷ ws) t ≡ true) ts
all_wanted_more u ws [] h = tt
all_wanted_more u ws (t ∷ ts) h = (counted_later t u ws h.0, all_wanted_more u ws ts h.1)

all_wanted : (ws : List Triple) → AllByRecursion (λ t. is_wanted ws t ≡ true) ws
all_wanted [] = tt
all_wanted (t ∷ ts) = (counted_first t ts, all_wanted_more t ts ts (all_wanted ts))

counts_there : (ws ts : List Triple) → AllByRecursion (λ t. is_wanted ws t ≡ true) ts → AllByRecursion (λ (c : Triple × ℕ). 1 ≤ c.1) (map (λ t. (t, count_of ws t)) ts)
counts_there ws [] h = tt
counts_there ws (t ∷ ts) h = (let l = ltb-true 0 (count_of ws t) (count_wanted ws t ∙ h.0) in omega (arith, l), counts_there ws ts h.1)

pub wants_are_counted : (ws : List Triple) → AreCounted ws (counted ws)
wants_are_counted ws = record {
  triples = triples_counted ws (in_order ws);
  rising = subst InOrder (sym (triples_counted ws (in_order ws))) (ordered ws);
  counts = counts_there ws (in_order ws) (all_in_order (λ t. is_wanted ws t ≡ true) ws (all_wanted ws));
}
