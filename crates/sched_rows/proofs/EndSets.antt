-- Lists of ends that rise, and the sets that they stand for.
use Rattle.std.proofs.Common.{◌≡◌, ◌≢◌, ℕ, zero, suc, ◌+◌, ◌-◌, ◌<◌, ◌≤◌, true, false, cond, T, nat_le, nat_lt, List, [], ◌∷◌, ◌++◌, map, get_or, take, drop, length, refl, sym, ap, subst, ◌∙◌, ◌⊎◌, inl, inr, arith}
use Rattle.std.specs.List.{All, insert, remove, filter, take_while}
use Rattle.std.proofs.lemmas.Bool.{and_from, and_left, and_right, cases_lt, cases_order, le-leb, le-ltb, lt-leb, lt-ltb}
use Rattle.std.proofs.lemmas.Bool.Decides.{nat_tests}
use Rattle.std.proofs.lemmas.List.{take_at, take_rest}
use Rattle.std.proofs.lemmas.List.Elements.{All-head, All-tail}
use Rattle.std.proofs.lemmas.List.Sums.{take_while-cons}
use Rattle.std.specs.Cmp.{nat_cmp_is}
use Rattle.std.specs.declared.cmp.Ordering.TheVariants.{Less, Equal, Greater}
use Rattle.std.specs.List.Sorted.{IsNonDecreasingBy, IsPartitionPoint}
use Rattle.std.specs.Ordering.{is_lt, nat_cmp, ordering_then}
use Rattle.std.specs.FinMap.{FinMap, entries-from_sorted, empty, empty_of_len, get, keys, len-entries}
use Rattle.std.specs.FinMap as map_of
use Rattle.std.specs.FinMap.Entries.{below_all, is_sorted}
use Rattle.sched_rows.specs.declared.expiry_index.End.{End}
use Rattle.sched_rows.specs.Ends.{IsRising, end_cmp, end_entry, ends_of, ends_within, moved_up, moved_down}
use Rattle.sched_rows.specs.Ordered.{IsGapFor, IsPlaceOf}
use Rattle.sched_rows.proofs.KeyOrders.{end_cmp_tells, end_cmp_total}
use Rattle.sched_rows.proofs.SortedEntries.{both_from, both_true, is_less, get-gap, get-place, insert_same, map_insert, map_remove, remove_none, rising-at, sorted_insert, sorted_remove}

-- the list of no end
pub ends_of-nil : (es : List End) → es ≡ [] → ends_of es ≡ empty
ends_of-nil es e = ap ends_of e ∙ empty_of_len (ends_of []) (len-entries (ends_of []) ∙ ap length (entries-from_sorted end_cmp [] tt))

-- one more end, in its gap
pub rising_insert : (es new : List End) (i : ℕ) (e : End) → IsRising es → IsGapFor end_cmp (λ e. e) e es i → new ≡ insert es i e → IsRising new
rising_insert es new i e h gap is = subst IsRising (sym is) (sorted_insert end_cmp end_cmp_total (λ e. e) (λ _. tt) e es i h gap)

pub ends_of-insert : (es new : List End) (ends : FinMap end_cmp (Unit {0})) (i : ℕ) (e : End) → ends_of es ≡ ends → IsRising es → IsGapFor end_cmp (λ e. e) e es i → new ≡ insert es i e → ends_of new ≡ map_of.insert ends e tt
ends_of-insert es new ends i e was h gap is = ap ends_of is ∙ map_insert end_cmp end_cmp_total (λ e. e) (λ _. tt) e es i h gap ∙ ap (λ (m : FinMap end_cmp (Unit {0})). map_of.insert m e tt) was

-- an end that is there already
pub insert_there : (es : List End) (ends : FinMap end_cmp (Unit {0})) (i : ℕ) (e : End) → ends_of es ≡ ends → IsRising es → IsPlaceOf (λ e. e) e es i → ends ≡ map_of.insert ends e tt
insert_there es ends i e was h at =
    insert_same end_cmp end_cmp_total (λ e. e) (λ _. tt) end_cmp_tells ends e tt (ap (λ (m : FinMap end_cmp (Unit {0})). get m e) (sym was) ∙ get-place end_cmp end_cmp_total (λ e. e) (λ _. tt) e es i e h at)

-- one end less
pub rising_remove : (es new : List End) (i : ℕ) (e : End) → IsRising es → IsPlaceOf (λ e. e) e es i → new ≡ remove es i → IsRising new
rising_remove es new i e h at is = subst IsRising (sym is) (sorted_remove end_cmp end_cmp_total (λ e. e) (λ _. tt) e es i e h at)

pub ends_of-remove : (es new : List End) (ends : FinMap end_cmp (Unit {0})) (i : ℕ) (e : End) → ends_of es ≡ ends → IsRising es → IsPlaceOf (λ e. e) e es i → new ≡ remove es i → ends_of new ≡ map_of.remove ends e
ends_of-remove es new ends i e was h at is =
    ap ends_of is ∙ map_remove end_cmp end_cmp_total (λ e. e) (λ _. tt) end_cmp_tells e es i e h at ∙ ap (λ (m : FinMap end_cmp (Unit {0})). map_of.remove m e) was

-- an end that isn't there
pub remove_absent : (es : List End) (ends : FinMap end_cmp (Unit {0})) (i : ℕ) (e : End) → ends_of es ≡ ends → IsRising es → IsGapFor end_cmp (λ e. e) e es i → ends ≡ map_of.remove ends e
remove_absent es ends i e was h gap =
    remove_none end_cmp end_cmp_total (λ e. e) (λ _. tt) end_cmp_tells ends e (ap (λ (m : FinMap end_cmp (Unit {0})). get m e) (sym was) ∙ get-gap end_cmp end_cmp_total (λ e. e) (λ _. tt) e es i h gap)

-- what stands before what
pub earlier : (x y : End) → end_cmp x y ≡ Less → (x.time < y.time) ⊎ ((x.time ≡ y.time) × (x.place < y.place))
earlier x y e = elim (cases_order x.time y.time) [
  | inr (inl less) ↦ inl less
  | inr (inr more) ↦ cc (e, nat_cmp_is x.time y.time Greater more)
  | inl same ↦ elim (cases_order x.place y.place) [
    | inr (inl less) ↦ inr (same, less)
    | inr (inr more) ↦ cc (e, nat_cmp_is x.time y.time Equal same, nat_cmp_is x.place y.place Greater more)
    | inl tied ↦ cc (e, nat_cmp_is x.time y.time Equal same, nat_cmp_is x.place y.place Equal tied)
  ]
]

pub from_earlier : (x y : End) → (x.time < y.time) ⊎ ((x.time ≡ y.time) × (x.place < y.place)) → end_cmp x y ≡ Less
from_earlier x y (inl less) = ap (λ r. ordering_then r (nat_cmp x.place y.place)) (sym (nat_cmp_is x.time y.time Less less))
from_earlier x y (inr (same, less)) = ap (λ r. ordering_then r (nat_cmp x.place y.place)) (sym (nat_cmp_is x.time y.time Equal same)) ∙ sym (nat_cmp_is x.place y.place Less less)

-- the times don't fall
pub times_rise : (es : List End) → IsRising es → IsNonDecreasingBy (λ e. e.time) es
times_rise es h = λ i j d upto within. elim (cases_lt i j) [
  | inl less ↦ let r = earlier (get_or es i d) (get_or es j d) (rising-at end_cmp end_cmp_total (λ e. e) (λ _. tt) es i j d h less within) in elim r [ inl before ↦ omega arith | inr tied ↦ omega (arith, tied.0) ]
  | inr more ↦ let same : i ≡ j = omega arith in omega (arith, ap (λ n. (get_or es n d).time) same)
]

-- the list of the set's ends
pub keys-ends_of : (es : List End) → IsRising es → keys (ends_of es) ≡ es
keys-ends_of es h = ap (map (λ e. e.0)) (entries-from_sorted end_cmp (map end_entry es) h) ∙ firsts es
  where
    firsts : (es : List End) → map (λ e. e.0) (map end_entry es) ≡ es
    firsts [] = refl
    firsts (e ∷ es) = ap (λ es. e ∷ es) (firsts es)

below_map : (f : End → End) (P : End → Type 0) → ((x y : End) → P x → P y → end_cmp x y ≡ Less → end_cmp (f x) (f y) ≡ Less) → (x : End) (es : List End) → P x → All P es → T (below_all end_cmp x (map end_entry es)) → T (below_all end_cmp (f x) (map end_entry (map f es)))
below_map f P mono x [] p all h = tt
below_map f P mono x (e ∷ es) p all h =
    let b = both_true (is_lt (end_cmp x e)) (below_all end_cmp x (map end_entry es)) h in
    both_from (is_lt (end_cmp (f x) (f e))) (below_all end_cmp (f x) (map end_entry (map f es)))
    (subst (λ r. T (is_lt r)) (sym (mono x e p (All-head P e es all) (is_less _ b.0))) tt)
    (below_map f P mono x es p (All-tail P e es all) b.1)

-- a function that keeps what stands before what
rising_map : (f : End → End) (P : End → Type 0) → ((x y : End) → P x → P y → end_cmp x y ≡ Less → end_cmp (f x) (f y) ≡ Less) → (es : List End) → All P es → IsRising es → IsRising (map f es)
rising_map f P mono [] all h = tt
rising_map f P mono (e ∷ es) all h =
    let b = both_true (below_all end_cmp e (map end_entry es)) (is_sorted end_cmp (map end_entry es)) h in
    both_from (below_all end_cmp (f e) (map end_entry (map f es))) (is_sorted end_cmp (map end_entry (map f es)))
    (below_map f P mono e es (All-head P e es all) (All-tail P e es all) b.0)
    (rising_map f P mono es (All-tail P e es all) b.1)

up_rises : (p a b : ℕ) → a < b → cond (nat_le p a) (a + 1) a < cond (nat_le p b) (b + 1) b
up_rises p a b less = grind (arith, nat_tests)

down_rises : (p a b : ℕ) → a ≢ p → b ≢ p → a < b → cond (nat_lt p a) (a - 1) a < cond (nat_lt p b) (b - 1) b
down_rises p a b not_a not_b less = grind (arith, nat_tests)

pub rising_up : (p : ℕ) (es : List End) → IsRising es → IsRising (map (moved_up p) es)
rising_up p es h =
    rising_map (moved_up p) (λ _. Unit {0})
    (λ x y _ _ less. from_earlier (moved_up p x) (moved_up p y) (elim (earlier x y less) [ inl before ↦ inl before | inr tied ↦ inr (tied.0, up_rises p x.place y.place tied.1) ]))
    es (λ k d within. tt) h

pub rising_down : (p : ℕ) (es : List End) → All (λ e. e.place ≢ p) es → IsRising es → IsRising (map (moved_down p) es)
rising_down p es none h =
    rising_map (moved_down p) (λ e. e.place ≢ p)
    (λ x y not_x not_y less. from_earlier (moved_down p x) (moved_down p y) (elim (earlier x y less) [ inl before ↦ inl before | inr tied ↦ inr (tied.0, down_rises p x.place y.place not_x not_y tied.1) ]))
    es none h

-- the first ends at a time at the latest, behind those at an earlier one at the latest
none_within : (after upto : ℕ) (es : List End) → ((k : ℕ) (d : End) → k < length es → upto < (get_or es k d).time) → filter (ends_within after upto) es ≡ []
none_within after upto [] late = refl
none_within after upto (e ∷ es) late =
    let test : ends_within after upto e ≡ false = and_right (nat_lt after e.time) (nat_le e.time upto) (lt-leb e.time upto (late 0 e (omega arith))) in
    ap (λ b. cond b (e ∷ filter (ends_within after upto) es) (filter (ends_within after upto) es)) test ∙ none_within after upto es (λ k d h. late (suc k) d (omega arith))

upto_within : (after upto : ℕ) (es : List End) → IsNonDecreasingBy (λ e. e.time) es → ((k : ℕ) (d : End) → k < length es → after < (get_or es k d).time) → take_while (λ e. nat_le e.time upto) es ≡ filter (ends_within after upto) es
upto_within after upto [] rise late = refl
upto_within after upto (e ∷ es) rise late =
    let above : nat_lt after e.time ≡ true = lt-ltb after e.time (late 0 e (omega arith)) in
    take_while-cons (λ e. nat_le e.time upto) e es
    ∙ elim (cases_lt upto e.time) [
      | inl past ↦
          let test : nat_le e.time upto ≡ false = lt-leb e.time upto past in
          ap (λ b. cond b (e ∷ take_while (λ e. nat_le e.time upto) es) []) test
          ∙ sym (none_within after upto (e ∷ es) (λ k d h. let from : e.time ≤ (get_or (e ∷ es) k d).time = rise 0 k d (omega arith) h in omega arith))
      | inr kept ↦
          let test : nat_le e.time upto ≡ true = le-leb e.time upto kept in
          ap (λ b. cond b (e ∷ take_while (λ e. nat_le e.time upto) es) []) test
          ∙ ap (λ es. e ∷ es) (upto_within after upto es (λ i j d upto_j h. rise (suc i) (suc j) d (omega arith) (omega arith)) (λ k d h. late (suc k) d (omega arith)))
          ∙ sym (ap (λ b. cond b (e ∷ filter (ends_within after upto) es) (filter (ends_within after upto) es)) (and_from (nat_lt after e.time) (nat_le e.time upto) above test))
    ]

behind_within : (after upto start : ℕ) (es : List End) → IsNonDecreasingBy (λ e. e.time) es → IsPartitionPoint (λ e. e.time ≤ after) (λ e. after < e.time) es start → take_while (λ e. nat_le e.time upto) (drop start es) ≡ filter (ends_within after upto) es
behind_within after upto zero es rise point = upto_within after upto es rise (λ k d h. point.1 k d (omega arith) h)
behind_within after upto (suc start) [] rise point = refl
behind_within after upto (suc start) (e ∷ es) rise point =
    let early : e.time ≤ after = point.0 0 e (omega arith) (omega arith) in
    let test : ends_within after upto e ≡ false = and_left (nat_lt after e.time) (nat_le e.time upto) (le-ltb after e.time early) in
    behind_within after upto start es (λ i j d upto_j h. rise (suc i) (suc j) d (omega arith) (omega arith))
    (λ k d low less. point.0 (suc k) d (omega arith) (omega arith), λ k d low less. point.1 (suc k) d (omega arith) (omega arith))
    ∙ sym (ap (λ b. cond b (e ∷ filter (ends_within after upto) es) (filter (ends_within after upto) es)) test)

within_from : (after upto start : ℕ) (es : List End) → IsRising es → IsPartitionPoint (λ e. e.time ≤ after) (λ e. after < e.time) es start → take_while (λ e. nat_le e.time upto) (drop start es) ≡ filter (ends_within after upto) es
within_from after upto start es h point = behind_within after upto start es (times_rise es h) point

pub keys-is : (es : List End) (ends : FinMap end_cmp (Unit {0})) → ends_of es ≡ ends → IsRising es → keys ends ≡ es
keys-is es ends was h = ap keys (sym was) ∙ keys-ends_of es h

-- a list that was written over in place
pub written_is : (es now new : List End) (f : End → End) (n : ℕ) → length now ≡ n → length new ≡ length now → now ≡ es → new ≡ map f now → take n (new ++ drop (length new) es) ≡ map f es
written_is es now new f n long same was is = take_at new (drop (length new) es) n (same ∙ long) ∙ is ∙ ap (map f) was

-- the places that a search found
pub places_are : (es now : List End) (ends : FinMap end_cmp (Unit {0})) (after upto start : ℕ) (ps : List ℕ) → ends_of es ≡ ends → IsRising es → now ≡ es → IsPartitionPoint (λ e. e.time ≤ after) (λ e. after < e.time) now start
    → ps ≡ map (λ e. e.place) (take_while (λ e. nat_le e.time upto) (take (length now - start) (drop start now))) → ps ≡ map (λ e. e.place) (filter (ends_within after upto) (keys ends))
places_are es now ends after upto start ps was h same point is =
    is ∙ ap (λ es. map (λ e. e.place) (take_while (λ e. nat_le e.time upto) es)) (take_rest now start)
    ∙ ap (map (λ e. e.place)) (within_from after upto start now (subst IsRising (sym same) h) point ∙ ap (filter (ends_within after upto)) (same ∙ sym (keys-is es ends was h)))
