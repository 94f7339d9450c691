-- Lists in the strict order of their keys, and the maps that they stand for: an item of such a list is an entry, by `key` and `val`.
use Rattle.std.proofs.Common.{◌≡◌, ℕ, zero, suc, ◌+◌, ◌<◌, ◌≤◌, Bool, true, false, not, ◌&&◌, cond, T, List, [], ◌∷◌, map, length, get_or, set, Some, None, Result, Ok, Err, MatchResult, Ordering, refl, sym, ap, subst, ◌∙◌, inl, inr, arith}
use Rattle.std.proofs.lemmas.Bool.{cases_Bool, cases_lt}
use Rattle.std.specs.List.{insert, remove}
use Rattle.std.specs.List.Sorted.{IsBinarySearchResult, IsSearchInRange, IsSortedBy}
use Rattle.std.proofs.lemmas.List.Sorted.{searchable_from_sorted}
use Rattle.std.specs.declared.cmp.Ordering.TheVariants.{Less, Equal, Greater}
use Rattle.std.specs.Ordering.{is_lt, is_eq, eq_by_cmp, ordering_reverse}
use Rattle.std.specs.Cmp.{Equal-is, IsTotalOrder, alike_right, eq_by_cmp_equiv, tied_back, tied_itself}
use Rattle.std.specs.FinMap.{FinMap, IsAntisymmetric, from_sorted, entries-from_sorted, entries-insert, get, get-from_sorted, get-insert, get-remove, get_tied, same_entries_map, same_map}
use Rattle.std.specs.FinMap as map_of
use Rattle.sched_rows.specs.Ordered.{IsGapFor, IsPlaceOf}
use Rattle.std.specs.FinMap.Entries.{by_order, put, find, where_key, below_all, is_sorted, is_sorted-put, is_sorted-where_key, find-where_key}

pub both_true : (a b : Bool) → T (a && b) → T a × T b
both_true true b h = (tt, h)
both_true false b h = absurd h

pub both_from : (a b : Bool) → T a → T b → T (a && b)
both_from true b h k = k
both_from false b h k = absurd h

pub is_less : (o : Ordering) → T (is_lt o) → o ≡ Less
is_less Less h = refl
is_less Equal h = absurd h
is_less Greater h = absurd h

turned : {A : Type 0} (b : Bool) (x y : A) → cond (not b) x y ≡ cond b y x
turned true x y = refl
turned false x y = refl

reversed : {K : Type 0} {R : K → K → Ordering} → IsTotalOrder R → (x y : K) (r : Ordering) → R x y ≡ r → R y x ≡ ordering_reverse r
reversed o x y r e = o.antisymm y x ∙ ap ordering_reverse e

below_all-val : {Item K X Y : Type 0} (R : K → K → Ordering) (key : Item → K) (val : Item → X) (other : Item → Y) (k : K) (ts : List Item) → below_all R k (map (λ t. (key t, val t)) ts) ≡ below_all R k (map (λ t. (key t, other t)) ts)
below_all-val R key val other k [] = refl
below_all-val R key val other k (t ∷ ts) = ap (λ b. is_lt (R k (key t)) && b) (below_all-val R key val other k ts)

-- whether a list is in order depends on its keys alone
pub is_sorted-val : {Item K X Y : Type 0} (R : K → K → Ordering) (key : Item → K) (val : Item → X) (other : Item → Y) (ts : List Item) → is_sorted R (map (λ t. (key t, val t)) ts) ≡ is_sorted R (map (λ t. (key t, other t)) ts)
is_sorted-val R key val other [] = refl
is_sorted-val R key val other (t ∷ ts) = λ i. below_all-val R key val other (key t) ts i && is_sorted-val R key val other ts i

module _ {Item K X : Type 0} (R : K → K → Ordering) (o : IsTotalOrder R) (key : Item → K) (val : Item → X) where
  abbrev entry : Item → K × X
  entry t = (key t, val t)

  -- a key below all is smaller than that of the item at each place
  below-at : (k : K) (ts : List Item) (i : ℕ) (d : Item) → T (below_all R k (map entry ts)) → i < length ts → R k (key (get_or ts i d)) ≡ Less
  below-at k [] i d h within = absurd (omega arith)
  below-at k (t ∷ ts) zero d h within = is_less _ (both_true _ _ h).0
  below-at k (t ∷ ts) (suc i) d h within = below-at k ts i d (both_true _ _ h).1 (omega arith)

  -- the keys rise from place to place
  pub rising-at : (ts : List Item) (i j : ℕ) (d : Item) → T (is_sorted R (map entry ts)) → i < j → j < length ts → R (key (get_or ts i d)) (key (get_or ts j d)) ≡ Less
  rising-at [] i j d h less within = absurd (omega arith)
  rising-at (t ∷ ts) i zero d h less within = absurd (omega arith)
  rising-at (t ∷ ts) zero (suc j) d h less within = below-at (key t) ts j d (both_true _ _ h).0 (omega arith)
  rising-at (t ∷ ts) (suc i) (suc j) d h less within = rising-at ts i j d (both_true _ _ h).1 (omega arith) (omega arith)

  -- an item between those with smaller keys and those with greater ones
  put-gap : (t : Item) (ts : List Item) (i : ℕ) → i ≤ length ts
      → ((j : ℕ) (d : Item) → j < i → R (key (get_or ts j d)) (key t) ≡ Less)
      → ((j : ℕ) (d : Item) → i ≤ j → j < length ts → R (key (get_or ts j d)) (key t) ≡ Greater)
      → put R (key t) (val t) (map entry ts) ≡ map entry (insert ts i t)
  put-gap t [] zero within before behind = refl
  put-gap t [] (suc i) within before behind = absurd (omega arith)
  put-gap t (x ∷ xs) zero within before behind =
      let less : R (key t) (key x) ≡ Less = reversed o (key x) (key t) Greater (behind 0 x (omega arith) (omega arith)) in
      ap (λ r. by_order r (entry t ∷ entry x ∷ map entry xs) ((key x, val t) ∷ map entry xs) (entry x ∷ put R (key t) (val t) (map entry xs))) less
  put-gap t (x ∷ xs) (suc i) within before behind =
      let more : R (key t) (key x) ≡ Greater = reversed o (key x) (key t) Less (before 0 x (omega arith)) in
      ap (λ r. by_order r (entry t ∷ entry x ∷ map entry xs) ((key x, val t) ∷ map entry xs) (entry x ∷ put R (key t) (val t) (map entry xs))) more
      ∙ ap (λ es. entry x ∷ es) (put-gap t xs i (omega arith) (λ j d h. before (suc j) d (omega arith)) (λ j d h k. behind (suc j) d (omega arith) (omega arith)))

  -- the item at a place, over one with an equal key
  put-place : (t : Item) (ts : List Item) (i : ℕ) → T (is_sorted R (map entry ts)) → i < length ts → key (get_or ts i t) ≡ key t
      → put R (key t) (val t) (map entry ts) ≡ map entry (set ts i t)
  put-place t [] i h within same = absurd (omega arith)
  put-place t (x ∷ xs) zero h within same =
      let tied : R (key t) (key x) ≡ Equal = ap (R (key t)) same ∙ tied_itself o (key t) in
      ap (λ r. by_order r (entry t ∷ entry x ∷ map entry xs) ((key x, val t) ∷ map entry xs) (entry x ∷ put R (key t) (val t) (map entry xs))) tied
      ∙ ap (λ (k : K). (k, val t) ∷ map entry xs) same
  put-place t (x ∷ xs) (suc i) h within same =
      let below : R (key x) (key (get_or xs i t)) ≡ Less = below-at (key x) xs i t (both_true _ _ h).0 (omega arith) in
      let more : R (key t) (key x) ≡ Greater = reversed o (key x) (key t) Less (ap (R (key x)) (sym same) ∙ below) in
      ap (λ r. by_order r (entry t ∷ entry x ∷ map entry xs) ((key x, val t) ∷ map entry xs) (entry x ∷ put R (key t) (val t) (map entry xs))) more
      ∙ ap (λ es. entry x ∷ es) (put-place t xs i (both_true _ _ h).1 (omega arith) same)

  abbrev others : K → K → Bool
  others k x = not (eq_by_cmp R k x)

  all_others : (k : K) (ts : List Item) → T (below_all R k (map entry ts)) → where_key R (others k) (map entry ts) ≡ map entry ts
  all_others k [] h = refl
  all_others k (x ∷ xs) h =
      let b = both_true _ _ h in
      ap (λ r. cond (not (is_eq r)) (entry x ∷ where_key R (others k) (map entry xs)) (where_key R (others k) (map entry xs))) (is_less _ b.0)
      ∙ ap (λ es. entry x ∷ es) (all_others k xs b.1)

  -- the items but the one at a place
  without-place : (k : K) (ts : List Item) (i : ℕ) (d : Item) → T (is_sorted R (map entry ts)) → i < length ts → key (get_or ts i d) ≡ k
      → where_key R (others k) (map entry ts) ≡ map entry (remove ts i)
  without-place k [] i d h within same = absurd (omega arith)
  without-place k (x ∷ xs) zero d h within same =
      let tied : R k (key x) ≡ Equal = ap (R k) same ∙ tied_itself o k in
      ap (λ r. cond (not (is_eq r)) (entry x ∷ where_key R (others k) (map entry xs)) (where_key R (others k) (map entry xs))) tied
      ∙ all_others k xs (subst (λ (q : K). T (below_all R q (map entry xs))) same (both_true _ _ h).0)
  without-place k (x ∷ xs) (suc i) d h within same =
      let below : R (key x) (key (get_or xs i d)) ≡ Less = below-at (key x) xs i d (both_true _ _ h).0 (omega arith) in
      let more : R k (key x) ≡ Greater = reversed o (key x) k Less (ap (R (key x)) (sym same) ∙ below) in
      ap (λ r. cond (not (is_eq r)) (entry x ∷ where_key R (others k) (map entry xs)) (where_key R (others k) (map entry xs))) more
      ∙ ap (λ es. entry x ∷ es) (without-place k xs i d (both_true _ _ h).1 (omega arith) same)

  -- the value at a place
  find_at : (k : K) (ts : List Item) (i : ℕ) (d : Item) → T (is_sorted R (map entry ts)) → i < length ts → key (get_or ts i d) ≡ k
      → find R k (map entry ts) ≡ Some (val (get_or ts i d))
  find_at k [] i d h within same = absurd (omega arith)
  find_at k (x ∷ xs) zero d h within same =
      let tied : R k (key x) ≡ Equal = ap (R k) same ∙ tied_itself o k in
      ap (λ r. cond (is_eq r) (Some (val x)) (find R k (map entry xs))) tied
  find_at k (x ∷ xs) (suc i) d h within same =
      let below : R (key x) (key (get_or xs i d)) ≡ Less = below-at (key x) xs i d (both_true _ _ h).0 (omega arith) in
      let more : R k (key x) ≡ Greater = reversed o (key x) k Less (ap (R (key x)) (sym same) ∙ below) in
      ap (λ r. cond (is_eq r) (Some (val x)) (find R k (map entry xs))) more ∙ find_at k xs i d (both_true _ _ h).1 (omega arith) same

  pub get-place : (k : K) (ts : List Item) (i : ℕ) (d : Item) → T (is_sorted R (map entry ts)) → IsPlaceOf key k ts i
      → get (from_sorted {R = R} (map entry ts)) k ≡ Some (val (get_or ts i d))
  get-place k ts i d h at = get-from_sorted R (map entry ts) k h ∙ find_at k ts i d h at.within (at.is d)

  -- a key that no item has
  find-none : (k : K) (ts : List Item) → ((j : ℕ) (d : Item) → j < length ts → eq_by_cmp R k (key (get_or ts j d)) ≡ false) → find R k (map entry ts) ≡ None
  find-none k [] none = refl
  find-none k (x ∷ xs) none = ap (λ b. cond b (Some (val x)) (find R k (map entry xs))) (none 0 x (omega arith)) ∙ find-none k xs (λ j d h. none (suc j) d (omega arith))

  pub get-gap : (k : K) (ts : List Item) (i : ℕ) → T (is_sorted R (map entry ts)) → IsGapFor R key k ts i → get (from_sorted {R = R} (map entry ts)) k ≡ None
  get-gap k ts i h gap = get-from_sorted R (map entry ts) k h ∙ find-none k ts (λ j d within. elim (cases_lt j i) [
    | inl less ↦ ap is_eq (reversed o (key (get_or ts j d)) k Less (gap.before j d less))
    | inr more ↦ ap is_eq (reversed o (key (get_or ts j d)) k Greater (gap.behind j d more within))
  ])

  -- the maps of such lists
  pub sorted_insert : (t : Item) (ts : List Item) (i : ℕ) → T (is_sorted R (map entry ts)) → IsGapFor R key (key t) ts i
      → T (is_sorted R (map entry (insert ts i t)))
  sorted_insert t ts i h gap = subst (λ es. T (is_sorted R es)) (put-gap t ts i gap.within gap.before gap.behind) (is_sorted-put R o (key t) (val t) (map entry ts) h)

  pub map_insert : (t : Item) (ts : List Item) (i : ℕ) → T (is_sorted R (map entry ts)) → IsGapFor R key (key t) ts i
      → from_sorted {R = R} (map entry (insert ts i t)) ≡ map_of.insert (from_sorted (map entry ts)) (key t) (val t)
  map_insert t ts i h gap =
      same_entries_map _ _ (entries-from_sorted R (map entry (insert ts i t)) (sorted_insert t ts i h gap) ∙ sym (put-gap t ts i gap.within gap.before gap.behind)
      ∙ sym (entries-insert o (from_sorted (map entry ts)) (key t) (val t) ∙ ap (put R (key t) (val t)) (entries-from_sorted R (map entry ts) h)))

  pub sorted_set : (t : Item) (ts : List Item) (i : ℕ) → T (is_sorted R (map entry ts)) → IsPlaceOf key (key t) ts i → T (is_sorted R (map entry (set ts i t)))
  sorted_set t ts i h at = subst (λ es. T (is_sorted R es)) (put-place t ts i h at.within (at.is t)) (is_sorted-put R o (key t) (val t) (map entry ts) h)

  pub map_set : (t : Item) (ts : List Item) (i : ℕ) → T (is_sorted R (map entry ts)) → IsPlaceOf key (key t) ts i
      → from_sorted {R = R} (map entry (set ts i t)) ≡ map_of.insert (from_sorted (map entry ts)) (key t) (val t)
  map_set t ts i h at =
      same_entries_map _ _ (entries-from_sorted R (map entry (set ts i t)) (sorted_set t ts i h at) ∙ sym (put-place t ts i h at.within (at.is t))
      ∙ sym (entries-insert o (from_sorted (map entry ts)) (key t) (val t) ∙ ap (put R (key t) (val t)) (entries-from_sorted R (map entry ts) h)))

  pub sorted_remove : (k : K) (ts : List Item) (i : ℕ) (d : Item) → T (is_sorted R (map entry ts)) → IsPlaceOf key k ts i → T (is_sorted R (map entry (remove ts i)))
  sorted_remove k ts i d h at = subst (λ es. T (is_sorted R es)) (without-place k ts i d h at.within (at.is d)) (is_sorted-where_key R (others k) (map entry ts) h)

  pub map_remove : IsAntisymmetric R → (k : K) (ts : List Item) (i : ℕ) (d : Item) → T (is_sorted R (map entry ts)) → IsPlaceOf key k ts i
      → from_sorted {R = R} (map entry (remove ts i)) ≡ map_of.remove (from_sorted (map entry ts)) k
  map_remove tells k ts i d h at =
      same_map o tells _ _ (λ q.
      get-from_sorted R (map entry (remove ts i)) q (sorted_remove k ts i d h at) ∙ ap (find R q) (sym (without-place k ts i d h at.within (at.is d)))
      ∙ find-where_key R (others k) q (λ x t. ap (λ r. not (is_eq r)) (sym (alike_right o q x k t))) (map entry ts)
      ∙ turned (eq_by_cmp R k q) (find R q (map entry ts)) None ∙ ap (λ b. cond b None (find R q (map entry ts))) ((eq_by_cmp_equiv o).symm k q)
      ∙ ap (cond (eq_by_cmp R q k) None) (sym (get-from_sorted R (map entry ts) q h)) ∙ sym (get-remove o (from_sorted (map entry ts)) k q))

  falls_not : (r : Ordering) → r ≡ Less → is_lt (ordering_reverse r) ≡ false
  falls_not r e = ap (λ r. is_lt (ordering_reverse r)) e

  searchable : (ts : List Item) → T (is_sorted R (map entry ts)) → IsSortedBy (λ a b. is_lt (R (key a) (key b))) ts
  searchable ts h = λ i d low within.
      let rise : R (key (get_or ts i d)) (key (get_or ts (i + 1) d)) ≡ Less = rising-at ts i (i + 1) d h (omega arith) within in
      ap is_lt (o.antisymm (key (get_or ts (i + 1) d)) (key (get_or ts i d))) ∙ falls_not _ rise

  -- what a search by halving says
  pub searched : IsAntisymmetric R → (k : K) (ts : List Item) (r : Result ℕ ℕ) → T (is_sorted R (map entry ts))
      → IsSearchInRange r (length ts) → IsBinarySearchResult (λ y. R (key y) k) ts r → MatchResult r (IsPlaceOf key k ts) (IsGapFor R key k ts)
  searched tells k ts (Ok i) h within says = record { within = within; is = λ d. tells (key (get_or ts i d)) k (says d) }
  searched tells k ts (Err i) h within says =
      let parted = says (searchable_from_sorted o key ts k (searchable ts h)) in
      record { within = within; before = λ j d less. parted.0 j d (omega arith) less; behind = λ j d more less. parted.1 j d more less }

  -- a map that has an entry already, and one that has none to take out
  pub insert_same : IsAntisymmetric R → (m : FinMap R X) (k : K) (v : X) → get m k ≡ Some v → m ≡ map_of.insert m k v
  insert_same tells m k v has =
      same_map o tells m (map_of.insert m k v) (λ q. sym (get-insert o m k v q ∙ elim (cases_Bool (eq_by_cmp R q k)) [
        | inl tied ↦ ap (λ b. cond b (Some v) (get m q)) tied ∙ sym (get_tied o m k q (tied_back o q k ((Equal-is (R q k)).0 tied)) ∙ has)
        | inr apart ↦ ap (λ b. cond b (Some v) (get m q)) apart
      ]))

  pub remove_none : IsAntisymmetric R → (m : FinMap R X) (k : K) → get m k ≡ None → m ≡ map_of.remove m k
  remove_none tells m k lacks =
      same_map o tells m (map_of.remove m k) (λ q. sym (get-remove o m k q ∙ elim (cases_Bool (eq_by_cmp R q k)) [
        | inl tied ↦ ap (λ b. cond b None (get m q)) tied ∙ sym (get_tied o m k q (tied_back o q k ((Equal-is (R q k)).0 tied)) ∙ lacks)
        | inr apart ↦ ap (λ b. cond b None (get m q)) apart
      ]))
