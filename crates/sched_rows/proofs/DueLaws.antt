-- The rows that are due, from the places that the ends tell.
use Rattle.std.proofs.Common.{◌≡◌, ℕ, suc, ◌+◌, ◌-◌, ◌<◌, ◌≤◌, Bool, true, false, ◌&&◌, eqb, cond, T, List, [], ◌∷◌, ◌++◌, map, get_or, take, length, nat_le, nat_lt, Option, Some, None, refl, sym, ap, subst, ◌∙◌, inl, inr, arith}
use Rattle.std.proofs.lemmas.Bool.{cases_Bool, cases_eq, eq-eqb, eqb-true, false≢true, ne_eqb}
use Rattle.std.proofs.lemmas.List.{map_more}
use Rattle.std.proofs.lemmas.List.Elements.{All-filter, All-map, recursion_from_All}
use Rattle.std.proofs.lemmas.List.Sorted.{All-permutation, list_any-IsPermutation}
use Rattle.std.proofs.lemmas.Map.Keys.{IsDistinct-IsPermutation, IsStrictlyIncreasing-from_distinct}
use Rattle.std.proofs.lemmas.Option.{none-some, same_Some, slice_get-get_or}
use Rattle.std.specs.Cmp.{tied_itself}
use Rattle.std.specs.declared.cmp.Ordering.TheVariants.{Less, Equal}
use Rattle.std.specs.FinMap.{FinMap, entries, entries_sorted, keys}
use Rattle.std.specs.FinMap.Entries.{below_all, is_sorted}
use Rattle.std.specs.List.{All, IsDistinct, filter, slice_get}
use Rattle.std.specs.List.Sorted.{IsNonDecreasing, IsPermutation, IsStrictlyIncreasing}
use Rattle.std.specs.Option.{option_and_then, option_map_or}
use Rattle.std.specs.Ordering.{is_lt}
use Rattle.sched_rows.specs.declared.expiry_index.End.{End}
use Rattle.sched_rows.specs.declared.holding.Held.{Held}
use Rattle.sched_rows.specs.declared.row.Row.{Row}
use Rattle.sched_rows.specs.Ends.{IsRising, end_cmp, end_entry, ends_within}
use Rattle.sched_rows.specs.Holding.{IsIndexOf, IsOrdered, end_at, end_of, expiries_of, held_key, row_entry, rows_of}
use Rattle.sched_rows.specs.Ordered.{IsPlaceOf}
use Rattle.sched_rows.specs.RowKeys.{RowKey}
use Rattle.sched_rows.specs.Rows.{Kept, due_keys, end_under, falls_within, is_due}
use Rattle.sched_rows.proofs.IndexLaws.{all_in, from_keys, in_keys, places_within_rows, tells, told}
use Rattle.sched_rows.proofs.KeptLaws.{entries_rows, expiry_at}
use Rattle.sched_rows.proofs.KeyOrders.{end_cmp_total}
use Rattle.sched_rows.proofs.Members.{IsIn, any_found, any_in, filter_found, filter_in, map_found, map_in}
use Rattle.sched_rows.proofs.SortedEntries.{both_true, is_less}

-- a held row's name and key
abbrev pub names_of : Held → List ℕ × List ℕ
names_of h = (h.row.op, h.row.key)

-- those of the row at a place
abbrev pub names_at : List Held → ℕ → List ℕ × List ℕ
names_at hs place = option_map_or names_of (slice_get hs place) ([], [])

-- numbers that rise from at least a on
abbrev RiseFrom : ℕ → List ℕ → Type 0
RiseFrom a [] = Unit {0}
RiseFrom a (p ∷ ps) = (a ≤ p) × RiseFrom (suc p) ps

next : (k : ℕ) → suc k + 1 ≡ suc (k + 1)
next k = omega arith

moved : {X : Type 0} (f : ℕ → X) (m n : ℕ) → m ≡ n → f m ≡ f n
moved f m n e = ap f e

moved_in : (ps : List ℕ) (m n : ℕ) → m ≡ n → IsIn m ps → IsIn n ps
moved_in ps m n e h = subst (λ (p : ℕ). IsIn p ps) e h

rise_from : (p : ℕ) (ps : List ℕ) → IsStrictlyIncreasing (p ∷ ps) → RiseFrom (suc p) ps
rise_from p [] rise = tt
rise_from p (q ∷ ps) rise = let first : p < q = rise 0 (omega arith) in (omega arith, rise_from q ps (λ k within. subst (λ (n : ℕ). get_or (q ∷ ps) k 0 < get_or (p ∷ q ∷ ps) n 0) (next k) (rise (suc k) (omega arith))))

rise_all : (ps : List ℕ) → IsStrictlyIncreasing ps → RiseFrom 0 ps
rise_all [] rise = tt
rise_all (p ∷ ps) rise = (omega arith, rise_from p ps rise)

at_least : (a : ℕ) (ps : List ℕ) (p : ℕ) → RiseFrom a ps → IsIn p ps → a ≤ p
at_least a [] p rise h = absurd h
at_least a (q ∷ ps) p rise (inl e) = omega (arith, rise.0)
at_least a (q ∷ ps) p rise (inr h) = let more = at_least (suc q) ps p rise.1 h in omega (arith, rise.0)

map_agree : {X Y : Type 0} (f g : X → Y) (xs : List X) → ((x : X) → IsIn x xs → f x ≡ g x) → map f xs ≡ map g xs
map_agree f g [] same = refl
map_agree f g (x ∷ xs) same = λ i. same x (inl refl) i ∷ map_agree f g xs (λ y h. same y (inr h)) i

-- the places that rise and are those whose rows pass a test, as their rows
module _ (test : Held → Bool) where
  places_named : (hs : List Held) (a : ℕ) (ps : List ℕ) → RiseFrom a ps
      → ((p : ℕ) → IsIn p ps → (h : Held) × (slice_get hs (p - a) ≡ Some h) × (test h ≡ true))
      → ((n : ℕ) (h : Held) → slice_get hs n ≡ Some h → test h ≡ true → IsIn (a + n) ps)
      → map (λ p. names_at hs (p - a)) ps ≡ map names_of (filter test hs)
  places_named [] a [] rise found has = refl
  places_named [] a (p ∷ ps) rise found has = let f = found p (inl refl) in absurd (none-some f.0 f.1)
  places_named (h ∷ hs) a [] rise found has = elim (cases_Bool (test h)) [
    | inl t ↦ absurd (has 0 h refl t)
    | inr f ↦ places_named hs (suc a) [] tt (λ p no_place. absurd no_place) (λ n x at t. has (suc n) x at t) ∙ sym (ap (λ b. map names_of (cond b (h ∷ filter test hs) (filter test hs))) f)
  ]
  places_named (h ∷ hs) a (p ∷ ps) rise found has = elim (cases_Bool (test h)) [
    | inl t ↦
        let first : p ≡ a = elim (has 0 h refl t) [
          | inl e ↦ omega arith
          | inr later ↦ let more = at_least (suc p) ps (a + 0) rise.1 later in absurd (omega (arith, rise.0))
        ] in
        let name : names_at (h ∷ hs) (p - a) ≡ names_of h = moved (names_at (h ∷ hs)) (p - a) 0 (omega arith) in
        let rest : map (λ q. names_at hs (q - suc a)) ps ≡ map names_of (filter test hs) = places_named hs (suc a) ps (subst (λ (n : ℕ). RiseFrom (suc n) ps) first rise.1)
        (λ q q_in. let f = found q (inr q_in) in
        let more = at_least (suc p) ps q rise.1 q_in in
        (f.0, moved (slice_get (h ∷ hs)) (suc (q - suc a)) (q - a) (omega arith) ∙ f.1, f.2))
        (λ n x at tx. elim (has (suc n) x at tx) [
          | inl e ↦ absurd (omega arith)
          | inr later ↦ moved_in ps (a + suc n) (suc a + n) (omega arith) later
        ]) in
        let shift : map (λ q. names_at (h ∷ hs) (q - a)) ps ≡ map (λ q. names_at hs (q - suc a)) ps = map_agree (λ q. names_at (h ∷ hs) (q - a)) (λ q. names_at hs (q - suc a)) ps
        (λ q q_in. let more = at_least (suc p) ps q rise.1 q_in in moved (names_at (h ∷ hs)) (q - a) (suc (q - suc a)) (omega arith)) in
        (λ i. name i ∷ (shift ∙ rest) i) ∙ sym (ap (λ b. map names_of (cond b (h ∷ filter test hs) (filter test hs))) t)
    | inr f ↦
        let later : suc a ≤ p = elim (cases_eq p a) [
          | inl same ↦
              let w = found p (inl refl) in
              let is : h ≡ w.0 = same_Some h w.0 (moved (slice_get (h ∷ hs)) 0 (p - a) (omega arith) ∙ w.1) in
              absurd (false≢true (sym f ∙ ap test is ∙ w.2))
          | inr apart ↦ omega (arith, rise.0)
        ] in
        let all_later : RiseFrom (suc a) (p ∷ ps) = (later, rise.1) in
        map_agree (λ q. names_at (h ∷ hs) (q - a)) (λ q. names_at hs (q - suc a)) (p ∷ ps)
        (λ q q_in. let more = at_least (suc a) (p ∷ ps) q all_later q_in in moved (names_at (h ∷ hs)) (q - a) (suc (q - suc a)) (omega arith))
        ∙ places_named hs (suc a) (p ∷ ps) all_later
        (λ q q_in. let w = found q q_in in
        let more = at_least (suc a) (p ∷ ps) q all_later q_in in
        (w.0, moved (slice_get (h ∷ hs)) (suc (q - suc a)) (q - a) (omega arith) ∙ w.1, w.2))
        (λ n x at tx. moved_in (p ∷ ps) (a + suc n) (suc a + n) (omega arith) (has (suc n) x at tx))
        ∙ sym (ap (λ b. map names_of (cond b (h ∷ filter test hs) (filter test hs))) f)
  ]

  pub names_are : (hs : List Held) (ps : List ℕ) → IsStrictlyIncreasing ps
      → ((p : ℕ) → IsIn p ps → (h : Held) × (slice_get hs p ≡ Some h) × (test h ≡ true))
      → ((n : ℕ) (h : Held) → slice_get hs n ≡ Some h → test h ≡ true → IsIn n ps)
      → map (names_at hs) ps ≡ map names_of (filter test hs)
  names_are hs ps rise found has =
      map_agree (names_at hs) (λ p. names_at hs (p - 0)) ps (λ p h. moved (names_at hs) p (p - 0) (omega arith))
      ∙ places_named hs 0 ps (rise_all ps rise) (λ p h. let f = found p h in (f.0, moved (slice_get hs) (p - 0) p (omega arith) ∙ f.1, f.2)) (λ n h at t. moved_in ps n (0 + n) (omega arith) (has n h at t))

less_not_equal : Less ≡ Equal → ⊥
less_not_equal e = cc

eqb_flips : (x y : ℕ) → eqb x y ≡ eqb y x
eqb_flips x y = elim (cases_eq x y) [
  | inl same ↦ eq-eqb x y same ∙ sym (eq-eqb y x (sym same))
  | inr apart ↦ ne_eqb x y apart ∙ sym (ne_eqb y x (λ e. apart (sym e)))
]

-- the test of what is due
abbrev due_held : ℕ → ℕ → Held → Bool
due_held after upto h = falls_within after upto (end_of h)

permuted_in : (xs ys : List ℕ) (p : ℕ) → IsPermutation xs ys → IsIn p xs → IsIn p ys
permuted_in xs ys p moves h =
    let f = any_found (λ q. eqb q p) ys (sym (list_any-IsPermutation (λ q. eqb q p) xs ys moves) ∙ any_in (λ q. eqb q p) xs p h (eq-eqb p p refl)) in
    subst (λ (q : ℕ). IsIn q ys) (eqb-true f.0 p f.2) f.1

from_permuted : (xs ys : List ℕ) (p : ℕ) → IsPermutation xs ys → IsIn p ys → IsIn p xs
from_permuted xs ys p moves h =
    let f = any_found (λ q. eqb q p) xs (list_any-IsPermutation (λ q. eqb q p) xs ys moves ∙ any_in (λ q. eqb q p) ys p h (eq-eqb p p refl)) in
    subst (λ (q : ℕ). IsIn q xs) (eqb-true f.0 p f.2) f.1

-- an end that a list rises from is none of its ends
below_in : (e x : End) (es : List End) → T (below_all end_cmp e (map end_entry es)) → IsIn x es → end_cmp e x ≡ Less
below_in e x [] h no_end = absurd no_end
below_in e x (y ∷ ys) h (inl same) = ap (end_cmp e) same ∙ is_less _ (both_true (is_lt (end_cmp e y)) (below_all end_cmp e (map end_entry ys)) h).0
below_in e x (y ∷ ys) h (inr more) = below_in e x ys (both_true (is_lt (end_cmp e y)) (below_all end_cmp e (map end_entry ys)) h).1 more

-- ends of which no two have one place
abbrev OneEach : List End → Type 0
OneEach es = (x y : End) → IsIn x es → IsIn y es → x.place ≡ y.place → x ≡ y

distinct_places : (test : End → Bool) (es : List End) → IsRising es → OneEach es → IsDistinct eqb (map (λ e. e.place) (filter test es))
unfolding IsDistinct
distinct_places test [] rising one = tt
distinct_places test (e ∷ es) rising one =
    let b = both_true (below_all end_cmp e (map end_entry es)) (is_sorted end_cmp (map end_entry es)) rising in
    let rest = distinct_places test es b.1 (λ x y x_in y_in. one x y (inr x_in) (inr y_in)) in
    elim (cases_Bool (test e)) [
      | inl t ↦ subst (λ c. IsDistinct eqb (map (λ e. e.place) (cond c (e ∷ filter test es) (filter test es)))) (sym t) (
        recursion_from_All (λ q. eqb e.place q ≡ false) (map (λ e. e.place) (filter test es)) (all_in (λ q. eqb e.place q ≡ false) (map (λ e. e.place) (filter test es)) (λ q q_in.
            let f = map_found (λ e. e.place) (filter test es) q q_in in
            let x_in = (filter_found test es f.0 f.1).0 in
            ne_eqb e.place q (λ same.
            let is : e ≡ f.0 = one e f.0 (inl refl) (inr x_in) (same ∙ f.2) in
            less_not_equal (sym (below_in e f.0 es b.0 x_in) ∙ sym (ap (end_cmp e) is) ∙ tied_itself end_cmp_total e)))),
        rest,
      )
      | inr f ↦ subst (λ c. IsDistinct eqb (map (λ e. e.place) (cond c (e ∷ filter test es) (filter test es)))) (sym f) rest
    ]

-- the places that a search of the index gave
pub record AreDuePlaces (after upto : ℕ) (ends : FinMap end_cmp (Unit {0})) (ps : List ℕ) : Type 0 where
  pub rising : IsNonDecreasing ps
  pub within : IsPermutation (map (λ e. e.place) (filter (ends_within after upto) (keys ends))) ps

one_each : (hs : List Held) (ends : FinMap end_cmp (Unit {0})) → IsIndexOf hs ends → OneEach (keys ends)
one_each hs ends index = λ x y x_in y_in same.
    let time : x.time ≡ y.time = same_Some x.time y.time (sym (told hs ends x index (from_keys ends x x_in)) ∙ ap (end_at hs) same ∙ told hs ends y index (from_keys ends y y_in)) in
    λ i. record { time = time i; place = same i }

places_rise : (after upto : ℕ) (hs : List Held) (ends : FinMap end_cmp (Unit {0})) (ps : List ℕ) → IsRising (keys ends) → IsIndexOf hs ends → AreDuePlaces after upto ends ps → IsStrictlyIncreasing ps
places_rise after upto hs ends ps rising index due =
    IsStrictlyIncreasing-from_distinct ps due.rising
    (IsDistinct-IsPermutation eqb eqb_flips (map (λ e. e.place) (filter (ends_within after upto) (keys ends))) ps due.within (distinct_places (ends_within after upto) (keys ends) rising (one_each hs ends index)))

-- what a place among the rows has
row_there : (hs : List Held) (p t : ℕ) → end_at hs p ≡ Some t → (h : Held) × (slice_get hs p ≡ Some h) × (end_of h ≡ Some t)
row_there hs p t is = go (slice_get hs p) refl is
  where
    go : (o : Option Held) → slice_get hs p ≡ o → option_and_then end_of o ≡ Some t → (h : Held) × (slice_get hs p ≡ Some h) × (end_of h ≡ Some t)
    go None e at = absurd (none-some t at)
    go (Some h) e at = (h, e, at)

end_there : (after upto : ℕ) (h : Held) → due_held after upto h ≡ true → (t : ℕ) × (end_of h ≡ Some t) × ((nat_lt after t && nat_le t upto) ≡ true)
end_there after upto h is = go (end_of h) refl is
  where
    go : (o : Option ℕ) → end_of h ≡ o → falls_within after upto o ≡ true → (t : ℕ) × (end_of h ≡ Some t) × ((nat_lt after t && nat_le t upto) ≡ true)
    go None e at = absurd (false≢true at)
    go (Some t) e at = (t, e, at)

-- the names at these places are those of the rows that are due
pub due_names : (after upto : ℕ) (hs : List Held) (ends : FinMap end_cmp (Unit {0})) (ps : List ℕ) → IsRising (keys ends) → IsIndexOf hs ends → AreDuePlaces after upto ends ps
    → map (names_at hs) ps ≡ map names_of (filter (due_held after upto) hs)
due_names after upto hs ends ps rising index due =
    names_are (due_held after upto) hs ps (places_rise after upto hs ends ps rising index due)
    (λ p p_in.
    let f = map_found (λ e. e.place) (filter (ends_within after upto) (keys ends)) p (from_permuted _ ps p due.within p_in) in
    let g = filter_found (ends_within after upto) (keys ends) f.0 f.1 in
    let at : end_at hs p ≡ Some f.0.time = ap (end_at hs) f.2 ∙ told hs ends f.0 index (from_keys ends f.0 g.0) in
    let r = row_there hs p f.0.time at in
    (r.0, r.1, ap (falls_within after upto) r.2 ∙ g.1))
    (λ n h at is.
    let t = end_there after upto h is in
    let e : End = record { time = t.0; place = n } in
    let e_in = in_keys ends e (tells hs ends e index (ap (option_and_then end_of) at ∙ t.1)) in
    permuted_in _ ps n due.within (map_in (λ e. e.place) (filter (ends_within after upto) (keys ends)) e (filter_in (ends_within after upto) (keys ends) e e_in t.2)))

units : (es : List (End × Unit {0})) → map end_entry (map (λ e. e.0) es) ≡ es
units [] = refl
units (e ∷ es) = ap (λ r. e ∷ r) (units es)

-- the ends of a set rise
pub keys_rise : (ends : FinMap end_cmp (Unit {0})) → IsRising (keys ends)
keys_rise ends = subst (λ es. T (is_sorted end_cmp es)) (sym (units (entries ends))) (entries_sorted ends)

-- each place is a row's
pub places_within : (after upto : ℕ) (hs : List Held) (ends : FinMap end_cmp (Unit {0})) (ps : List ℕ) → IsIndexOf hs ends → AreDuePlaces after upto ends ps → All (λ p. p < length hs) ps
places_within after upto hs ends ps index due =
    All-permutation (λ p. p < length hs) (map (λ e. e.place) (filter (ends_within after upto) (keys ends))) ps due.within
    (All-map (λ p. p < length hs) (λ e. e.place) (filter (ends_within after upto) (keys ends)) (All-filter (ends_within after upto) (λ e. e.place < length hs) (keys ends) (places_within_rows hs ends (length hs) index (omega arith))))

found_at : (hs : List Held) (h : Held) → IsIn h hs → (i : ℕ) × (i < length hs) × ((d : Held) → get_or hs i d ≡ h)
found_at [] h no_row = absurd no_row
found_at (x ∷ xs) h (inl same) = (0, omega arith, λ d. sym same)
found_at (x ∷ xs) h (inr more) = let f = found_at xs h more in (suc f.0, omega (arith, f.1), f.2)

filter_mapped : {X Y : Type 0} (p : Y → Bool) (q : X → Bool) (f : X → Y) (xs : List X) → ((x : X) → IsIn x xs → p (f x) ≡ q x) → filter p (map f xs) ≡ map f (filter q xs)
filter_mapped p q f [] same = refl
filter_mapped p q f (x ∷ xs) same =
    let rest = filter_mapped p q f xs (λ y h. same y (inr h)) in
    elim (cases_Bool (q x)) [
      | inl t ↦ ap (λ b. cond b (f x ∷ filter p (map f xs)) (filter p (map f xs))) (same x (inl refl) ∙ t) ∙ ap (λ l. f x ∷ l) rest ∙ sym (ap (λ b. map f (cond b (x ∷ filter q xs) (filter q xs))) t)
      | inr u ↦ ap (λ b. cond b (f x ∷ filter p (map f xs)) (filter p (map f xs))) (same x (inl refl) ∙ u) ∙ rest ∙ sym (ap (λ b. map f (cond b (x ∷ filter q xs) (filter q xs))) u)
    ]

map_twice : (hs : List Held) → map (λ (entry : RowKey × Row). (entry.0.op, entry.0.key)) (map row_entry hs) ≡ map names_of hs
map_twice [] = refl
map_twice (h ∷ hs) = ap (λ l. names_of h ∷ l) (map_twice hs)

-- the names and keys that are due, by the list that is held
pub due_keys-held : (after upto : ℕ) (hs : List Held) (k : Kept) → rows_of hs ≡ k.rows → expiries_of hs ≡ k.expiries → IsOrdered hs → due_keys k after upto ≡ map names_of (filter (due_held after upto) hs)
due_keys-held after upto hs k rows expiries ordered =
    ap (λ es. map (λ (entry : RowKey × Row). (entry.0.op, entry.0.key)) (filter (is_due k after upto) es)) (entries_rows hs k.rows rows ordered)
    ∙ ap (map (λ (entry : RowKey × Row). (entry.0.op, entry.0.key))) (filter_mapped (is_due k after upto) (due_held after upto) row_entry hs (λ h h_in.
    let f = found_at hs h h_in in
    let at : IsPlaceOf held_key (held_key h) hs f.0 = record { within = f.1; is = λ d. ap held_key (f.2 d) } in
    ap (λ o. falls_within after upto (option_and_then (end_under h.row) o)) (expiry_at hs k.expiries (held_key h) f.0 h expiries ordered at ∙ ap (λ (x : Held). Some x.expiry) (f.2 h))))
    ∙ map_twice (filter (due_held after upto) hs)

-- what the loop over all places gives
pub due_all : (after upto : ℕ) (hs : List Held) (ends : FinMap end_cmp (Unit {0})) (k : Kept) (ps : List ℕ) (names : List (List ℕ × List ℕ)) → rows_of hs ≡ k.rows → expiries_of hs ≡ k.expiries → IsOrdered hs → IsIndexOf hs ends → AreDuePlaces after upto ends ps
    → names ≡ map (names_at hs) ps → names ≡ due_keys k after upto
due_all after upto hs ends k ps names rows expiries ordered index due is =
    is ∙ due_names after upto hs ends ps (keys_rise ends) index due ∙ sym (due_keys-held after upto hs k rows expiries ordered)

-- one more
pub names_more : (hs : List Held) (ps : List ℕ) (i p : ℕ) (h : Held) (names : List (List ℕ × List ℕ)) → i < length ps → p ≡ get_or ps i 0 → p < length hs → h ≡ get_or hs p h
    → names ≡ map (names_at hs) (take i ps) → names ++ names_of h ∷ [] ≡ map (names_at hs) (take (i + 1) ps)
names_more hs ps i p h names within p_is inside h_is is =
    let at : names_at hs p ≡ names_of h = ap (λ o. option_map_or names_of o ([], [])) (slice_get-get_or hs p h inside ∙ ap Some (sym h_is)) in
    ap (λ l. l ++ names_of h ∷ []) is ∙ ap (λ x. map (names_at hs) (take i ps) ++ x ∷ []) (sym at ∙ ap (names_at hs) p_is) ∙ sym (map_more (names_at hs) ps i 0 within)
