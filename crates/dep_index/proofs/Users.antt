-- The instances of a source, and the pairs of an instance, from where a search says that they start.
use Rattle.std.proofs.Common.{◌≡◌, ℕ, zero, suc, ◌+◌, ◌<◌, ◌≤◌, Bool, true, false, cond, ◌&&◌, ◌||◌, ◌==◌, List, [], ◌∷◌, ◌-◌, drop, not, take, length, Result, Ok, Err, get_or, refl, sym, ap, subst, ◌∙◌, inl, inr, arith}
use Rattle.std.proofs.lemmas.Bool.{cases_eq, cases_lt, false≢true}
use Rattle.std.proofs.lemmas.Bool.Decides.{nat_tests}
use Rattle.std.proofs.lemmas.Cmp.{eq_by_cmp_equiv}
use Rattle.std.proofs.lemmas.List.{length-drop, take_all}
use Rattle.std.specs.Result.{IfOk}
use Rattle.std.proofs.lemmas.Map.Keys.{IsStrictlyIncreasing-from_sorted}
use Rattle.std.proofs.lemmas.Map.Lookups.{exact_unsigned}
use Rattle.std.proofs.lemmas.Map.Views.{Contains-from_any, list_any-from_Contains, tells_apart}
use Rattle.std.specs.Cmp.{nat_cmp_total, tied_itself}
use Rattle.std.specs.FinMap.{nat_cmp-IsAntisymmetric}
use Rattle.std.specs.FinSet.{contains, contains-from_list, contains-remove, contains-retain, remove, same_set}
use Rattle.std.specs.List.{AllByRecursion, list_any}
use Rattle.std.specs.List.Sorted.{IsStrictlyIncreasing, IsStrictlySortedBy}
use Rattle.std.specs.Ordering.{eq_by_cmp, nat_cmp, ordering_then}
use Rattle.std.specs.declared.cmp.Ordering.TheVariants.{Equal, Greater, Less}
use Rattle.value_core.proofs.Sames.{same_refl, same_true}
use Rattle.value_core.specs.Same.{same}
use Rattle.dep_index.specs.inside.Layout.{HasNoneOf, IsIndex, IsStartOf, Rises, leading_users, link_at, links_of, listed, shown, user_cmp, without_user}
use Rattle.dep_index.specs.Pairs.{AreUsers, Link, Links, link_cmp, link_cmp_total, used_cmp, used_cmp_total, used_code}
use Rattle.dep_index.specs.declared.pair.By.TheVariants as by_first
use Rattle.dep_index.specs.declared.pair.Pair.{Pair}
use Rattle.dep_index.specs.declared.used.Used.{Used}
use Rattle.dep_index.specs.declared.used.Used.TheVariants as used
use Rattle.dep_index.proofs.LinkOrder.{less_equal, less_greater, link_apart, parts_tell, same_number, tied, used_apart}
use Rattle.dep_index.proofs.LinkSets.{at_listed, eq, index_of}
use Rattle.dep_index.proofs.Rising.{map-length, rising_drop}
use Rattle.dep_index.proofs.Searched.{link_at_is, rise}

-- no number is below zero
zero_least : (n : ℕ) → nat_cmp n 0 ≡ Less → ⊥
zero_least zero e = less_equal (sym e ∙ tied_itself nat_cmp_total 0)
zero_least (suc n) e = let z : ⊥ = grind (arith, nat_tests) in z

-- ---- users of a source

-- pairs of one source are in order of the instances
same_source : (l m : Link) → l.source ≡ m.source → link_cmp l m ≡ nat_cmp l.to m.to
same_source l m e = ap (λ (u : Used). ordering_then (used_cmp l.source u) (nat_cmp l.to m.to)) (sym e) ∙ ap (λ r. ordering_then r (nat_cmp l.to m.to)) (tied_itself used_cmp_total l.source)

module _ (source : Used) where
  abbrev of : ℕ → Link
  of n = record { source = source; to = n }

  abbrev is : Link → Bool
  is l = same used_code l.source source

  leading_above : (l : Link) (ls : List Link) → l.source ≡ source → AllByRecursion (λ m. link_cmp l m ≡ Less) ls → AllByRecursion (λ n. nat_cmp l.to n ≡ Less) (leading_users source ls)
  leading_above l [] e h = tt
  leading_above l (m ∷ ls) e h = elim (is m) as (λ b. is m ≡ b → AllByRecursion (λ n. nat_cmp l.to n ≡ Less) (cond b (m.to ∷ leading_users source ls) [])) [
    | true ↦ λ k. (sym (same_source l m (e ∙ sym (same_true used_code m.source source k))) ∙ h.0, leading_above l ls e h.1)
    | false ↦ λ k. tt
  ] refl

  leading_sorted : (ls : List Link) → Rises by_first.Source ls → IsStrictlySortedBy nat_cmp (leading_users source ls)
  unfolding IsStrictlySortedBy
  leading_sorted [] h = tt
  leading_sorted (l ∷ ls) h = elim (is l) as (λ b. is l ≡ b → IsStrictlySortedBy nat_cmp (cond b (l.to ∷ leading_users source ls) [])) [
    | true ↦ λ k. (leading_above l ls (same_true used_code l.source source k) h.0, leading_sorted ls h.1)
    | false ↦ λ k. tt
  ] refl

  eq_is : (m n : ℕ) → eq_by_cmp nat_cmp n m ≡ (m == n)
  eq_is m n = grind (arith, nat_tests)

  -- a pair that isn't of the source and isn't before its pairs is after them
  after_source : (l : Link) → (link_cmp l (of 0) ≡ Less → ⊥) → is l ≡ false → used_cmp l.source source ≡ Greater
  after_source l late other = elim (used_cmp l.source source) as (λ r. used_cmp l.source source ≡ r → r ≡ Greater) [
    | Less ↦ λ e. absurd (late (ap (λ r. ordering_then r (nat_cmp l.to 0)) e))
    | Equal ↦ λ e. absurd (false≢true (sym other ∙ ap (λ (u : Used). same used_code u source) (used_apart l.source source e) ∙ same_refl used_code source))
    | Greater ↦ λ e. refl
  ] refl

  none_after : (l : Link) (n : ℕ) (ls : List Link) → used_cmp l.source source ≡ Greater → AllByRecursion (λ m. link_cmp l m ≡ Less) ls → list_any (eq (of n)) ls ≡ false
  none_after l n [] g h = refl
  none_after l n (m ∷ ls) g h = elim (eq (of n) m) as (λ b. eq (of n) m ≡ b → (b || list_any (eq (of n)) ls) ≡ false) [
    | true ↦ λ e. absurd (less_greater (sym h.0 ∙ ap (λ (k : Link). link_cmp l k) (sym (tied (of n) m e)) ∙ ap (λ r. ordering_then r (nat_cmp l.to n)) g))
    | false ↦ λ e. none_after l n ls g h.1
  ] refl

  leading_tell : (n : ℕ) (ls : List Link) → Rises by_first.Source ls → AllByRecursion (λ l. link_cmp l (of 0) ≡ Less → ⊥) ls → list_any (eq_by_cmp nat_cmp n) (leading_users source ls) ≡ list_any (eq (of n)) ls
  leading_tell n [] h late = refl
  leading_tell n (l ∷ ls) h late = elim (is l) as (λ b. is l ≡ b → list_any (eq_by_cmp nat_cmp n) (cond b (l.to ∷ leading_users source ls) []) ≡ (eq (of n) l || list_any (eq (of n)) ls)) [
    | true ↦ λ k. (λ i. eq_is l.to n i || leading_tell n ls h.1 late.1 i) ∙ ap (λ b. b || list_any (eq (of n)) ls) (sym (parts_tell source n l ∙ ap (λ b. b && l.to == n) k))
    | false ↦ λ k. sym ((λ i. (parts_tell source n l ∙ ap (λ b. b && l.to == n) k) i || none_after l n ls (after_source l late.0 k) h.0 i))
  ] refl

  -- what is before the start isn't of the source
  drop_tell : (n at : ℕ) (ls : List Link) → at ≤ length ls → ((i : ℕ) → i < at → link_cmp (get_or ls i (of 0)) (of 0) ≡ Less) → list_any (eq (of n)) (drop at ls) ≡ list_any (eq (of n)) ls
  drop_tell n zero ls within before = refl
  drop_tell n (suc at) [] within before = refl
  drop_tell n (suc at) (l ∷ ls) within before = elim (eq (of n) l) as (λ b. eq (of n) l ≡ b → list_any (eq (of n)) (drop at ls) ≡ (b || list_any (eq (of n)) ls)) [
    | true ↦ λ e. absurd (zero_least n (sym (same_source (of n) (of 0) refl) ∙ subst (λ (m : Link). link_cmp m (of 0) ≡ Less) (sym (tied (of n) l e)) (before 0 (omega arith))))
    | false ↦ λ e. drop_tell n at ls (omega arith) (λ i w. before (suc i) (omega arith))
  ] refl

  late_drop : (at : ℕ) (ls : List Link) → ((i : ℕ) → at ≤ i → i < length ls → link_cmp (get_or ls i (of 0)) (of 0) ≡ Less → ⊥) → AllByRecursion (λ l. link_cmp l (of 0) ≡ Less → ⊥) (drop at ls)
  late_drop zero [] f = tt
  late_drop (suc at) [] f = tt
  late_drop zero (l ∷ ls) f = (f 0 (omega arith) (omega arith), late_drop zero ls (λ i w v. f (suc i) (omega arith) (omega arith)))
  late_drop (suc at) (l ∷ ls) f = late_drop at ls (λ i w v. f (suc i) (omega arith) (omega arith))

  listed-drop : (slots : List Pair) (at : ℕ) (ns : List ℕ) → listed slots (drop at ns) ≡ drop at (listed slots ns)
  listed-drop slots zero ns = refl
  listed-drop slots (suc at) [] = refl
  listed-drop slots (suc at) (n ∷ ns) = listed-drop slots at ns

  module _ (slots : List Pair) (ns : List ℕ) (at : ℕ) (index : IsIndex by_first.Source slots ns) (start : IsStartOf by_first.Source (of 0) slots ns at) where
    abbrev found : List ℕ
    found = leading_users source (listed slots (drop at ns))

    rest_rises : Rises by_first.Source (listed slots (drop at ns))
    rest_rises = subst (Rises by_first.Source) (sym (listed-drop slots at ns)) (rising_drop by_first.Source (listed slots ns) at index.rising)

    pub users_rise : IsStrictlyIncreasing found
    users_rise = IsStrictlyIncreasing-from_sorted found (leading_sorted (listed slots (drop at ns)) rest_rises)

    tell : (n : ℕ) → contains (links_of slots ns) (of n) ≡ list_any (eq_by_cmp nat_cmp n) found
    tell n =
        let len = map-length (link_at slots) ns in
        let within = start.within in
        let rest = listed-drop slots at ns in
        contains-from_list link_cmp_total (listed slots ns) (of n)
        ∙ sym (drop_tell n at (listed slots ns) (omega arith) (λ i w. subst (λ (m : Link). link_cmp m (of 0) ≡ Less) (sym (at_listed slots ns i 0 (of 0) (omega arith))) (start.before i 0 w)))
        ∙ ap (list_any (eq (of n))) (sym rest)
        ∙ sym (leading_tell n (listed slots (drop at ns)) rest_rises
        (subst (AllByRecursion (λ l. link_cmp l (of 0) ≡ Less → ⊥)) (sym rest) (late_drop at (listed slots ns) (λ i w v e.
        start.behind i 0 w (omega arith) (subst (λ (m : Link). link_cmp m (of 0) ≡ Less) (at_listed slots ns i 0 (of 0) (omega arith)) e)))))

    pub users_are : AreUsers (links_of slots ns) source found
    users_are = λ n. (
      λ h. tell n ∙ list_any-from_Contains (eq_by_cmp_equiv nat_cmp_total) n found h,
      λ h. Contains-from_any (tells_apart exact_unsigned) n found (sym (tell n) ∙ h),
    )

-- ---- pairs of an instance

-- no source is before the first input
first_source : (u : Used) → used_cmp u (used.Input 0) ≡ Less → ⊥
first_source (used.Input zero) e = less_equal (sym e ∙ tied_itself used_cmp_total (used.Input 0))
first_source (used.Input (suc n)) e = let z : ⊥ = grind (arith, nat_tests) in z
first_source (used.Node n) e = let z : ⊥ = cc in z
first_source (used.Key t) e = let z : ⊥ = cc in z

module _ (to : ℕ) where
  abbrev low : Link
  low = record { source = used.Input 0; to = to }

  low_first : (l : Link) → l.to ≡ to → user_cmp l low ≡ Less → ⊥
  low_first l e h = first_source l.source (sym (ap (λ n. ordering_then (nat_cmp n to) (used_cmp l.source (used.Input 0))) e ∙ ap (λ r. ordering_then r (used_cmp l.source (used.Input 0))) (tied_itself nat_cmp_total to)) ∙ h)

  -- a pair that isn't before the instance's pairs, and isn't one of them, is after them
  past : (a l : Link) → (user_cmp a low ≡ Less → ⊥) → (a.to ≡ to → ⊥) → l.to ≡ to → user_cmp a l ≡ Less → ⊥
  past a l late other e h = elim (nat_cmp a.to to) as (λ r. nat_cmp a.to to ≡ r → ⊥) [
    | Less ↦ λ k. late (ap (λ r. ordering_then r (used_cmp a.source (used.Input 0))) k)
    | Equal ↦ λ k. other (nat_cmp-IsAntisymmetric a.to to k)
    | Greater ↦ λ k. less_greater (sym h ∙ ap (λ n. ordering_then (nat_cmp a.to n) (used_cmp a.source l.source)) e ∙ ap (λ r. ordering_then r (used_cmp a.source l.source)) k)
  ] refl

  none_here : (slots : List Pair) (ns : List ℕ) (at : ℕ) → IsIndex by_first.User slots ns → IsStartOf by_first.User low slots ns at
      → (at < length ns → (link_at slots (get_or ns at 0)).to ≡ to → ⊥) → (l : Link) → contains (links_of slots ns) l ≡ true → l.to ≡ to → ⊥
  none_here slots ns at index start other l has e =
      let g = index_of slots ns l has in
      let j = g.0 in
      elim (cases_lt j at) [
        | inl less ↦ low_first l e (subst (λ (m : Link). user_cmp m low ≡ Less) g.2 (start.before j 0 less))
        | inr more ↦
            let w = g.1 in
            let inside : at < length ns = omega arith in
            elim (cases_eq j at) [
              | inl here ↦ other inside (ap (λ k. (link_at slots (get_or ns k 0)).to) (sym here) ∙ ap (λ (m : Link). m.to) g.2 ∙ e)
              | inr apart ↦
                  let up : at < j = elim (cases_lt at j) [ inl l ↦ l | inr m ↦ absurd (apart (omega arith)) ] in
                  past (link_at slots (get_or ns at 0)) l (start.behind at 0 (omega arith) inside) (other inside) e
                  (subst (λ (m : Link). user_cmp (link_at slots (get_or ns at 0)) m ≡ Less) g.2 (rise by_first.User slots ns index at j 0 up w))
            ]
      ]

  pub none_of_user : (slots : List Pair) (ns : List ℕ) (at : ℕ) → IsIndex by_first.User slots ns → IsStartOf by_first.User low slots ns at
      → (at < length ns → (link_at slots (get_or ns at 0)).to ≡ to → ⊥) → HasNoneOf to (links_of slots ns)
  none_of_user slots ns at index start other l has = elim (l.to == to) as (λ b. (l.to == to) ≡ b → b ≡ false) [
    | true ↦ λ e. absurd (none_here slots ns at index start other l has (let e' = e in grind (arith, nat_tests)))
    | false ↦ λ e. refl
  ] refl

-- ---- the walk over the first pairs

pub lead_step : (source : Used) (slots : List Pair) (ns : List ℕ) (i d : ℕ) (p : Pair) → i < length ns → get_or ns i d < length slots → p ≡ get_or slots (get_or ns i d) p
    → leading_users source (listed slots (drop i ns)) ≡ cond (same used_code p.source source) (p.to ∷ leading_users source (listed slots (drop (i + 1) ns))) []
lead_step source slots [] i d p w v e = absurd (omega arith)
lead_step source slots (n ∷ ns) zero d p w v e =
    ap (λ (l : Link). cond (same used_code l.source source) (l.to ∷ leading_users source (listed slots ns)) []) (link_at_is slots n p v ∙ ap shown (sym e))
lead_step source slots (n ∷ ns) (suc i) d p w v e =
    lead_step source slots ns i d p (omega arith) v e ∙ ap (λ k. cond (same used_code p.source source) (p.to ∷ leading_users source (listed slots (drop k (n ∷ ns)))) []) (let more : suc (i + 1) ≡ suc i + 1 = omega arith in more)

pub rest_is : (at : ℕ) (ns : List ℕ) → take (length ns - at) (drop at ns) ≡ drop at ns
rest_is at ns = take_all (length ns - at) (drop at ns) (let e = length-drop at ns in omega arith)

pub ok_then : {X E : Type 0} (P Q : X → Type 0) (r : Result X E) → ((x : X) → P x → Q x) → IfOk r P → IfOk r Q
ok_then P Q (Ok x) f h = f x h
ok_then P Q (Err e) f h = tt

-- ---- the pairs of the other instances

kept_out : (e c b : Bool) → (e ≡ true → b ≡ false) → ((not e && c) && b) ≡ (c && b)
kept_out true true b h = sym (h refl)
kept_out true false b h = refl
kept_out false c b h = refl

all_stay : (c b : Bool) → (c ≡ true → b ≡ true) → c ≡ (c && b)
all_stay true b h = sym (h refl)
all_stay false b h = refl

retained : (s : Links) (to : ℕ) (q : Link) → contains (without_user s to) q ≡ (contains s q && not (q.to == to))
retained s to q = contains-retain s (λ l. not (l.to == to)) q (λ l e. ap (λ (l : Link). not (l.to == to)) (sym (link_apart q l e)))

pub without_remove : (s : Links) (l : Link) (to : ℕ) → l.to ≡ to → without_user (remove s l) to ≡ without_user s to
without_remove s l to e = same_set link_cmp_total link_apart _ _ (λ q.
    retained (remove s l) to q ∙ ap (λ b. b && not (q.to == to)) (contains-remove link_cmp_total s l q)
    ∙ kept_out (eq q l) (contains s q) (not (q.to == to)) (λ t. ap (λ (l : Link). not (l.to == to)) (tied q l t) ∙ ap (λ n. not (n == to)) e ∙ ap not (same_number to))
    ∙ sym (retained s to q))

pub without_none : (s : Links) (to : ℕ) → HasNoneOf to s → s ≡ without_user s to
without_none s to h = same_set link_cmp_total link_apart _ _ (λ q. all_stay (contains s q) (not (q.to == to)) (λ c. ap not (h q c)) ∙ sym (retained s to q))
