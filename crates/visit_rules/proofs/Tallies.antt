-- The tally of triples, grown by one triple after the other.
use Rattle.std.proofs.Common.{◌≡◌, ◌∙◌, ℕ, suc, ◌+◌, ◌≤◌, Bor, arith, length, Bool, true, false, cond, if◌then◌else◌, ◌&&◌, List, [], ◌∷◌, map, Some, refl, ap, sym, subst, T}
use Rattle.std.proofs.lemmas.Bool.{true≢false}
use Rattle.std.specs.BTreeMap.{insert_entry, is_at}
use Rattle.std.specs.Cmp.{tied_itself}
use Rattle.std.specs.FinMap.Entries.{below_all, by_order, find, find-put, is_sorted, is_sorted-put, put}
use Rattle.std.specs.Map.{lookup}
use Rattle.std.specs.Option.{unwrap_or}
use Rattle.std.specs.Ordering.{is_eq, is_lt, match_ordering}
use Rattle.std.specs.declared.cmp.Ordering.{Ordering}
use Rattle.std.specs.declared.cmp.Ordering.TheVariants.{Less, Equal, Greater}
use Rattle.value_core.proofs.Basics.{same_triples, triple_same, triples_tie}
use Rattle.value_core.specs.Orders.{same_triple, triple_cmp, triple_cmp_total}
use Rattle.value_core.specs.declared.state.Triple.{Triple}
use Rattle.term_core.specs.Counts.{count_of, in_order, with_triple}
use Rattle.visit_rules.specs.Visits.{tally}

-- a triple with how often it is in a list
abbrev counted_in : List Triple → Triple → Triple × ℕ
counted_in ws t = (t, count_of ws t)

is_first : (a b : Bool) → T (a && b) → T a
is_first true b p = tt
is_first false b p = p

is_second : (a b : Bool) → T (a && b) → T b
is_second true b p = p
is_second false b p = absurd p

apart : (t x : Triple) (r : Ordering) → triple_cmp t x ≡ r → is_eq r ≡ false → same_triple t x ≡ false
apart t x r e n = elim (same_triple t x) as (λ b. same_triple t x ≡ b → b ≡ false) [
  | true ↦ λ s. absurd (true≢false (sym (ap is_eq (sym e ∙ (ap (triple_cmp t) (sym (triple_same t x s)) ∙ tied_itself triple_cmp_total t))) ∙ n))
  | false ↦ λ s. refl
] refl

counted_once_more : (t : Triple) (us : List Triple) → count_of (t ∷ us) t ≡ 1 + count_of us t
counted_once_more t us = ap (λ b. (if b then 1 else 0) + count_of us t) (same_triples t t refl)

counted_as_before : (t x : Triple) (us : List Triple) → same_triple t x ≡ false → count_of (t ∷ us) x ≡ count_of us x
counted_as_before t x us e = ap (λ b. (if b then 1 else 0) + count_of us x) e ∙ omega arith

-- those behind a triple are counted as before
behind : (t : Triple) (us xs : List Triple) → T (below_all triple_cmp t (map (counted_in us) xs)) → map (counted_in (t ∷ us)) xs ≡ map (counted_in us) xs
behind t us [] h = refl
behind t us (x ∷ xs) h =
    let one = is_first (is_lt (triple_cmp t x)) (below_all triple_cmp t (map (counted_in us) xs)) h in
    let less : (r : Ordering) → T (is_lt r) → is_eq r ≡ false = λ r. elim r as (λ r. T (is_lt r) → is_eq r ≡ false) [ Less ↦ λ p. refl | Equal ↦ λ p. absurd p | Greater ↦ λ p. absurd p ] in
    let same = counted_as_before t x us (apart t x (triple_cmp t x) refl (less (triple_cmp t x) one)) in
    λ i. (x, same i) ∷ behind t us xs (is_second (is_lt (triple_cmp t x)) (below_all triple_cmp t (map (counted_in us) xs)) h) i

grown : (t : Triple) (us xs : List Triple) → T (is_sorted triple_cmp (map (counted_in us) xs)) → map (counted_in (t ∷ us)) (with_triple t xs) ≡ put triple_cmp t (1 + count_of us t) (map (counted_in us) xs)
grown t us [] h = ap (λ n. (t, n) ∷ []) (counted_once_more t us)
grown t us (x ∷ xs) h =
    let es : List (Triple × ℕ) = map (counted_in us) xs in
    elim (triple_cmp t x) as (λ r. triple_cmp t x ≡ r → T (is_sorted triple_cmp (by_order r ((t, 1 + count_of us t) ∷ counted_in us x ∷ es) ((x, 1 + count_of us t) ∷ es) (counted_in us x ∷ put triple_cmp t (1 + count_of us t) es)))
    → map (counted_in (t ∷ us)) (by_order r (t ∷ x ∷ xs) (x ∷ xs) (x ∷ with_triple t xs)) ≡ by_order r ((t, 1 + count_of us t) ∷ counted_in us x ∷ es) ((x, 1 + count_of us t) ∷ es) (counted_in us x ∷ put triple_cmp t (1 + count_of us t) es)) [
      | Less ↦ λ e s. λ i. (t, counted_once_more t us i) ∷ behind t us (x ∷ xs) (is_first (below_all triple_cmp t (counted_in us x ∷ es)) (is_sorted triple_cmp (counted_in us x ∷ es)) s) i
      | Equal ↦ λ e s. let same = triples_tie t x e in
          λ i. (x, (ap (λ y. count_of (t ∷ us) y) (sym same) ∙ counted_once_more t us) i) ∷ behind t us xs (subst (λ y. T (below_all triple_cmp y es)) (sym same) (is_first (below_all triple_cmp x es) (is_sorted triple_cmp es) s)) i
      | Greater ↦ λ e s. λ i. (x, counted_as_before t x us (apart t x Greater e refl) i) ∷ grown t us xs (is_second (below_all triple_cmp x es) (is_sorted triple_cmp es) h) i
    ] refl (is_sorted-put triple_cmp triple_cmp_total t (1 + count_of us t) (map (counted_in us) (x ∷ xs)) h)

-- a tally is in order
sorted : (us : List Triple) → T (is_sorted triple_cmp (tally us))
sorted [] = tt
sorted (t ∷ us) = subst (λ es. T (is_sorted triple_cmp es)) (sym (grown t us (in_order us) (sorted us))) (is_sorted-put triple_cmp triple_cmp_total t (1 + count_of us t) (tally us) (sorted us))

tally_put : (t : Triple) (us : List Triple) → tally (t ∷ us) ≡ put triple_cmp t (1 + count_of us t) (tally us)
tally_put t us = grown t us (in_order us) (sorted us)

found : (us : List Triple) (t : Triple) → unwrap_or (find triple_cmp t (tally us)) 0 ≡ count_of us t
found [] t = refl
found (u ∷ us) t =
    ap (λ es. unwrap_or (find triple_cmp t es) 0) (tally_put u us) ∙ (ap (λ o. unwrap_or o 0) (find-put triple_cmp triple_cmp_total t u (1 + count_of us u) (tally us))
    ∙ elim (triple_cmp t u) as (λ r. triple_cmp t u ≡ r → unwrap_or (cond (is_eq r) (Some (1 + count_of us u)) (find triple_cmp t (tally us))) 0 ≡ count_of (u ∷ us) t) [
      | Less ↦ λ e. found us t ∙ sym (counted_as_before u t us (other u t (apart t u Less e refl)))
      | Equal ↦ λ e. sym (counted_once_more u us) ∙ ap (λ y. count_of (u ∷ us) y) (sym (triples_tie t u e))
      | Greater ↦ λ e. found us t ∙ sym (counted_as_before u t us (other u t (apart t u Greater e refl)))
    ] refl)
  where
    other : (a b : Triple) → same_triple b a ≡ false → same_triple a b ≡ false
    other a b n = elim (same_triple a b) as (λ c. same_triple a b ≡ c → c ≡ false) [ true ↦ λ s. sym (same_triples b a (sym (triple_same a b s))) ∙ n | false ↦ λ s. refl ] refl

-- what an entry of lent triples shows
abbrev pub shown : Bor Triple × ℕ → Triple × ℕ
shown e = (e.0.now, e.1)

lent_found : (t : Triple) (es : List (Bor Triple × ℕ)) → lookup (is_at (λ b. triple_cmp t b.now)) es ≡ find triple_cmp t (map shown es)
lent_found t [] = refl
lent_found t (e ∷ es) = ap (λ o. cond (is_eq (triple_cmp t e.0.now)) (Some e.1) o) (lent_found t es)

-- by what lent triples point to
abbrev lent_cmp : Bor Triple → Bor Triple → Ordering
lent_cmp a b = triple_cmp a.now b.now

lent_put : (t : Bor Triple) (n : ℕ) (es : List (Bor Triple × ℕ)) → map shown (insert_entry lent_cmp es t n) ≡ put triple_cmp t.now n (map shown es)
lent_put t n [] = refl
lent_put t n (e ∷ es) = elim (triple_cmp t.now e.0.now) as (λ r. map shown (match_ordering r ((t, n) ∷ e ∷ es) ((e.0, n) ∷ es) (e ∷ insert_entry lent_cmp es t n)) ≡ by_order r ((t.now, n) ∷ map shown (e ∷ es)) ((e.0.now, n) ∷ map shown es) (shown e ∷ put triple_cmp t.now n (map shown es))) [
  | Less ↦ refl
  | Equal ↦ refl
  | Greater ↦ ap (λ xs. shown e ∷ xs) (lent_put t n es)
]

-- what is looked up is how often the triple was counted
pub count_found : (us : List Triple) (t : Triple) (es : List (Bor Triple × ℕ)) → map shown es ≡ tally us → unwrap_or (lookup (is_at (λ b. triple_cmp t b.now)) es) 0 ≡ count_of us t
count_found us t es e = ap (λ o. unwrap_or o 0) (lent_found t es ∙ ap (find triple_cmp t) e) ∙ found us t

-- counted once more, the entries are the tally with that triple
pub count_grown : (us : List Triple) (t : Bor Triple) (n : ℕ) (es : List (Bor Triple × ℕ)) → map shown es ≡ tally us → n ≡ count_of us t.now → map shown (insert_entry lent_cmp es t (n + 1)) ≡ tally (t.now ∷ us)
count_grown us t n es e c =
    let more : n + 1 ≡ 1 + count_of us t.now = omega (arith, c) in
    lent_put t (n + 1) es ∙ ((λ i. put triple_cmp t.now (more i) (e i)) ∙ sym (tally_put t.now us))

-- a triple is in a list no more often than the list is long
pub counted_within : (us : List Triple) (t : Triple) → count_of us t ≤ length us
counted_within [] t = omega arith
counted_within (u ∷ us) t =
    let rest = counted_within us t in
    elim (same_triple u t) as (λ b. (if b then 1 else 0) + count_of us t ≤ suc (length us)) [ true ↦ omega (arith, rest) | false ↦ omega (arith, rest) ]
