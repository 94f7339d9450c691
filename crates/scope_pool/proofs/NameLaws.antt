-- Open scopes in the order of their names.
use Rattle.std.proofs.Common.{not, ◌≡◌, ℕ, zero, suc, ◌==◌, ◌||◌, ◌<◌, ◌≤◌, List, [], ◌∷◌, ◌++◌, length, get_or, set, drop, take, ◌-◌, filter, Option, Result, Ok, Err, true, false, Bool, cond, All, refl, ap, sym, ◌∙◌, arith, subst, inl, inr, Some, None}
use Rattle.std.proofs.lemmas.Bool.{cases_lt}
use Rattle.std.proofs.lemmas.Bool.Decides.{nat_tests}
use Rattle.std.proofs.lemmas.Cmp.{ranked}
use Rattle.std.proofs.lemmas.List.Elements.{All-filter, All-push, All-set, All-tail}
use Rattle.std.proofs.lemmas.List.Folds.{list_any-append}
use Rattle.std.proofs.Math.ListN.{length-set}
use Rattle.std.specs.List.{remove}
use Rattle.std.specs.List.Sorted.{IsBinarySearchResult, IsNonDecreasingBy, IsSearchInRange}
use Rattle.std.specs.Ordering.{nat_cmp, ordering_index}
use Rattle.scope_pool.specs.Layout.{AreChained, Finds, IsAscending, IsChained, KeepsOthers, KeepsScopes, link_at, among, among_maybe, found_from, newest_first, shown}
use Rattle.scope_pool.specs.Region.{is_open}
use Rattle.scope_pool.specs.declared.scopes.Scope.{Scope}
use Rattle.scope_pool.specs.declared.slots.Slot.{Slot}

pub ascending_at : (ss : List Scope) → IsAscending ss → (i j : ℕ) (d : Scope) → i < j → j < length ss → (get_or ss i d).name < (get_or ss j d).name
ascending_at [] up i j d h within = absurd (omega arith)
ascending_at (s ∷ ss) up i zero d h within = absurd (omega arith)
ascending_at (s ∷ ss) up zero (suc j) d h within = up.0 j d (omega arith)
ascending_at (s ∷ ss) up (suc i) (suc j) d h within = ascending_at ss up.1 i j d (omega arith) (omega arith)

pub ascending_push : (ss : List Scope) (s : Scope) → IsAscending ss → All (λ t. t.name < s.name) ss → IsAscending (ss ++ s ∷ [])
ascending_push [] s up below = (λ i d h. absurd (omega arith), tt)
ascending_push (t ∷ ss) s up below =
    (All-push (λ (u : Scope). t.name < u.name) ss s up.0 (below 0 t (omega arith)), ascending_push ss s up.1 (All-tail (λ u. u.name < s.name) t ss below))

pub ascending_filter : (keep : Scope → Bool) (ss : List Scope) → IsAscending ss → IsAscending (filter keep ss)
ascending_filter keep [] up = tt
ascending_filter keep (s ∷ ss) up =
    let rest = ascending_filter keep ss up.1 in
    elim (keep s) as (λ b. IsAscending (cond b (s ∷ filter keep ss) (filter keep ss)))
    [ true ↦ (All-filter keep (λ t. s.name < t.name) ss up.0, rest) | false ↦ rest ]

ascending_set : (ss : List Scope) (i : ℕ) (x : Scope) → i < length ss → ((d : Scope) → x.name ≡ (get_or ss i d).name) → IsAscending ss → IsAscending (set ss i x)
ascending_set [] i x h same up = up
ascending_set (s ∷ ss) zero x h same up = (subst (λ n. All (λ t. n < t.name) ss) (sym (same s)) up.0, up.1)
ascending_set (s ∷ ss) (suc i) x h same up =
    (All-set (λ (t : Scope). s.name < t.name) ss i x (subst (λ n. s.name < n) (sym (same s)) (up.0 i s (omega arith))) up.0, ascending_set ss i x (omega arith) same up.1)

newest_set : (ss : List Scope) (i : ℕ) (x : Scope) → ((d : Scope) → i < length ss → shown x ≡ shown (get_or ss i d)) → newest_first (set ss i x) ≡ newest_first ss
newest_set [] i x same = refl
newest_set (s ∷ ss) zero x same = ap (λ t. newest_first ss ++ t ∷ []) (same s (omega arith))
newest_set (s ∷ ss) (suc i) x same = ap (λ ts. ts ++ shown s ∷ []) (newest_set ss i x (λ d h. same d (omega arith)))

-- a scope with another last place
pub keeps_set : (ss : List Scope) (i : ℕ) (x : Scope) (last : Option ℕ) → i < length ss → ((d : Scope) → get_or ss i d ≡ x) → KeepsScopes ss (set ss i (record x { last = last }))
keeps_set ss i x last h is = record {
  seen = newest_set ss i (record x { last = last }) (λ d within. ap shown (sym (is d)));
  len = length-set ss i (record x { last = last });
  ascending = ascending_set ss i (record x { last = last }) h (λ d. ap (λ s. s.name) (sym (is d)));
  used = λ next below. All-set (λ (s : Scope). s.name < next) ss i (record x { last = last }) (subst (λ (s : Scope). s.name < next) (is x) (below i x h)) below;
}

pub keeps_none : (ss : List Scope) → KeepsScopes ss ss
keeps_none ss = record { seen = refl; len = refl; ascending = λ up. up; used = λ next below. below }

pub keeps_then : (a b c : List Scope) → KeepsScopes a b → KeepsScopes b c → KeepsScopes a c
keeps_then a b c k l = record {
  seen = l.seen ∙ k.seen;
  len = l.len ∙ k.len;
  ascending = λ up. l.ascending (k.ascending up);
  used = λ next below. l.used next (k.used next below);
}

-- ---- searching

not_there : (ss : List Scope) (n : ℕ) → ((j : ℕ) (d : Scope) → j < length ss → (get_or ss j d).name ≡ n → ⊥) → is_open (newest_first ss) n ≡ false
not_there [] n none = refl
not_there (s ∷ ss) n none =
    let here : s.name ≡ n → ⊥ = none 0 s (omega arith) in
    let differ : (s.name == n) ≡ false = grind (arith, nat_tests, here) in
    let rest = not_there ss n (λ j d h e. none (suc j) d (omega arith) e) in
    let whole : is_open (newest_first ss ++ shown s ∷ []) n ≡ (is_open (newest_first ss) n || (s.name == n || false)) = list_any-append (λ t. t.name == n) (newest_first ss) (shown s ∷ []) in
    rw (whole, differ, rest) refl

names_rise : (ss : List Scope) (n : ℕ) → IsAscending ss → IsNonDecreasingBy (λ s. ordering_index (nat_cmp s.name n)) ss
names_rise ss n up = λ i j d le within.
    let rise : (get_or ss i d).name ≤ (get_or ss j d).name = grind (arith, ascending_at ss up i j d, λ (same : i ≡ j). ap (λ k. (get_or ss k d).name) same) in
    grind (arith, nat_tests)

pub found_by : (n : ℕ) (ss : List Scope) → IsAscending ss → (r : Result ℕ ℕ) → IsSearchInRange r (length ss) → IsBinarySearchResult (λ s. nat_cmp s.name n) ss r → Finds n ss r
found_by n ss up (Ok i) within says = (within, λ d. ranked _ n _ (sym (says d)))
found_by n ss up (Err i) within says =
    let parted = says (names_rise ss n up) in
    not_there ss n (λ j d h e. elim (cases_lt j i) [
      | inl low ↦ let less : (get_or ss j d).name < n = ranked _ n _ (sym (parted.0 j d (omega arith) low)) in omega (arith, less, e)
      | inr high ↦ let more : n < (get_or ss j d).name = ranked _ n _ (sym (parted.1 j d high h)) in omega (arith, more, e)
    ])

-- ---- a scope's chain changes

all_cons : {X : Type 0} (P : X → Type 0) (x : X) (xs : List X) → P x → All P xs → All P (x ∷ xs)
all_cons P x xs p ps zero d h = p
all_cons P x xs p ps (suc j) d h = ps j d (omega arith)

-- one element is another, and the others have it
all_set_but : {X : Type 0} (P : X → Type 0) (xs : List X) (i : ℕ) (x : X) → P x → ((j : ℕ) (d : X) → (j == i) ≡ false → j < length xs → P (get_or xs j d)) → All P (set xs i x)
all_set_but P [] i x p others = λ j d h. absurd (omega arith)
all_set_but P (y ∷ ys) zero x p others = all_cons P x ys p (λ j d h. others (suc j) d (grind (arith, nat_tests)) (omega arith))
all_set_but P (y ∷ ys) (suc i) x p others =
    all_cons P y (set ys i x) (others 0 y (grind (arith, nat_tests)) (omega arith))
    (all_set_but P ys i x p (λ j d e h. others (suc j) d (grind (arith, nat_tests, e)) (omega arith)))

names_apart : (ss : List Scope) → IsAscending ss → (i j : ℕ) (d : Scope) → i < length ss → j < length ss → (j == i) ≡ false → ((get_or ss j d).name == (get_or ss i d).name) ≡ false
names_apart ss up i j d hi hj ne = grind (arith, nat_tests, ne, ascending_at ss up i j d, ascending_at ss up j i d)

module _ {T : Type 0} where
  -- the chain of one scope changes, and the others stay
  pub chained_set : (old new : List (Slot T)) (ss : List Scope) (i : ℕ) (x : Scope) (last : Option ℕ) → IsAscending ss → i < length ss → ((d : Scope) → get_or ss i d ≡ x) →
      KeepsOthers x.name old new → IsChained (link_at new) x.name last → AreChained old ss → AreChained new (set ss i (record x { last = last }))
  chained_set old new ss i x last up h is others here was =
      all_set_but (λ s. IsChained (link_at new) s.name s.last) ss i (record x { last = last }) here (λ j d ne within.
      let apart : ((get_or ss j d).name == x.name) ≡ false = subst (λ (s : Scope). ((get_or ss j d).name == s.name) ≡ false) (is d) (names_apart ss up i j d h within ne) in
      others (get_or ss j d).name (get_or ss j d).last apart (was j d within))

-- ---- where a pass begins

none_among : (o : Option ℕ) → among_maybe [] o ≡ false
none_among None = refl
none_among (Some n) = refl

skipped : (outer : ℕ) (ss : List Scope) (i : ℕ) → i ≤ length ss → ((j : ℕ) (d : Scope) → j < i → ((get_or ss j d).name == outer) ≡ false) → found_from outer [] (drop i ss) ≡ found_from outer [] ss
skipped outer [] zero h below = refl
skipped outer [] (suc i) h below = refl
skipped outer (s ∷ ss) zero h below = refl
skipped outer (s ∷ ss) (suc i) h below =
    let before : (s.name == outer) ≡ false = below 0 s (omega arith) in
    let none : among_maybe [] s.parent ≡ false = none_among s.parent in
    skipped outer ss i (omega arith) (λ j d less. below (suc j) d (omega arith))
    ∙ ap (λ b. found_from outer (cond b (s.name ∷ []) []) ss) (sym (ap (λ b. b || among_maybe [] s.parent) before ∙ none))

take_whole : (ss : List Scope) → take (length ss) ss ≡ ss
take_whole [] = refl
take_whole (s ∷ ss) = ap (λ ts. s ∷ ts) (take_whole ss)

take_none : (n : ℕ) → ◌≡◌ {A = List Scope} (take n []) []
take_none zero = refl
take_none (suc n) = refl

take_rest : (ss : List Scope) (i : ℕ) → take (length ss - i) (drop i ss) ≡ drop i ss
take_rest [] zero = refl
take_rest [] (suc i) = take_none (length {A = Scope} [] - suc i)
take_rest (s ∷ ss) zero =
    let all : length (s ∷ ss) - 0 ≡ suc (length ss) = omega arith in
    ap (λ n. take n (s ∷ ss)) all ∙ take_whole (s ∷ ss)
take_rest (s ∷ ss) (suc i) =
    let fewer : length (s ∷ ss) - suc i ≡ length ss - i = omega arith in
    ap (λ n. take n (drop i ss)) fewer ∙ take_rest ss i

-- no older scope is within one
pub found_newer : (outer : ℕ) (ss : List Scope) (i : ℕ) → IsAscending ss → i < length ss → ((d : Scope) → (get_or ss i d).name ≡ outer) →
    found_from outer [] (take (length ss - i) (drop i ss)) ≡ found_from outer [] ss
found_newer outer ss i up h named =
    ap (found_from outer []) (take_rest ss i) ∙ skipped outer ss i (omega (arith, h)) (λ j d less.
    let below : (get_or ss j d).name < (get_or ss i d).name = ascending_at ss up j i d less h in
    grind (arith, nat_tests, below, named d))

-- ---- one scope goes

kept_above : (n : ℕ) (ss : List Scope) → All (λ t. n < t.name) ss → filter (λ s. not (among (n ∷ []) s.name)) ss ≡ ss
kept_above n [] above = refl
kept_above n (s ∷ ss) above =
    let more : n < s.name = above 0 s (omega arith) in
    let differ : (n == s.name) ≡ false = grind (arith, nat_tests, more) in
    let rest = kept_above n ss (All-tail (λ t. n < t.name) s ss above) in
    ap (λ b. cond (not (b || false)) (s ∷ filter (λ s. not (among (n ∷ []) s.name)) ss) (filter (λ s. not (among (n ∷ []) s.name)) ss)) differ ∙ ap (λ ts. s ∷ ts) rest

-- the scopes without one are those of other names
pub removed : (n : ℕ) (ss : List Scope) (i : ℕ) → IsAscending ss → i < length ss → ((d : Scope) → (get_or ss i d).name ≡ n) → remove ss i ≡ filter (λ s. not (among (n ∷ []) s.name)) ss
removed n [] i up h named = absurd (omega arith)
removed n (s ∷ ss) zero up h named =
    let here : s.name ≡ n = named s in
    let same : (n == s.name) ≡ true = grind (arith, nat_tests, here) in
    let rest = kept_above n ss (subst (λ m. All (λ t. m < t.name) ss) here up.0) in
    sym rest ∙ ap (λ b. cond (not (b || false)) (s ∷ filter (λ s. not (among (n ∷ []) s.name)) ss) (filter (λ s. not (among (n ∷ []) s.name)) ss)) (sym same)
removed n (s ∷ ss) (suc i) up h named =
    let less : s.name < n = subst (λ m. s.name < m) (named s) (up.0 i s (omega arith)) in
    let differ : (n == s.name) ≡ false = grind (arith, nat_tests, less) in
    ap (λ ts. s ∷ ts) (removed n ss i up.1 (omega arith) named)
    ∙ ap (λ b. cond (not (b || false)) (s ∷ filter (λ s. not (among (n ∷ []) s.name)) ss) (filter (λ s. not (among (n ∷ []) s.name)) ss)) (sym differ)

pub removed_one : (ns : List ℕ) (ss : List Scope) (i : ℕ) → length ns ≡ 1 → IsAscending ss → i < length ss → ((d : Scope) → (get_or ss i d).name ≡ get_or ns 0 0) →
    remove ss i ≡ filter (λ s. not (among ns s.name)) ss
removed_one [] ss i one up h named = absurd (omega (arith, one))
removed_one (n ∷ []) ss i one up h named = removed n ss i up h named
removed_one (n ∷ m ∷ ns) ss i one up h named = absurd (omega (arith, one))
